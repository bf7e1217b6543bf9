-- `unions::note_both` meets its contract. Assumes nothing.
use Rattle.std.proofs.Common.{[], take, rules, arith}
use Rattle.numbers.specs.Kind.{eq_z}
use Rattle.utilities.specs.Lists.{firsts}
use Rattle.utilities.proofs.Firsts.{firsts_from_append}
use Rattle.utilities.proofs.Hints.{hinting_none}
use Rattle.category_lists.proofs.Gathering.{stored_list}
use Rattle.unions.proofs.note_both.Goals as goal

pub note_values-m-requires : goal.note_values-m-requires
note_values-m-requires c = search (rules, hinting_none)

pub returns : goal.returns
unfolding firsts
returns c =
    let second = c.note_values in
    let first = c.note_values-m in
    let a = c.args in
    let stored = second.ensures.2 _ (first.ensures.2 [] (stored_list a.store.now (omega arith))) in
    (omega (arith, second.ensures.0, first.auto.store), rw (firsts_from_append eq_z [] (take a.l a.us.now) (take a.r a.bs.now)) stored)
