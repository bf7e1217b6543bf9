-- `unions::unions_into` meets its contract. Assumes nothing.
use Rattle.std.proofs.Common.{refl, sym, ap₂}
use Rattle.numbers.specs.Kind.{eq_z}
use Rattle.utilities.specs.Lists.{firsts}
use Rattle.base.specs.Form.{form_of}
use Rattle.base.specs.Decode.{as_whole}
use Rattle.category_lists.specs.Categories.{union}
use Rattle.category_lists.proofs.Columnwise.{alike}
use Rattle.category_lists.proofs.Gathering.{going_start, going_more, going_gathered, going_within}
use Rattle.unions.proofs.unions_into.Invariants.{union_in}
use Rattle.unions.proofs.unions_into.Goals as goal

pub loop-j-init : goal.loop-j-init
loop-j-init c =
    let a = c.args in
    going_start (form_of a.f) (union_in (form_of a.f) a.left.now a.right.now) a.n a.numbers.now a.values.now

pub loop-j-preserved : goal.loop-j-preserved
unfolding union
loop-j-preserved c =
    let add = c.append_columns-t in
    let a = c.args in
    let end = c.column_end-end.ensures in
    let column = sym (ap₂ (union eq_z) c.column_list-l.ensures.start c.column_list-r.ensures.start) in
    let same = alike (λ l m. union eq_z (firsts eq_z l) (firsts eq_z m)) (form_of a.f) a.left.now a.right.now as_whole c.loop-j.j c.column_end-end.result end.2 column in
    going_more c.loop-j.invariant refl end.1 c.note_both-k.ensures.1 same (add.ensures _ a.n _) add.auto.numbers add.auto.values

pub returns : goal.returns
returns c =
    let going = c.loop-j.invariant in
    (going_gathered going c.args.nature c.loop-j-test.false c.gather.ensures, going_within going c.args.nature c.requires.n_bound c.requires.stores.1 c.gather.ensures)
