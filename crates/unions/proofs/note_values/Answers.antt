-- `unions::note_values` meets its contract. Assumes nothing.
use Rattle.std.proofs.Common.{◌≡◌, [], ◌∷◌, pos, w64, to_z, of_z, take, get_or, rules, arith}
use Rattle.std.proofs.lemmas.List.{take_more}
use Rattle.numbers.specs.Kind.{eq_z}
use Rattle.utilities.specs.Lists.{firsts_from}
use Rattle.utilities.proofs.Firsts.{firsts_from_append}
use Rattle.unions.proofs.note_values.Goals as goal

pub loop-v-init : goal.loop-v-init
unfolding firsts_from
loop-v-init c = record { bound = c.requires.0; hinted = c.requires.3; stored = λ seen h. h }

pub loop-v-preserved : goal.loop-v-preserved
unfolding firsts_from
loop-v-preserved c =
    let noting = c.note_result-count in
    let l = c.loop-v in
    let items = take c.args.n c.args.values.now in
    let v = get_or items l.v-index (pos 0) in
    let read : to_z w64 (of_z w64 v) ≡ v = search rules in record {
      bound = omega (arith, noting.ensures.0);
      hinted = noting.ensures.1;
      stored = λ seen h.
          rw (take_more items l.v-index (pos 0) c.loop-v-test.true, firsts_from_append eq_z seen (take l.v-index items) (v ∷ []))
          (rw read at (noting.ensures.2 _ (l.invariant.stored seen h)));
    }
