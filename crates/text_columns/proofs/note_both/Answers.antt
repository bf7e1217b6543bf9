-- `text_columns::note_both` meets its contract. Assumes nothing.
use Rattle.std.proofs.Common.{◌≡◌, pos, w64, to_z, of_z, take, get_or, refl, rules, arith}
use Rattle.std.proofs.lemmas.List.{take_more}
use Rattle.base.specs.Form.{form_of}
use Rattle.base.specs.Encode.{whole_bits}
use Rattle.texts.specs.Joins.{join_code, same_join}
use Rattle.text_columns.proofs.Pairs.{row_more, join_read, stored_none, stored_more, part_lies, pair_lies}
use Rattle.text_columns.proofs.note_both.Goals as goal

pub loop-z-init : goal.loop-z-init
loop-z-init c =
    let a = c.args in
    record { bound = omega arith; lies = λ i h. absurd (omega arith); stored = stored_none (same_join (form_of a.f) a.left.now a.right.now) a.store.now }

pub loop-z-preserved : goal.loop-z-preserved
loop-z-preserved c =
    let l = c.loop-z in
    let a = c.args in
    let us = take a.l a.us.now in
    let x = get_or us l.z-index (pos 0) in
    let read : to_z w64 (of_z w64 x) ≡ x = search rules in
    let noting = c.note_join-k in record {
      bound = omega (arith, noting.ensures.0);
      lies = noting.ensures.1;
      stored = stored_more (same_join (form_of a.f) a.left.now a.right.now) (take l.z-index us) read (take_more us l.z-index (pos 0) c.loop-z-test.true) noting.ensures.2 l.invariant.stored;
    }

pub note_join-k-requires-in-loop-b : goal.note_join-k-requires-in-loop-b
note_join-k-requires-in-loop-b c =
    let l = c.loop-b in
    let part : c.complement.result ≡ whole_bits (get_or (take c.args.r c.args.bs.now) l.b-index (pos 0)) = search rules in
    let lies = part_lies c.args.bs.now c.requires.by_index.1 l.b-index c.loop-b-test.true part in
    let back : to_z w64 (of_z w64 c.signed-z.result) ≡ c.signed-z.result = search rules in
    (l.invariant.bound, omega arith, l.invariant.lies, pair_lies c.requires.by_index.2 lies c.join.ensures c.signed-z.ensures back)

pub loop-b-preserved : goal.loop-b-preserved
loop-b-preserved c =
    let l = c.loop-b in
    let a = c.args in
    let us = take a.l a.us.now in
    let bs = take a.r a.bs.now in
    let y = get_or bs l.b-index (pos 0) in
    let part : c.complement.result ≡ whole_bits y = search rules in
    let back : to_z w64 (of_z w64 c.signed-z.result) ≡ c.signed-z.result = search rules in
    let read = join_read (pos 0) y refl part c.join.ensures c.signed-z.ensures back in
    let noting = c.note_join-k-in-loop-b in record {
      bound = omega (arith, noting.ensures.0);
      lies = noting.ensures.1;
      stored = stored_more (same_join (form_of a.f) a.left.now a.right.now) _ read (row_more us (join_code (pos 0)) bs l.b-index c.loop-b-test.true) noting.ensures.2 l.invariant.stored;
    }
