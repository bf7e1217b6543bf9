-- `text_columns::note_pairs` meets its contract. Assumes nothing.
use Rattle.std.proofs.Common.{◌≡◌, pos, w64, to_z, of_z, take, get_or, rules, arith}
use Rattle.std.proofs.lemmas.List.{take_all}
use Rattle.base.specs.Form.{form_of}
use Rattle.base.specs.Encode.{whole_bits}
use Rattle.texts.specs.Joins.{join_code, same_join}
use Rattle.text_columns.specs.Codes.{pair_codes}
use Rattle.text_columns.proofs.Pairs.{row_more, pairs_more, join_read, stored_none, stored_more, part_lies, pair_lies}
use Rattle.text_columns.proofs.note_pairs.Goals as goal

pub loop-a-init : goal.loop-a-init
unfolding pair_codes
loop-a-init c =
    let a = c.args in
    record { bound = omega arith; lies = λ i h. absurd (omega arith); stored = stored_none (same_join (form_of a.f) a.left.now a.right.now) a.store.now }

pub join-requires : goal.join-requires
join-requires c =
    let x : c.complement-p.result ≡ whole_bits (get_or (take c.args.l c.args.us.now) c.loop-a.a-index (pos 0)) = search rules in
    let y : c.complement.result ≡ whole_bits (get_or (take c.args.r c.args.bs.now) c.loop-b.b-index (pos 0)) = search rules in
    let p = part_lies c.args.us.now c.requires.by_index.0 c.loop-a.a-index c.loop-a-test.true x in
    let q = part_lies c.args.bs.now c.requires.by_index.1 c.loop-b.b-index c.loop-b-test.true y in
    (p.small, q.small)

pub note_join-k-requires : goal.note_join-k-requires
note_join-k-requires c =
    let l = c.loop-b in
    let x : c.complement-p.result ≡ whole_bits (get_or (take c.args.l c.args.us.now) c.loop-a.a-index (pos 0)) = search rules in
    let y : c.complement.result ≡ whole_bits (get_or (take c.args.r c.args.bs.now) l.b-index (pos 0)) = search rules in
    let p = part_lies c.args.us.now c.requires.by_index.0 c.loop-a.a-index c.loop-a-test.true x in
    let q = part_lies c.args.bs.now c.requires.by_index.1 l.b-index c.loop-b-test.true y in
    let back : to_z w64 (of_z w64 c.signed-z.result) ≡ c.signed-z.result = search rules in
    (l.invariant.bound, omega arith, l.invariant.lies, pair_lies p q c.join.ensures c.signed-z.ensures back)

pub loop-b-preserved : goal.loop-b-preserved
loop-b-preserved c =
    let l = c.loop-b in
    let a = c.args in
    let us = take a.l a.us.now in
    let bs = take a.r a.bs.now in
    let x = get_or us c.loop-a.a-index (pos 0) in
    let y = get_or bs l.b-index (pos 0) in
    let left : c.complement-p.result ≡ whole_bits x = search rules in
    let right : c.complement.result ≡ whole_bits y = search rules in
    let back : to_z w64 (of_z w64 c.signed-z.result) ≡ c.signed-z.result = search rules in
    let read = join_read x y left right c.join.ensures c.signed-z.ensures back in
    let done = pair_codes (take c.loop-a.a-index us) bs in
    let noting = c.note_join-k in record {
      bound = omega (arith, noting.ensures.0);
      lies = noting.ensures.1;
      stored = stored_more (same_join (form_of a.f) a.left.now a.right.now) _ read (row_more done (join_code x) bs l.b-index c.loop-b-test.true) noting.ensures.2 l.invariant.stored;
    }

pub loop-a-preserved : goal.loop-a-preserved
loop-a-preserved c =
    let l = c.loop-b in
    let a = c.args in
    let us = take a.l a.us.now in
    let bs = take a.r a.bs.now in
    let row : take l.b-index bs ≡ bs = take_all l.b-index bs c.loop-b-test.false in
    record { bound = l.invariant.bound; lies = l.invariant.lies; stored = rw (pairs_more us bs c.loop-a.a-index c.loop-a-test.true) (rw row at l.invariant.stored) }
