-- `text_areas::lay_texts` meets its contract. Assumes nothing.
use Rattle.std.proofs.Common.{◌≡◌, List, ℕ, ◌+◌, ◌<◌, length, sym, subst, arith}
use Rattle.writer.proofs.Copies.{same_size}
use Rattle.std.specs.declared.result.Result.TheVariants as D
use Rattle.base.specs.declared.refusals.Refusal.TheVariants.{TooMuchText}
use Rattle.base.specs.Form.{form_of}
use Rattle.texts.specs.Joins.{join_in}
use Rattle.text_areas.specs.Areas.{laid_parts, AreaLaid}
use Rattle.text_areas.proofs.Laying.{codes_read, text_at, laying_read, laying_size, laying_over, laying_more, laying_end, area_over, area_given}
use Rattle.text_areas.proofs.lay_texts.Goals as goal

pub returns-then-limit-at : goal.returns-then-limit-at
returns-then-limit-at c =
    let l = c.loop-i in
    let a = c.args in
    let F = form_of a.f in
    let left = a.left.now in
    let right = a.right.now in
    let s = a.values.now in
    let next = c.loop-i-test.true in
    let size = laying_size F left right s a.t l.invariant.laying next c.u64_at-c.ensures (c.requires.by_index l.i next) c.join_length-size.ensures in
    let above : F.text_limit < l.at + length (text_at F left right s l.i) = omega arith in
    let over = laying_over F left right s a.t l.invariant.laying next F.text_limit above in
    λ cs bytes fits.
    subst (λ (xs : List (List ℕ)). AreaLaid F a.n a.t xs l.values (D.Err TooMuchText))
    (codes_read (join_in F left right) s a.t cs (omega arith) bytes fits)
    (area_over F a.n a.t _ l.values over)

pub put_join-requires : goal.put_join-requires
put_join-requires c =
    let l = c.loop-i in
    let a = c.args in
    let F = form_of a.f in
    let left = a.left.now in
    let right = a.right.now in
    let s = a.values.now in
    let next = c.loop-i-test.true in
    let lies = c.requires.by_index l.i next in
    let size = laying_size F left right s a.t l.invariant.laying next c.u64_at-c.ensures lies c.join_length-size.ensures in
    rw (laying_read F left right s a.t l.invariant.laying next c.u64_at-c.ensures) (lies, omega arith)

pub loop-i-preserved : goal.loop-i-preserved
loop-i-preserved c =
    let l = c.loop-i in
    let a = c.args in
    let F = form_of a.f in
    let left = a.left.now in
    let right = a.right.now in
    let s = a.values.now in
    let next = c.loop-i-test.true in
    let size = laying_size F left right s a.t l.invariant.laying next c.u64_at-c.ensures (c.requires.by_index l.i next) c.join_length-size.ensures in
    let wrote = rw (laying_read F left right s a.t l.invariant.laying next c.u64_at-c.ensures) at c.put_join.ensures in record {
      within = omega arith;
      laying = laying_more F left right s a.t l.invariant.laying next size (omega arith) c.put_spot.auto.values c.put_spot.ensures.0 c.put_spot.ensures.1 (same_size wrote (sym size));
    }

pub returns : goal.returns
returns c =
    let l = c.loop-i in
    let a = c.args in
    let F = form_of a.f in
    let s = a.values.now in
    let all : l.i ≡ a.t = omega arith in
    let done = laying_end F a.left.now a.right.now s a.t l.invariant.laying all in
    λ cs bytes fits.
    rw c.numbers_length.ensures.0
    (subst (λ (xs : List (List ℕ)). AreaLaid F a.n a.t xs l.values (D.Ok (laid_parts F a.n a.t l.at)))
    (codes_read (join_in F a.left.now a.right.now) s a.t cs (omega arith) bytes fits)
    (area_given F a.n a.t _ l.values l.at l.invariant.within done.0 done.1))
