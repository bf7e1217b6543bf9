-- `ranges::range_pair` meets its contract: 18, left's list first, then the columns. Assumes nothing.
use mathlib.Core.Path.{◌≡◌, refl, sym, ap, ◌∙◌}
use mathlib.Core.Bool.{Bool, not}
use Prim.Native.Nat.{ℕ}
use borrow.Author.Tests.{not-false}
use Rattle.numbers.specs.Result.{checked}
use Rattle.base.specs.Form.{form_of}
use Rattle.utilities.specs.Columns.{spreads}
use Rattle.base.proofs.Passed.{passed, long_enough, sized, range_fits}
use Rattle.ranges.proofs.Sheets.{derived_is}
use Rattle.ranges.proofs.range_pair.Goals as goal

-- what `spreads` says of the count that was read, it says of the sheet's; t is the code's test
counted : (columns : ℕ) {n m : ℕ} {r t : Bool} → n ≡ m → r ≡ spreads columns n → not r ≡ t → not (spreads columns m) ≡ t
counted columns e s h = ap (λ (k : ℕ). not (spreads columns k)) (sym e) ∙ ap not (sym s) ∙ h

pub sizes_at-l-requires : goal.sizes_at-l-requires
sizes_at-l-requires c = long_enough (passed (form_of c.args.f) c.args.left.now c.requires.0)

pub sizes_at-r-requires : goal.sizes_at-r-requires
sizes_at-r-requires c = long_enough (passed (form_of c.args.f) c.args.right.now c.requires.2)

pub returns-then-not-spreads : goal.returns-then-not-spreads
unfolding checked
returns-then-not-spreads c =
    let a = c.args in
    let uneven = counted a.columns c.sizes_at-l.ensures.lists c.spreads.ensures (ap not c.if-not-spreads.true) in
    (rw (derived_is (form_of a.f) a.float a.c a.data_type a.columns a.left.now a.right.now, uneven), tt)

-- It stands before `returns-then-not-spreads-2`: where another count is tested that arm may be out of reach, and it is here that nothing tells of the right list.
pub put_columns-requires : goal.put_columns-requires
put_columns-requires c =
    let p = c.requires in
    let n = c.sizes_at-l.result.lists in
    let m = c.sizes_at-r.result.lists in
    let columns = c.args.columns in (
      range_fits (sized (form_of c.args.f) c.args.left.now p.0 c.sizes_at-l.ensures) p.1,
      not-false (spreads columns n) (counted columns refl c.spreads.ensures (ap not c.if-not-spreads.false)),
      range_fits (sized (form_of c.args.f) c.args.right.now p.2 c.sizes_at-r.ensures) p.3,
      not-false (spreads columns m) (counted columns refl c.spreads-2.ensures (ap not c.if-not-spreads-2.false)),
      p.4,
      p.5,
      p.6,
    )

pub returns-then-not-spreads-2 : goal.returns-then-not-spreads-2
unfolding checked
returns-then-not-spreads-2 c =
    let a = c.args in
    let even = counted a.columns c.sizes_at-l.ensures.lists c.spreads.ensures (ap not c.if-not-spreads.false) in
    let uneven = counted a.columns c.sizes_at-r.ensures.lists c.spreads-2.ensures (ap not c.if-not-spreads-2.true) in
    (rw (derived_is (form_of a.f) a.float a.c a.data_type a.columns a.left.now a.right.now, even, uneven), tt)

pub returns : goal.returns
unfolding checked
returns c =
    let a = c.args in
    let left = counted a.columns c.sizes_at-l.ensures.lists c.spreads.ensures (ap not c.if-not-spreads.false) in
    let right = counted a.columns c.sizes_at-r.ensures.lists c.spreads-2.ensures (ap not c.if-not-spreads-2.false) in (
      rw (derived_is (form_of a.f) a.float a.c a.data_type a.columns a.left.now a.right.now, left, right) c.put_columns.ensures.0,
      c.put_columns.ensures.1,
    )
