-- Parts of a work buffer: a slot's sheet, and the rest from a place on, lent and given back.
--     part_lent, part_back        a part from a place to the end
--     ends_capped, ends_called    where a sheet ends
--     slot_holds                  a slot tells the nature of its sheet
-- Assumes nothing.
use mathlib.Core.Path.{◌≡◌, sym, ap}
use mathlib.Core.List.{List, [], ◌++◌, append-nil}
use Prim.Native.Nat.{ℕ, ◌+◌, ◌-◌, ◌≤◌, ◌<◌}
use native.Mathlib.Nat.{add-sub_cancel_left}
use native.Mathlib.Omega.{arith}
use lib.ListN.{length, take, drop, get_or, length-take, length-drop, drop_of_length-le}
use lib.Seq.{take_all, take-take, get_or-take, length-take-le}
use borrow.Rule.Slice.PartMut.{put_mid}
use borrow.Author.Tests.{le-leb}
use Rattle.base.specs.Form.{narrow, nature_at, longest, length_called_for}
use Rattle.calls.specs.Walk.{slot_at, slot, sheet_in}
use Rattle.lending.specs.Code.{holds_categories}
use Rattle.plan_leaves.specs.Code.{SlotIn, EndsAt}

module _ (a : ℕ) (xs : List ℕ) where
  -- what is lent
  pub part_lent : take (length xs - a) (drop a xs) ≡ drop a xs
  part_lent = take_all (length xs - a) (drop a xs) (omega (arith, length-drop a xs))

  -- what the whole is when the part is back as ys
  pub part_back : (ys : List ℕ) → put_mid a (length xs - a) xs ys ≡ take a xs ++ ys
  part_back ys =
      let none : drop (length xs - a) (drop a xs) ≡ [] = drop_of_length-le (drop a xs) {i = length xs - a} (omega (arith, length-drop a xs)) in
      rw none (ap (λ (l : List ℕ). take a xs ++ l) (append-nil ys))

-- n is the length called for
module _ (work : List ℕ) (k n : ℕ) (called : n ≡ length_called_for narrow (slot narrow k work)) where
  pub ends_capped : longest narrow < n → EndsAt work k (slot_at narrow k + longest narrow)
  unfolding sheet_in
  ends_capped h =
      let s = slot narrow k work in
      let whole : take n s ≡ s = take_all n s (omega (arith, length-take (longest narrow) (drop (slot_at narrow k) work))) in
      record {
        behind = omega arith;
        within = omega arith;
        bytes = rw (add-sub_cancel_left, ← called) (sym whole);
      }

  pub ends_called : n ≤ longest narrow → EndsAt work k (slot_at narrow k + n)
  unfolding sheet_in
  ends_called h =
      record {
        behind = omega arith;
        within = omega arith;
        bytes = rw (add-sub_cancel_left, ← called) (sym (take-take n (longest narrow) (drop (slot_at narrow k) work) h));
      }

-- every sheet has its fields
pub slot_holds : (work : List ℕ) (k : ℕ) → SlotIn work k → holds_categories narrow (slot narrow k work) ≡ holds_categories narrow (sheet_in narrow k work)
unfolding sheet_in
slot_holds work k room =
    let s = slot narrow k work in
    let n = length_called_for narrow s in
    let whole : length s ≡ longest narrow = length-take-le (longest narrow) (drop (slot_at narrow k) work) (omega (arith, length-drop (slot_at narrow k) work)) in
    let long : narrow.arrays_at ≤ n = omega arith in
    let cut : narrow.arrays_at ≤ length (take n s) = omega (arith, length-take n s) in
    let same : get_or (take n s) nature_at 0 ≡ get_or s nature_at 0 = get_or-take n s nature_at 0 (omega arith) in
    rw (le-leb narrow.arrays_at (length s) (omega arith), le-leb narrow.arrays_at (length (take n s)) cut, same)
