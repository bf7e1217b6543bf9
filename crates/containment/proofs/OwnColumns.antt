-- 02, S-5's "at that leaf's own column count" is needed: the plan of `specs/OwnColumns` is accepted and meets every other premise of demand 3, and the result of
-- a column is in no list of its node.
--     sum_accepted    the call's reply, and every byte that it leaves
--     sum_outside     the premises, the row and the result
-- By computation. Assumes nothing.
use mathlib.Core.Path.{refl, sym, ap, subst}
use mathlib.Core.List.Memᴰ
use mathlib.Core.List.{List, ◌++◌}
use mathlib.Core.Logic.{inr}
use Prim.Native.Nat.{ℕ, zero, suc, ◌<◌}
use native.Mathlib.Omega.{arith}
use Rattle.base.specs.Form.{narrow}
use Rattle.base.specs.Sheet.{Sheet}
use Rattle.shape.specs.Shape.{columns_of}
use Rattle.step_laws.specs.Computing.{computing}
use Rattle.step_laws.specs.Examples.{work, HoldsPlan, slots_of}
use Rattle.calls.specs.Single.{Outcome}
use Rattle.calls.specs.Walk.{plan, walk, step_on, sheet_in, leaves_then}
use Rattle.plan_form.specs.Form.{leaf_count, plan_fails, step_permitted}
use Rattle.containment.specs.Exact.{exact, results_of}
use Rattle.containment.specs.Demand.{entry_for, Keeps, Inside, sheet_of}
use Rattle.containment.specs.OwnColumns.{sum_plan, sum, sum_row, sum_sheet, Outside}

pub sum_accepted : HoldsPlan sum
unfolding plan walk step_on sheet_in leaves_then plan_fails step_permitted sum_plan slots_of computing
sum_accepted = refl

-- the sheets, of the bytes that `sum_accepted` gives
abbrev left_behind : List ℕ
left_behind = work sum (sum.handed_in ++ sum.steps)

unfoldable sheet : ℕ → Sheet
sheet k = sheet_of narrow sum_plan (work sum sum.handed_in) left_behind k

-- every definition that such a sheet computes with
unfoldable reading : Unit {0}
unfolding sheet sheet_of sheet_in sum_plan slots_of computing
reading = tt

-- the numbers of a leaf's columns are in its lists
row_inside : Inside sum_plan sheet sum_row
unfolding reading entry_for
row_inside = record { leaf = at }
  where
    Kept : ℕ → ℕ → Type 0
    Kept k j = Keeps (sheet k).nature j (sum_row.number k j)

    at : (k : ℕ) → k < leaf_count sum_plan → (j : ℕ) → j < columns_of (sheet k).fields → Kept k j
    at zero h zero i = Memᴰ.head refl
    at zero h (suc zero) i = Memᴰ.head refl
    at zero h (suc (suc j)) i = absurd (omega arith)
    at (suc zero) h zero i = Memᴰ.head refl
    at (suc zero) h (suc j) i = absurd (omega arith)
    at (suc (suc k)) h j i = absurd (omega arith)

computed : Outside sheet
unfolding reading entry_for results_of exact
computed = record {
  first_columns = (2, refl);
  first_nature = inr refl;
  second_columns = refl;
  second_nature = refl;
  reads = (refl, refl);
  with_categories = refl;
  other_columns = refl;
  operand_columns = inr (inr refl);
  component = refl;
  inside = row_inside;
  result = refl;
  leaves = λ m. Memᴰ.not-nil m;
}

pub sum_outside : Outside sum_sheet
unfolding sheet
sum_outside =
    subst (λ (after : List ℕ). Outside (λ k. sheet_of narrow sum_plan (work sum sum.handed_in) after k)) (sym (ap (λ (o : Outcome). o.bytes) sum_accepted)) computed
