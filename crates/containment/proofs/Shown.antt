-- The plan of `specs/Shown` is accepted and meets every premise of demand 3, and its rows are inside: the demand does not speak of nothing.
--     answered     the call's reply, and every byte that it leaves
--     small        the work buffer is of bytes
--     premises     the plan meets the premises
--     inside       a row of these numbers keeps to the leaves, whichever sides it takes
--     every_row    so the claim holds of every row inside, by `contained`,
--     claimed      and of these
--     results      every exact result of both rows, which differ at the Pool steps alone and at what is made of them
--     reached      of node 12 (Abs) column 0 has the result 7, and so has the upper end that its sheet states; of node 16 (Subtract of two ranges) both
--                  columns have 1, which is column 0's upper end and column 1's lower end
-- By computation, but for `contained`. Assumes nothing.
use mathlib.Core.Path.{◌≡◌, refl, sym, ap, subst}
use mathlib.Core.Bool.{Bool, true, false}
use mathlib.Core.List.Memᴰ
use mathlib.Core.List.{List, [], ◌∷◌}
use mathlib.Core.Logic.{◌⊎◌, inl, inr}
use mathlib.Core.Option.{Option, none, some}
use Prim.Native.Nat.{ℕ, zero, suc, ◌+◌, ◌≤◌, ◌<◌, zero-le}
use native.Mathlib.Nat.{eq-or-lt_of_le}
use native.Mathlib.Omega.{arith}
use lib.Dec.{ltb}
use lib.IntN.{ℤ, pos, pow, one}
use lib.ListN.{length, get_or, get_or-eq_default}
use borrow.Author.Tests.{ltb-true, ltb-false}
use Rattle.utilities.specs.Lists.{list_from, every}
use Rattle.utilities.proofs.Built.{every_at}
use Rattle.base.specs.Form.{narrow}
use Rattle.base.specs.Sheet.{Sheet, Nature, whole_range}
use Rattle.base.specs.Components.{component_of}
use Rattle.shape.specs.Shape.{columns_of}
use Rattle.step_laws.specs.Computing.{computing}
use Rattle.step_laws.specs.Examples.{slots_of}
use Rattle.step_laws.specs.Shelf.{minus}
use Rattle.calls.specs.Single.{Outcome, outcome}
use Rattle.round_trip.specs.WellFormed.{Each}
use Rattle.octets.proofs.Reread.{AllBytes}
use Rattle.plan_form.specs.Form.{node_count, leaf_count, step_count, component_number, left_of, right_of, plan_fails, step_permitted}
use Rattle.calls.specs.Walk.{plan, walk, step_on, sheet_in, leaves_then, leaf_nodes, step_nodes}
use Rattle.containment.specs.Exact.{Side, Row, Results, exact, results_of, result_at}
use Rattle.containment.specs.Demand.{entry_for, Keeps, StatesColumns, WholeNature, Counted, ColumnsMatch, OffZero, Suits, Premises, Inside, Claim, sheet_of}
use Rattle.containment.specs.Shown.{shown_plan, shown_leaves, shown_steps, between, shown_work, shown_after, shown_sheet, shown_numbers, row_taking, shown_row, opposite_row, common_results, shown_results, opposite_results}
use Rattle.containment.proofs.Contained.{contained}

-- ---- the call

pub answered : plan narrow shown_plan shown_work ≡ outcome 0 (node_count shown_plan) shown_after
unfolding plan walk step_on sheet_in leaves_then plan_fails step_permitted shown_plan shown_work shown_after slots_of shown_leaves shown_steps computing
answered = refl

pub accepted : (plan narrow shown_plan shown_work).code ≡ 0
accepted = ap (λ (o : Outcome). o.code) answered

pub all_nodes : (plan narrow shown_plan shown_work).value ≡ node_count shown_plan
all_nodes = ap (λ (o : Outcome). o.value) answered

left_behind : (plan narrow shown_plan shown_work).bytes ≡ shown_after
left_behind = ap (λ (o : Outcome). o.bytes) answered

every_byte : (s : List ℕ) → every (λ b. ltb b 256) s ≡ true → AllBytes s
every_byte s e i = go (ltb i (length s)) refl
  where
    go : (t : Bool) → ltb i (length s) ≡ t → get_or s i 0 < 256
    go true h = ltb-true (get_or s i 0) 256 (every_at (λ b. ltb b 256) s i 0 (ltb-true i (length s) h) e)
    go false h = rw (get_or-eq_default s 0 (ltb-false i (length s) h)) (omega arith)

pub small : AllBytes shown_work
unfolding shown_work slots_of shown_leaves shown_steps computing
small = every_byte shown_work refl

-- ---- the premises

-- what holds of n nodes from node i on, shown one by one
each_node : (P : ℕ → Type 0) (n i : ℕ) → Each P (list_from n i (λ k. k)) → (k : ℕ) → i ≤ k → k < i + n → P k
unfolding list_from
each_node P zero i all k a b = absurd (omega arith)
each_node P (suc n) i all k a b =
    elim (eq-or-lt_of_le a) [ inl e ↦ subst P e all.0 | inr c ↦ each_node P n (i + 1) all.1 k (omega arith) (omega arith) ]

-- .. of one column, and of two
only : (P : ℕ → Type 0) → P 0 → (j : ℕ) → j < 1 → P j
only P p zero h = p
only P p (suc j) h = absurd (omega arith)

both : (P : ℕ → Type 0) → P 0 → P 1 → (j : ℕ) → j < 2 → P j
both P p q zero h = p
both P p q (suc zero) h = q
both P p q (suc (suc j)) h = absurd (omega arith)

-- the nodes' sheets, of the bytes that `answered` gives: so the call is computed once
unfoldable sheet : ℕ → Sheet
sheet k = sheet_of narrow shown_plan shown_work shown_after k

-- every definition that such a sheet computes with
unfoldable reading : Unit {0}
unfolding sheet sheet_of sheet_in shown_plan shown_work shown_after slots_of shown_leaves shown_steps computing
reading = tt

-- what each premise says of one node
abbrev LeafNature : ℕ → Type 0
LeafNature k = WholeNature (sheet k).nature (columns_of (sheet k).fields) ⊎ Counted shown_plan sheet k

abbrev OperandColumns : ℕ → Type 0
OperandColumns k = ColumnsMatch (sheet (left_of shown_plan k)) (sheet (right_of shown_plan k))

abbrev ComponentSuits : ℕ → Type 0
ComponentSuits k = Suits (component_of (component_number shown_plan k)) (sheet (left_of shown_plan k)) (sheet (right_of shown_plan k))

leaf_columns_lem : Each (λ k. StatesColumns (sheet k)) (leaf_nodes narrow shown_plan)
unfolding reading
leaf_columns_lem = ((2, refl), ((1, refl), ((2, refl), ((2, refl), ((2, refl), tt)))))

-- node 8 adds node 4's categories to node 3's, over as many columns as node 3 has: how many lists node 3 has is no premise, and 29 has tested it
combined_lists : Counted shown_plan sheet 3
unfolding reading
combined_lists = record {
  lists = (pos 1 ∷ pos 2 ∷ []) ∷ (pos 5 ∷ []) ∷ [];
  holds = refl;
  step = 8;
  behind = omega arith;
  within = omega arith;
  spreads = record { reads = inl refl; left = refl; right = refl; own_columns = refl };
}

-- node 17 maps node 4's
mapped_lists : Counted shown_plan sheet 4
unfolding reading
mapped_lists = record { lists = (pos 10 ∷ pos 11 ∷ []) ∷ (pos 20 ∷ []) ∷ []; holds = refl; step = 17; behind = omega arith; within = omega arith; spreads = refl }

leaf_natures_lem : Each LeafNature (leaf_nodes narrow shown_plan)
unfolding reading
leaf_natures_lem = (inl (inl refl), (inl (inl refl), (inl (inr refl), (inr combined_lists, (inr mapped_lists, tt)))))

operand_columns_lem : Each OperandColumns (step_nodes narrow shown_plan)
unfolding reading
operand_columns_lem =
    (inr (inr refl), (inl refl, (inr (inr refl), (inl refl, (inl refl, (inr (inr refl), (inl refl, (inl refl, (inl refl, (inl refl, (inl refl, (inl refl, (inl refl, tt)))))))))))))

-- Divide's divisor has its lower above 0 in the first column, its upper below 0 in the second
off_zero : (j : ℕ) → j < 2 → OffZero (sheet 2).nature j
unfolding reading entry_for
off_zero = both (OffZero (sheet 2).nature) (inl (pos 2, refl, record { lt = tt })) (inr (minus 3, refl, record { lt = tt }))

-- Divide is the second step; Power, the sixth, has Int operands
components_suit : Each ComponentSuits (step_nodes narrow shown_plan)
unfolding reading
components_suit = (tt, (off_zero, (tt, (tt, (tt, ((refl, refl), (tt, (tt, (tt, (tt, (tt, (tt, (tt, tt)))))))))))))

sheets_meet : Premises shown_plan sheet
unfolding reading
sheets_meet = record {
  leaf_columns = λ k h. each_node (λ k. StatesColumns (sheet k)) (leaf_count shown_plan) 0 leaf_columns_lem k zero-le h;
  leaf_natures = λ k h. each_node LeafNature (leaf_count shown_plan) 0 leaf_natures_lem k zero-le h;
  operand_columns = λ k a b. each_node OperandColumns (step_count shown_plan) (leaf_count shown_plan) operand_columns_lem k a b;
  components = λ k a b. each_node ComponentSuits (step_count shown_plan) (leaf_count shown_plan) components_suit k a b;
}

-- ---- the rows

module _ (x y : Side) where
  abbrev Kept : ℕ → ℕ → Type 0
  Kept k j = Keeps (sheet k).nature j ((row_taking x y).number k j)

  abbrev LeafKept : ℕ → Type 0
  LeafKept k = (j : ℕ) → j < columns_of (sheet k).fields → Kept k j

  numbers_keep : Each LeafKept (leaf_nodes narrow shown_plan)
  unfolding reading entry_for shown_numbers row_taking
  numbers_keep =
      let first = both (Kept 0) (record { le = tt }, record { le = tt }) (record { le = tt }, record { le = tt }) in
      let second = only (Kept 1) (record { le = tt }, record { le = tt }) in
      let divisor = both (Kept 2) (record { le = tt }, record { le = tt }) (record { le = tt }, record { le = tt }) in
      let fourth = both (Kept 3) (Memᴰ.tail (Memᴰ.head refl)) (Memᴰ.head refl) in
      let fifth = both (Kept 4) (Memᴰ.tail (Memᴰ.head refl)) (Memᴰ.head refl) in
      (first, (second, (divisor, (fourth, (fifth, tt)))))

  row_inside : Inside shown_plan sheet (row_taking x y)
  unfolding reading
  row_inside = record { leaf = λ k h. each_node LeafKept (leaf_count shown_plan) 0 numbers_keep k zero-le h }

-- a row's results, of every node
abbrev results_on : (ℕ → Sheet) → Row → List Results
results_on s row = results_of shown_plan s row (node_count shown_plan)

sheet_results : (results_on sheet shown_row ≡ shown_results) × (results_on sheet opposite_row ≡ opposite_results)
unfolding results_of exact pow one shown_numbers row_taking common_results shown_results opposite_results reading
sheet_results = (refl, refl)

-- the ranges of nodes 12 and 16
abbrev abs_range : Nature
abs_range = whole_range (between (minus 5) (pos 7) ∷ between (minus 5) (pos 5) ∷ [])

abbrev difference_range : Nature
difference_range = whole_range (between (minus 5) (pos 1) ∷ between (pos 1) (pos 7) ∷ [])

stated : ((sheet 12).nature ≡ abs_range) × ((sheet 16).nature ≡ difference_range)
unfolding reading
stated = (refl, refl)

-- ---- demand 3

-- what holds of the sheets in `answered`'s bytes holds of those that the call leaves
after_call : (P : (ℕ → Sheet) → Type 0) → P sheet → P shown_sheet
unfolding sheet
after_call P h = subst (λ (after : List ℕ). P (λ k. sheet_of narrow shown_plan shown_work after k)) (sym left_behind) h

pub premises : Premises shown_plan shown_sheet
premises = after_call (Premises shown_plan) sheets_meet

pub inside : (x y : Side) → Inside shown_plan shown_sheet (row_taking x y)
inside x y = after_call (λ s. Inside shown_plan s (row_taking x y)) (row_inside x y)

pub every_row : (row : Row) → Inside shown_plan shown_sheet row → Claim shown_plan shown_sheet row
every_row = contained shown_plan shown_work small accepted premises

pub claimed : (x y : Side) → Claim shown_plan shown_sheet (row_taking x y)
claimed x y = every_row (row_taking x y) (inside x y)

pub results : (results_on shown_sheet shown_row ≡ shown_results) × (results_on shown_sheet opposite_row ≡ opposite_results)
results = after_call (λ s. (results_on s shown_row ≡ shown_results) × (results_on s opposite_row ≡ opposite_results)) sheet_results

-- by node and column
abbrev result : ℕ → ℕ → Option ℤ
result k j = result_at shown_plan shown_sheet shown_row k j

results_are : (result 12 0 ≡ some (pos 7)) × (result 16 0 ≡ some (pos 1)) × (result 16 1 ≡ some (pos 1))
unfolding common_results shown_results
results_are = (at 12 0, at 16 0, at 16 1)
  where
    at : (k j : ℕ) → result k j ≡ get_or (get_or shown_results k []) j none
    at k j = ap (λ (rs : List Results). get_or (get_or rs k []) j none) results.0

pub reached :
    ((result 12 0 ≡ some (pos 7)) × (result 16 0 ≡ some (pos 1)) × (result 16 1 ≡ some (pos 1)))
    × (((shown_sheet 12).nature ≡ abs_range) × ((shown_sheet 16).nature ≡ difference_range))
reached = (results_are, after_call (λ s. ((s 12).nature ≡ abs_range) × ((s 16).nature ≡ difference_range)) stated)
