-- One plan of demand 3, given by its bytes, so that the demand does not speak of nothing: the plan, its work buffer before and after the call, two rows that
-- take opposite sides, and each row's exact results. `proofs/Shown` holds the plan call and demand 3 to them.
use Rattle.std.specs.Prelude.{Bool, true, false, cond, List, [], ◌∷◌, ◌++◌, ℕ, ◌*◌, ℤ, pos, eqb, length, replicate, get_or}
use Rattle.std.proofs.Math.Option.{Option, none, some}
use Rattle.numbers.specs.Kind.{Span}
use Rattle.base.specs.Form.{narrow, longest, int_type}
use Rattle.base.specs.Sheet.{Nature, whole_range, whole_lists, Sheet}
use Rattle.step_laws.specs.Examples.{filler, slots_of}
use Rattle.step_laws.specs.Shelf.{minus}
use Rattle.calls.specs.Walk.{plan}
use Rattle.containment.specs.Exact.{Side, from_left, from_right, Row, Results}
use Rattle.containment.specs.Demand.{sheet_of}

-- ---- the plan

unfoldable pub shown_plan : List ℕ
shown_plan =
    18 ∷ 0  -- N, the nodes
    ∷ 5 ∷ 0  -- K, the leaves
    ∷ 4 ∷ 0 ∷ 0 ∷ 0  -- node 5: Multiply
    ∷ 5 ∷ 0 ∷ 0 ∷ 0  -- node 6: Divide
    ∷ 6 ∷ 0 ∷ 0 ∷ 0  -- node 7: Modulo
    ∷ 2 ∷ 0 ∷ 0 ∷ 0  -- node 8: Add
    ∷ 3 ∷ 0 ∷ 0 ∷ 0  -- node 9: Subtract
    ∷ 8 ∷ 0 ∷ 0 ∷ 0  -- node 10: Power
    ∷ 9 ∷ 0 ∷ 0 ∷ 0  -- node 11: Negative
    ∷ 1 ∷ 0 ∷ 0 ∷ 0  -- node 12: Abs
    ∷ 10 ∷ 0 ∷ 0 ∷ 0  -- node 13: Pool
    ∷ 4 ∷ 0 ∷ 0 ∷ 0  -- node 14: Multiply
    ∷ 10 ∷ 0 ∷ 0 ∷ 0  -- node 15: Pool
    ∷ 3 ∷ 0 ∷ 0 ∷ 0  -- node 16: Subtract
    ∷ 9 ∷ 0 ∷ 0 ∷ 0  -- node 17: Negative
    ∷ 0 ∷ 0 ∷ 1 ∷ 0  -- node 5: left 0, right 1
    ∷ 5 ∷ 0 ∷ 2 ∷ 0  -- node 6: left 5, right 2
    ∷ 6 ∷ 0 ∷ 1 ∷ 0  -- node 7: left 6, right 1
    ∷ 3 ∷ 0 ∷ 4 ∷ 0  -- node 8: left 3, right 4
    ∷ 8 ∷ 0 ∷ 3 ∷ 0  -- node 9: left 8, right 3
    ∷ 7 ∷ 0 ∷ 1 ∷ 0  -- node 10: left 7, right 1
    ∷ 6 ∷ 0 ∷ 6 ∷ 0  -- node 11: left 6, right 6
    ∷ 11 ∷ 0 ∷ 11 ∷ 0  -- node 12: left 11, right 11
    ∷ 0 ∷ 0 ∷ 2 ∷ 0  -- node 13: left 0, right 2
    ∷ 13 ∷ 0 ∷ 13 ∷ 0  -- node 14: left 13, right 13
    ∷ 3 ∷ 0 ∷ 4 ∷ 0  -- node 15: left 3, right 4
    ∷ 0 ∷ 0 ∷ 2 ∷ 0  -- node 16: left 0, right 2
    ∷ 4 ∷ 0 ∷ 4 ∷ 0  -- node 17: left 4, right 4
    ∷ []

-- ---- its sheets

-- private, of type Int; by rows, data set, node number, order, columns and nature
abbrev pub sheet_with : ℕ → Option ℤ → ℤ → Bool → ℕ → Nature → Sheet
sheet_with rows dataset node ordered columns k = record {
  fields = record {
    data_type = int_type;
    nullity = false;
    releasable = false;
    not_empty = true;
    ordered = ordered;
    c_stability = 1;
    aggregator = 0;
    rows = some (pos rows);
    columns = some columns;
    dataset = dataset;
    dimensionality = some (pos 2);
    sample = none;
  };
  node = node;
  groups = [];
  nature = k;
}

abbrev pub between : ℤ → ℤ → Span ℤ
between a c = record { lower = some a; upper = some c }

abbrev pub endless : Span ℤ
endless = record { lower = none; upper = none }

-- 100 rows of one data set; a leaf's node number is whatever it was handed in with
abbrev pub leaf : ℕ → Nature → Sheet
leaf columns k = sheet_with 100 (some (pos 7)) (pos 40) false columns k

-- nodes 0 to 4: two columns under one entry, one column, two columns with an entry each (the divisor, above 0 and below 0), and two of categories with a
-- list for each column, which steps count: node 8 combines node 3's with categories, node 17 maps node 4's
unfoldable pub shown_leaves : List Sheet
shown_leaves =
    leaf 2 (whole_range (between (minus 2) (pos 3) ∷ []))
    ∷ leaf 1 (whole_range (between (pos 4) (pos 5) ∷ []))
    ∷ leaf 2 (whole_range (between (pos 2) (pos 3) ∷ between (minus 4) (minus 3) ∷ []))
    ∷ leaf 2 (whole_lists ((pos 1 ∷ pos 2 ∷ []) ∷ (pos 5 ∷ []) ∷ []))
    ∷ leaf 2 (whole_lists ((pos 10 ∷ pos 11 ∷ []) ∷ (pos 20 ∷ []) ∷ []))
    ∷ []

-- a step's sheet, with its own node number (2 to 5) or with that of the operand that it copies
abbrev pub derived : ℕ → ℕ → Nature → Sheet
derived node columns k = sheet_with 100 (some (pos 7)) (pos node) true columns k

-- both operands' rows, of no data set: Pool's own sheet is not ordered
abbrev pub pooled : ℕ → Bool → ℕ → Nature → Sheet
pooled node ordered columns k = sheet_with 200 none (pos node) ordered columns k

-- nodes 5 to 17, as the call is to leave them
unfoldable pub shown_steps : List Sheet
shown_steps =
    derived 5 2 (whole_range (between (minus 10) (pos 15) ∷ between (minus 10) (pos 15) ∷ []))
    ∷ derived 6 2 (whole_range (between (minus 5) (pos 7) ∷ between (minus 5) (pos 3) ∷ []))
    ∷ derived 6 2 (whole_range (between (pos 0) (pos 4) ∷ between (pos 0) (pos 4) ∷ []))
    ∷ derived 8 2 (whole_lists ((pos 11 ∷ pos 12 ∷ pos 13 ∷ []) ∷ (pos 25 ∷ []) ∷ []))
    ∷ derived 9 2 (whole_lists ((pos 10 ∷ pos 9 ∷ pos 11 ∷ pos 12 ∷ []) ∷ (pos 20 ∷ []) ∷ []))
    ∷ derived 6 2 (whole_range (endless ∷ endless ∷ []))
    ∷ derived 6 2 (whole_range (between (minus 7) (pos 5) ∷ between (minus 3) (pos 5) ∷ []))
    ∷ derived 6 2 (whole_range (between (minus 5) (pos 7) ∷ between (minus 5) (pos 5) ∷ []))
    ∷ pooled 13 false 2 (whole_range (between (minus 2) (pos 3) ∷ between (minus 4) (pos 3) ∷ []))
    ∷ pooled 14 true 2 (whole_range (between (minus 6) (pos 9) ∷ between (minus 12) (pos 16) ∷ []))
    ∷ pooled 15 false 2 (whole_lists ((pos 1 ∷ pos 2 ∷ pos 10 ∷ pos 11 ∷ []) ∷ (pos 5 ∷ pos 20 ∷ []) ∷ []))
    ∷ derived 16 2 (whole_range (between (minus 5) (pos 1) ∷ between (pos 1) (pos 7) ∷ []))
    -- Negative of a leaf has the leaf's fields and number
    ∷ leaf 2 (whole_lists ((minus 10 ∷ minus 11 ∷ []) ∷ (minus 20 ∷ []) ∷ []))
    ∷ []

-- ---- the work buffer

unfoldable pub shown_work : List ℕ
shown_work = slots_of shown_leaves ++ replicate (length shown_steps * longest narrow) filler

unfoldable pub shown_after : List ℕ
shown_after = slots_of (shown_leaves ++ shown_steps)

-- the nodes' sheets as demand 3 reads them
abbrev pub shown_sheet : ℕ → Sheet
shown_sheet = sheet_of narrow shown_plan shown_work (plan narrow shown_plan shown_work).bytes

-- ---- two rows, and what the plan computes on each

unfoldable pub shown_numbers : List (List ℤ)
shown_numbers =
    (pos 3 ∷ minus 2 ∷ [])
    ∷ (pos 5 ∷ [])
    ∷ (pos 2 ∷ minus 3 ∷ [])
    ∷ (pos 2 ∷ pos 5 ∷ [])
    ∷ (pos 11 ∷ pos 20 ∷ [])
    ∷ []

-- by the side of node 13 and that of every other node
unfoldable pub row_taking : Side → Side → Row
row_taking x y = record { number = λ k j. get_or (get_or shown_numbers k []) j (pos 0); side = λ k. cond (eqb k 13) x y }

abbrev pub shown_row : Row
shown_row = row_taking from_left from_right

abbrev pub opposite_row : Row
opposite_row = row_taking from_right from_left

-- of nodes 0 to 12, leaves first: they come of no Pool step, and both rows have the same
unfoldable pub common_results : List Results
common_results =
    (some (pos 3) ∷ some (minus 2) ∷ [])
    ∷ (some (pos 5) ∷ [])
    ∷ (some (pos 2) ∷ some (minus 3) ∷ [])
    ∷ (some (pos 2) ∷ some (pos 5) ∷ [])
    ∷ (some (pos 11) ∷ some (pos 20) ∷ [])
    ∷ (some (pos 15) ∷ some (minus 10) ∷ [])
    ∷ (some (pos 7) ∷ some (pos 3) ∷ [])
    ∷ (some (pos 2) ∷ some (pos 3) ∷ [])
    ∷ (some (pos 13) ∷ some (pos 25) ∷ [])
    ∷ (some (pos 11) ∷ some (pos 20) ∷ [])
    ∷ (some (pos 32) ∷ some (pos 243) ∷ [])
    ∷ (some (minus 7) ∷ some (minus 3) ∷ [])
    ∷ (some (pos 7) ∷ some (pos 3) ∷ [])
    ∷ []

-- of node 16, the difference of two ranges, and of node 17, on both rows too
abbrev pub difference : Results
difference = some (pos 1) ∷ some (pos 1) ∷ []

abbrev pub negated : Results
negated = some (minus 11) ∷ some (minus 20) ∷ []

-- .. and of all: node 13 takes both columns of node 0, and node 15 takes node 4
unfoldable pub shown_results : List Results
shown_results =
    common_results
    ++ ((some (pos 3) ∷ some (minus 2) ∷ [])
    ∷ (some (pos 9) ∷ some (pos 4) ∷ [])
    ∷ (some (pos 11) ∷ some (pos 20) ∷ [])
    ∷ difference
    ∷ negated
    ∷ [])

-- .. node 13 takes both columns of node 2, and node 15 takes node 3
unfoldable pub opposite_results : List Results
opposite_results =
    common_results
    ++ ((some (pos 2) ∷ some (minus 3) ∷ [])
    ∷ (some (pos 4) ∷ some (pos 9) ∷ [])
    ∷ (some (pos 2) ∷ some (pos 5) ∷ [])
    ∷ difference
    ∷ negated
    ∷ [])
