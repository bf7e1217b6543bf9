-- Why 02, S-5 says "at that leaf's own column count": one plan, by its bytes, whose step combines a leaf's categories with categories over more columns than
-- the leaf has. The plan is accepted and meets every other premise of demand 3, and a result is in no list of its node. `proofs/OwnColumns` computes it.
use Rattle.std.specs.Prelude.{◌≡◌, true, cond, List, [], ◌∷◌, ℕ, pos, eqb}
use Rattle.std.proofs.Math.Option.{some}
use Rattle.base.specs.Form.{narrow}
use Rattle.base.specs.Sheet.{whole_lists, Sheet, is_lists}
use Rattle.base.specs.Components.{component_of}
use Rattle.base.specs.declared.Component.TheVariants as C
use Rattle.std.specs.declared.option.Option.TheVariants as N
use Rattle.shape.specs.Shape.{columns_of}
use Rattle.plan_form.specs.Form.{component_number, left_of, right_of}
use Rattle.step_laws.specs.Examples.{Plan, work}
use Rattle.calls.specs.Walk.{plan}
use Rattle.containment.specs.Exact.{Row, from_left, result_at}
use Rattle.containment.specs.Demand.{Keeps, StatesColumns, WholeNature, ColumnsMatch, Inside, sheet_of}
use Rattle.containment.specs.Shown.{leaf, derived}

-- node 2 adds node 1 to node 0
unfoldable pub sum_plan : List ℕ
sum_plan =
    3 ∷ 0 ∷ 2 ∷ 0
    ∷ 2 ∷ 0 ∷ 0 ∷ 0  -- node 2: Add
    ∷ 0 ∷ 0 ∷ 1 ∷ 0  -- node 2: left 0, right 1
    ∷ []

-- {0}{0} over two columns, and {1}{} over one: the second list goes with the output's second column, though the leaf's only number goes by the first
abbrev pub sum : Plan
sum = record {
  bytes = sum_plan;
  handed_in = leaf 2 (whole_lists ((pos 0 ∷ []) ∷ (pos 0 ∷ []) ∷ [])) ∷ leaf 1 (whole_lists ((pos 1 ∷ []) ∷ [] ∷ [])) ∷ [];
  steps = derived 2 2 (whole_lists ((pos 1 ∷ []) ∷ [] ∷ [])) ∷ [];
  code = 0;
  value = 3;
}

-- 0 for each column of node 0, and 1 for the one of node 1
abbrev pub sum_row : Row
sum_row = record { number = λ k j. cond (eqb k 0) (pos 0) (pos 1); side = λ k. from_left }

-- the nodes' sheets as demand 3 reads them
abbrev pub sum_sheet : ℕ → Sheet
sum_sheet = sheet_of narrow sum_plan (work sum sum.handed_in) (plan narrow sum_plan (work sum sum.handed_in)).bytes

pub record Outside (sheet : ℕ → Sheet) : Type 0 where
  -- the premises, of node 0 ..
  pub first_columns : StatesColumns (sheet 0)
  pub first_nature : WholeNature (sheet 0).nature (columns_of (sheet 0).fields)
  -- .. of node 1, whose categories node 2 combines with categories, over two columns and not over its own one
  pub second_columns : (sheet 1).fields.columns ≡ some 1
  pub second_nature : (sheet 1).nature ≡ whole_lists ((pos 1 ∷ []) ∷ [] ∷ [])
  pub reads : (left_of sum_plan 2 ≡ 0) × (right_of sum_plan 2 ≡ 1)
  pub with_categories : is_lists (sheet 0).nature ≡ true
  pub other_columns : (sheet 2).fields.columns ≡ some 2
  -- .. and of the step
  pub operand_columns : ColumnsMatch (sheet 0) (sheet 1)
  pub component : component_of (component_number sum_plan 2) ≡ N.Some C.Add
  -- the row is inside, and column 1 of node 2 has a result that does not keep to its sheet
  pub inside : Inside sum_plan sheet sum_row
  pub result : result_at sum_plan sheet sum_row 2 1 ≡ some (pos 1)
  pub leaves : Keeps (sheet 2).nature 1 (pos 1) → ⊥
