-- What a plan computes on one row, exactly. 01: "Rows and results are whole numbers of any size".
use Rattle.std.specs.Prelude.{cond, List, [], ◌∷◌, ◌++◌, ℕ, zero, suc, ℤ, pos, negsuc, neg_ℤ, nat_abs, ◌+ℤ◌, ◌-ℤ◌, ◌*ℤ◌, length, get_or, eqb, ltb}
use Rattle.std.proofs.Math.Option.{Option, none, some}
use Rattle.std.proofs.Math.IntN.{pow}
use Rattle.std.specs.Int.Signed.{quot_z}
use Rattle.utilities.specs.Lists.{list_from}
use Rattle.base.specs.Sheet.{Sheet}
use Rattle.base.specs.Components.{component_of}
use Rattle.base.specs.declared.Component.{Component}
use Rattle.base.specs.declared.Component.TheVariants as C
use Rattle.std.specs.declared.option.Option as Rust
use Rattle.std.specs.declared.option.Option.TheVariants as N
use Rattle.shape.specs.Shape.{columns_of}
use Rattle.category_lists.specs.Categories.{remainder}
use Rattle.plan_form.specs.Form.{node_count, leaf_count, component_number, left_of, right_of}

-- 01: "A zero divisor .. leaves none"
abbrev pub unless_zero : ℤ → ℤ → Option ℤ
unless_zero divisor result = cond (eqb (nat_abs divisor) 0) none (some result)

-- 01: "a zeroth power is 1"; "a negative exponent .. leaves none"
abbrev pub power : ℤ → ℤ → Option ℤ
power a (pos n) = some (pow a n)
power a (negsuc n) = none

-- 02, S-1: "a pooled node may take either operand's value, one operand for the whole row"
pub data Side : Type 0 where
  from_left : Side
  from_right : Side

abbrev pub taken : Side → ℤ → ℤ → ℤ
taken from_left a b = a
taken from_right a b = b

-- 01: "1 to 4, 8 and 9 work as named; quotients truncate toward zero, remainders are never negative and are below the divisor's magnitude"; "Log .. leaves none"
unfoldable pub exact : Side → Component → ℤ → ℤ → Option ℤ
exact side C.Abs a b = some (pos (nat_abs a))
exact side C.Add a b = some (a +ℤ b)
exact side C.Subtract a b = some (a -ℤ b)
exact side C.Multiply a b = some (a *ℤ b)
exact side C.Divide a b = unless_zero b (quot_z a b)
exact side C.Modulo a b = unless_zero b (remainder a b)
exact side C.Log a b = none
exact side C.Power a b = power a b
exact side C.Negative a b = some (neg_ℤ a)
exact side C.Pool a b = some (taken side a b)

-- 01: "an operand without a result leaves none"
abbrev pub exact_of : Side → Rust.Option Component → Option ℤ → Option ℤ → Option ℤ
exact_of side N.None x y = none
exact_of side (N.Some c) none y = none
exact_of side (N.Some c) (some a) none = none
exact_of side (N.Some c) (some a) (some b) = exact side c a b

-- 01: "one whole number for each leaf column": by leaf and column; 02, S-1: "one operand for the whole row": by node, for all its columns
pub record Row : Type 0 where
  pub number : ℕ → ℕ → ℤ
  pub side : ℕ → Side

-- a node's results, by column
abbrev pub Results : Type 0
Results = List (Option ℤ)

-- 01: "each operand's column j or its only one"
abbrev pub column_of : Results → ℕ → Option ℤ
column_of rs j = cond (eqb (length rs) 1) (get_or rs 0 none) (get_or rs j none)

-- of a plan's bytes and its nodes' sheets; a node has as many columns as its sheet states
module _ (p : List ℕ) (sheet : ℕ → Sheet) (row : Row) where
  -- 01: "A leaf column's result is the row's number"
  abbrev pub leaf_results : ℕ → Results
  leaf_results k = list_from (columns_of (sheet k).fields) 0 (λ j. some (row.number k j))

  -- 01: "column j of a step takes each operand's column j or its only one"
  abbrev pub step_results : List Results → ℕ → Results
  step_results done k =
      let xs = get_or done (left_of p k) [] in
      let ys = get_or done (right_of p k) [] in
      list_from (columns_of (sheet k).fields) 0 (λ j. exact_of (row.side k) (component_of (component_number p k)) (column_of xs j) (column_of ys j))

  abbrev pub node_results : List Results → ℕ → Results
  node_results done k = cond (ltb k (leaf_count p)) (leaf_results k) (step_results done k)

  -- of the first n nodes
  unfoldable pub results_of : ℕ → List Results
  results_of zero = []
  results_of (suc n) = results_of n ++ (node_results (results_of n) n ∷ [])

  -- the exact result of column j of node k, if it has one
  abbrev pub result_at : ℕ → ℕ → Option ℤ
  result_at k j = get_or (get_or (results_of (node_count p)) k []) j none
