-- A node of one of demand 3's plans: its sheet, and its results on one row, which keep to what the sheet states.
use Rattle.std.specs.Prelude.{◌≡◌, ℕ, ◌≤◌, ◌<◌, ℤ, length, get_or}
use Rattle.std.proofs.Math.Option.{Option, none, some}
use Rattle.numbers.specs.Kind.{Span}
use Rattle.utilities.specs.Lists.{list_from}
use Rattle.base.specs.Sheet.{Sheet, Nature, absent, whole_range, float_range, whole_lists, bool_lists, float_lists, text_lists}
use Rattle.base.specs.declared.Component.{Component}
use Rattle.base.specs.declared.Component.TheVariants as C
use Rattle.std.specs.declared.option.Option.TheVariants as N
use Rattle.shape.specs.Shape.{columns_of}
use Rattle.containment.specs.Exact.{Side, Results, column_of, exact_of}
use Rattle.containment.specs.Demand.{entry_for, Keeps, OneOrPerColumn, OffZero}
use Rattle.containment.specs.Asks.{LowerAboveZero, LowerNotNegative}

-- absent, or whole with one entry or one per column
abbrev pub Fitting : Nature → ℕ → Type 0
Fitting absent columns = Unit {0}
Fitting (whole_range rs) columns = OneOrPerColumn rs columns
Fitting (float_range rs) columns = ⊥
Fitting (whole_lists ls) columns = OneOrPerColumn ls columns
Fitting (bool_lists ls) columns = ⊥
Fitting (float_lists ls) columns = ⊥
Fitting (text_lists ls) columns = ⊥

-- .. but for the count of a range's entries, which 18 tests
abbrev pub Spread : Nature → ℕ → Type 0
Spread absent columns = Unit {0}
Spread (whole_range rs) columns = Unit {0}
Spread (float_range rs) columns = ⊥
Spread (whole_lists ls) columns = OneOrPerColumn ls columns
Spread (bool_lists ls) columns = ⊥
Spread (float_lists ls) columns = ⊥
Spread (text_lists ls) columns = ⊥

-- an entry of a whole range
abbrev pub OfRange : (Option (Span ℤ) → Type 0) → Nature → ℕ → Type 0
OfRange P absent j = ⊥
OfRange P (whole_range rs) j = P (entry_for rs j)
OfRange P (float_range rs) j = ⊥
OfRange P (whole_lists ls) j = ⊥
OfRange P (bool_lists ls) j = ⊥
OfRange P (float_lists ls) j = ⊥
OfRange P (text_lists ls) j = ⊥

-- what a component asks of its right operand's nature at column j: demand 3's premise, or what 15 and 16 have tested
abbrev pub Admitted : Component → Nature → ℕ → Type 0
Admitted C.Abs r j = Unit {0}
Admitted C.Add r j = Unit {0}
Admitted C.Subtract r j = Unit {0}
Admitted C.Multiply r j = Unit {0}
Admitted C.Divide r j = OffZero r j
Admitted C.Modulo r j = OfRange LowerAboveZero r j
Admitted C.Log r j = ⊥
Admitted C.Power r j = OfRange LowerNotNegative r j
Admitted C.Negative r j = Unit {0}
Admitted C.Pool r j = Unit {0}

-- every column has a result, and it keeps to what the sheet states
pub record Good (s : Sheet) (rs : Results) : Type 0 where
  pub columns : s.fields.columns ≡ some (length rs)
  pub at_least_one : 1 ≤ length rs
  pub fits : Fitting s.nature (length rs)
  pub result : (j : ℕ) → j < length rs → (v : ℤ) × (get_or rs j none ≡ some v) × Keeps s.nature j v

-- the results of a step whose sheet is s, of its operands' results and, for Pool, the side that the row takes
abbrev pub step_of : Side → Component → Sheet → Results → Results → Results
step_of side c s xs ys = list_from (columns_of s.fields) 0 (λ j. exact_of side (N.Some c) (column_of xs j) (column_of ys j))
