-- How the code's types stand for the values of the definitions.
use Rattle.std.specs.Prelude.{Bool, cond, List, ℕ, ℤ}
use Rattle.std.proofs.Math.Option.{Option, none, some}
use Rattle.std.specs.Float.Ieee as Ieee
use Rattle.numbers.specs.Result.{Result, ok, refused}
use Rattle.base.specs.Sheet.{Fields}
use Rattle.base.specs.Decode.{end_at, as_whole, as_float}
use Rattle.base.specs.Encode.{end_bytes, whole_bits, float_bits}
use Rattle.base.specs.declared.Bound.{Bound}
use Rattle.base.specs.declared.Bound.TheVariants as B
use Rattle.std.specs.declared.option.Option as Rust
use Rattle.std.specs.declared.option.Option.TheVariants.{Some, None}
use Rattle.base.specs.declared.Head.{Head}

-- a bound as an end of a whole range, and of a float range
abbrev pub whole_end : Bound → Option ℤ
whole_end B.Absent = none
whole_end (B.Whole z) = some z
whole_end (B.Float x) = none

abbrev pub float_end : Bound → Option Ieee.Float
float_end B.Absent = none
float_end (B.Whole z) = none
float_end (B.Float x) = some x

-- and back
abbrev pub of_whole : Option ℤ → Bound
of_whole none = B.Absent
of_whole (some z) = B.Whole z

abbrev pub of_float : Option Ieee.Float → Bound
of_float none = B.Absent
of_float (some x) = B.Float x

-- the bound at a place of a sheet whose range is a float range or a whole one
unfoldable pub bound_at : Bool → ℕ → List ℕ → Bound
bound_at float at s = cond float (of_float (end_at as_float at s)) (of_whole (end_at as_whole at s))

unfoldable pub bound_bytes : Bound → List ℕ
bound_bytes B.Absent = end_bytes whole_bits none
bound_bytes (B.Whole z) = end_bytes whole_bits (some z)
bound_bytes (B.Float x) = end_bytes float_bits (some x)

-- a value that may be absent
abbrev pub stated : {X : Type 0} → Rust.Option X → Option X
stated None = none
stated (Some x) = some x

-- the fields that a head holds
abbrev pub head_fields : Head → Fields
head_fields h = record {
  data_type = h.data_type;
  nullity = h.nullity;
  releasable = h.releasable;
  not_empty = h.not_empty;
  ordered = h.ordered;
  c_stability = h.c_stability;
  aggregator = h.aggregator;
  rows = stated h.rows;
  columns = stated h.columns;
  dataset = stated h.dataset;
  dimensionality = stated h.dimensionality;
  sample = stated h.sample;
}

-- 0 where nothing is refused, else the refusal's number
abbrev pub code_of : {X : Type 0} → Result X → ℕ
code_of (ok x) = 0
code_of (refused k) = k
