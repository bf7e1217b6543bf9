-- 01, "Other fields", and 02, S-1: the sheet that a component derives of its operands and of the new nature.
use Rattle.std.specs.Prelude.{Bool, true, false, ◌&&◌, ◌||◌, ℕ, max, ℤ, pos, Float}
use Rattle.std.proofs.Math.Option.{Option, none, some}
use Rattle.std.specs.Float.Ieee as Ieee
use Rattle.std.specs.Float.{binary64}
use Rattle.std.specs.Float.Ieee.{of_bits}
use Rattle.numbers.specs.Kind.{Kind, float, zero_float}
use Rattle.utilities.specs.Lists.{any}
use Rattle.base.specs.Sheet.{Nature, absent, whole_range, float_range, whole_lists, bool_lists, float_lists, text_lists, Fields, Sheet}
use Rattle.base.specs.declared.Component.{Component}
use Rattle.base.specs.declared.Component.TheVariants as C
use Rattle.base.specs.declared.Family.{Family}
use Rattle.base.specs.declared.Family.TheVariants as Fam
use Rattle.shape.specs.Shape.{groups_of, widest, rows_of, greater_option}

-- 01: "a float range has a column with lower < 0 < upper, lower > 0 with no upper, upper < 0 with no lower, or neither end"
abbrev pub spans_zero : {E : Type 0} → Kind E → Option E → Option E → Bool
spans_zero K none none = true
spans_zero K none (some f) = K.lt f K.zero
spans_zero K (some d) none = K.lt K.zero d
spans_zero K (some d) (some f) = K.lt d K.zero && K.lt K.zero f

-- 01: "float categories hold NaN or a zero"
abbrev pub nan_or_zero : ℕ → Bool
nan_or_zero bits = Ieee.is_nan (of_bits binary64 bits) || Ieee.eq (of_bits binary64 bits) zero_float

-- 01: "Divide also sets nullity if right nature is absent, .."
unfoldable pub divisor_sets_nullity : Nature → Bool
divisor_sets_nullity absent = true
divisor_sets_nullity (whole_range rs) = false
divisor_sets_nullity (float_range rs) = any (λ r. spans_zero float r.lower r.upper) rs
divisor_sets_nullity (whole_lists ls) = false
divisor_sets_nullity (bool_lists ls) = false
divisor_sets_nullity (float_lists ls) = any (λ l. any nan_or_zero l) ls
divisor_sets_nullity (text_lists ls) = false

abbrev pub is_divide : Component → Bool
is_divide C.Abs = false
is_divide C.Add = false
is_divide C.Subtract = false
is_divide C.Multiply = false
is_divide C.Divide = true
is_divide C.Modulo = false
is_divide C.Log = false
is_divide C.Power = false
is_divide C.Negative = false
is_divide C.Pool = false

unfoldable pub adds_nullity : Component → Nature → Bool
adds_nullity c k = is_divide c && divisor_sets_nullity k

-- 01: "2 to 5: nullity either; releasable and not empty both; c-stability, columns, dimensionality greater (absent least); aggregator absent; type,
-- dataset, sample from left; .. ordered 1". `more` is what Divide adds to the nullity
unfoldable pub pair_fields : Bool → Fields → Fields → Fields
pair_fields more x y = record {
  data_type = x.data_type;
  nullity = x.nullity || y.nullity || more;
  releasable = x.releasable && y.releasable;
  not_empty = x.not_empty && y.not_empty;
  ordered = true;
  c_stability = max x.c_stability y.c_stability;
  aggregator = 0;
  rows = rows_of x y;
  columns = some (widest x y);
  dataset = x.dataset;
  dimensionality = greater_option x.dimensionality y.dimensionality;
  sample = x.sample;
}

-- 01: "6 to 8 copy left, but for nature, not empty (both), dimensionality (greater), groups"
unfoldable pub copy_fields : Fields → Fields → Fields
copy_fields x y = record {
  data_type = x.data_type;
  nullity = x.nullity;
  releasable = x.releasable;
  not_empty = x.not_empty && y.not_empty;
  ordered = x.ordered;
  c_stability = x.c_stability;
  aggregator = x.aggregator;
  rows = x.rows;
  columns = x.columns;
  dataset = x.dataset;
  dimensionality = greater_option x.dimensionality y.dimensionality;
  sample = x.sample;
}

-- 02, S-1: "Rows are the sum ..", as `rows` says; "Nullity and not empty hold if either has them, releasable if both. C-stability, columns and dimensionality
-- take the greater; type comes from left ..; dataset id, sample and aggregator are absent; ordered is 0"
unfoldable pub pool_fields : Option ℤ → Fields → Fields → Fields
pool_fields rows x y = record {
  data_type = x.data_type;
  nullity = x.nullity || y.nullity;
  releasable = x.releasable && y.releasable;
  not_empty = x.not_empty || y.not_empty;
  ordered = false;
  c_stability = max x.c_stability y.c_stability;
  aggregator = 0;
  rows = rows;
  columns = some (widest x y);
  dataset = none;
  dimensionality = greater_option x.dimensionality y.dimensionality;
  sample = none;
}

-- the sheets of components 2 to 5, of 6 to 8, of 10, and of 1 and 9; the call's node number enters in `numbered`
abbrev pub pair_sheet : Component → Sheet → Sheet → Nature → Sheet
pair_sheet c l r k = record { fields = pair_fields (adds_nullity c r.nature) l.fields r.fields; node = l.node; groups = groups_of l r; nature = k }

abbrev pub copy_sheet : Sheet → Sheet → Nature → Sheet
copy_sheet l r k = record { fields = copy_fields l.fields r.fields; node = l.node; groups = groups_of l r; nature = k }

-- 02, S-1: "groups as for the other pairs"
abbrev pub pool_sheet : Option ℤ → Sheet → Sheet → Nature → Sheet
pool_sheet rows l r k = record { fields = pool_fields rows l.fields r.fields; node = l.node; groups = groups_of l r; nature = k }

-- 01: "Abs and Negative copy left but for nature"
abbrev pub unary_sheet : Sheet → Nature → Sheet
unary_sheet s k = record { fields = s.fields; node = s.node; groups = s.groups; nature = k }

abbrev pub with_node : ℤ → Sheet → Sheet
with_node z s = record { fields = s.fields; node = z; groups = s.groups; nature = s.nature }

-- 01: "node the call's" for 2 to 5; 02, S-1: "the node is the call's"; the others keep left's
unfoldable pub numbered : Family → ℕ → Sheet → Sheet
numbered Fam.Unary node s = s
numbered Fam.Pair node s = with_node (pos node) s
numbered Fam.Copy node s = s
numbered Fam.Pool node s = with_node (pos node) s
