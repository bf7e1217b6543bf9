-- A range in writing, column after column, as the code derives it.
use Rattle.std.specs.Prelude.{Bool, cond, List, [], ◌++◌, ℕ, zero, suc, ◌+◌, ◌*◌, eqb}
use Rattle.numbers.specs.Result.{Result, ok, refused}
use Rattle.numbers.specs.Kind as K
use Rattle.base.specs.Form.{Form, group_count, list_count, lower_at, upper_at, whole_range_nature, float_range_nature}
use Rattle.base.specs.Code.{of_whole, of_float, bound_at, bound_bytes}
use Rattle.base.specs.declared.Component.{Component}
use Rattle.ends.specs.Ends.{end_rule}
use Rattle.ends.specs.Code.{whole_span, float_span, range_of, ends_of}
use Rattle.ends.specs.declared.Range.{Range}
use Rattle.writer.specs.Written.{Written}
use Rattle.writer.specs.declared.Parts.{Parts}
use Rattle.ends.specs.Ranges.{whole_rule}

-- the entry of n that column j takes
abbrev pub entry_of : ℕ → ℕ → ℕ
entry_of n j = cond (eqb n 1) 0 j

-- entry i of a sheet's range
unfoldable pub range_at : Form → Bool → List ℕ → ℕ → Range
range_at F float s i =
    range_of (bound_at float (lower_at F (group_count F s) i) s)
    (bound_at float (upper_at F (group_count F s) (list_count F s) i) s)

-- the ends of a column, by the kind
unfoldable pub column_ends : Bool → Component → ℕ → Range → Range → Result Range
column_ends float c type x y =
    cond float (ends_of of_float (end_rule K.float c (float_span x) (float_span y))) (ends_of of_whole (whole_rule c type (whole_span x) (whole_span y)))

-- the ends of column j of two sheets' ranges
unfoldable pub column_at : Form → Bool → Component → ℕ → List ℕ → List ℕ → ℕ → Result Range
column_at F float c type l r j =
    column_ends float c type (range_at F float l (entry_of (list_count F l) j)) (range_at F float r (entry_of (list_count F r) j))

abbrev pub range_number : Bool → ℕ
range_number float = cond float float_range_nature whole_range_nature

-- 01: "n lowers and n uppers, each a mark and 64 bits"
abbrev pub range_parts : Bool → ℕ → Parts
range_parts float n = record { nature = range_number float; entries = n; values = 0; text = 0; first = 9 * n; second = 9 * n }

-- the lowers and uppers of k columns, and then those of the rest; a refusal stays one
unfoldable pub after : ℕ → List ℕ → List ℕ → Result Written → Result Written
after k ls us (ok w) = ok (record {
  nature = w.nature;
  entries = k + w.entries;
  values = w.values;
  text = w.text;
  first = ls ++ w.first;
  second = us ++ w.second;
})
after k ls us (refused n) = refused n

-- a column's ends, and then the rest: the first refusal is the answer
unfoldable pub column_then : Result Range → Result Written → Result Written
column_then (ok z) rest = after 1 (bound_bytes z.lower) (bound_bytes z.upper) rest
column_then (refused k) rest = refused k

-- a range of n columns
abbrev pub columns_in : ℕ → ℕ → List ℕ → List ℕ → Written
columns_in nature n ls us = record { nature = nature; entries = n; values = 0; text = 0; first = ls; second = us }

-- n columns from column j on
unfoldable pub columns_from : ℕ → (ℕ → Result Range) → ℕ → ℕ → Result Written
columns_from nature f zero j = ok (columns_in nature 0 [] [])
columns_from nature f (suc n) j = column_then (f j) (columns_from nature f n (j + 1))
