-- What one entry of a range, or one category, is asked.
use Rattle.std.specs.Prelude.{Bool, cond, not, List, ℕ}
use Rattle.numbers.specs.Kind.{Kind, Span, whole, float}
use Rattle.base.specs.Form.{Form, group_count, list_count, category_count}
use Rattle.base.specs.Decode.{as_whole, as_float, span_at, category_at}
use Rattle.base.specs.Bounds.{is_present, positive, non_negative, suits_as_base}
use Rattle.bounds.specs.declared.Ask.{Ask}
use Rattle.bounds.specs.declared.Ask.TheVariants as A
use Rattle.shape.specs.Fields.{spans_zero, nan_or_zero}

-- an entry of a range
abbrev pub asked : {E : Type 0} → Kind E → Ask → Span E → Bool
asked K A.LowerPresent = λ r. is_present r.lower
asked K A.UpperPresent = λ r. is_present r.upper
asked K A.LowerPositive = λ r. positive K r.lower
asked K A.LowerNonNegative = λ r. non_negative K r.lower
asked K A.Base = suits_as_base K
asked K A.Apart = λ r. not (spans_zero K r.lower r.upper)

module _ (F : Form) where
  -- entry i, of a float range or of a whole one
  abbrev pub entry_asked : Ask → Bool → List ℕ → ℕ → Bool
  entry_asked ask floats s i =
      let g = group_count F s in
      let n = list_count F s in
      cond floats (asked float ask (span_at F s as_float g n i)) (asked whole ask (span_at F s as_whole g n i))

  -- float category i is neither NaN nor a zero
  abbrev pub value_apart : List ℕ → ℕ → Bool
  value_apart s i = not (nan_or_zero (category_at F s (group_count F s) (category_count F s) i))
