-- Check 5 as the code has it: one entry of a range.
use Rattle.std.specs.Prelude.{Bool, cond, List, ℕ}
use Rattle.numbers.specs.Kind.{span_of}
use Rattle.base.specs.Form.{Form, group_count, list_count, lower_at, upper_at}
use Rattle.base.specs.Decode.{as_whole, as_float, end_at}
use Rattle.base.specs.Checks.{whole_holds, float_holds}

-- 5: an entry of a float range or of a whole one, by the places of its ends
abbrev pub span_holds : Bool → List ℕ → ℕ → ℕ → Bool
span_holds floats s lower upper =
    cond floats (float_holds (span_of (end_at as_float lower s) (end_at as_float upper s))) (whole_holds (span_of (end_at as_whole lower s) (end_at as_whole upper s)))

module _ (F : Form) where
  -- 5: entry i
  abbrev pub entry_holds : Bool → List ℕ → ℕ → Bool
  entry_holds floats s i = span_holds floats s (lower_at F (group_count F s) i) (upper_at F (group_count F s) (list_count F s) i)
