-- `propagate_binary_continuous_nature`: a range derived column by column.
use Rattle.std.specs.Prelude.{Bool, cond, not, List, [], ◌∷◌, ℕ, ℤ, length, eqb}
use Rattle.numbers.specs.Result.{Result, ok, and_then, check, checked}
use Rattle.numbers.specs.Kind.{Span, whole, float}
use Rattle.utilities.specs.Lists.{repeated}
use Rattle.utilities.specs.Columns.{spreads, each, each_pair}
use Rattle.base.specs.Form.{Form, int_type}
use Rattle.base.specs.Sheet.{Nature, whole_range, float_range}
use Rattle.base.specs.Decode.{entries, as_whole, as_float}
use Rattle.base.specs.declared.Component.{Component}
use Rattle.base.specs.declared.Component.TheVariants as C
use Rattle.ends.specs.Ends.{end_rule, unknown}

-- the end rule on whole ranges: Modulo of type Float has none for them, and both ends are absent
unfoldable pub whole_rule : Component → ℕ → Span ℤ → Span ℤ → Result (Span ℤ)
whole_rule C.Modulo type x y = cond (eqb type int_type) (end_rule whole C.Modulo x y) unknown
whole_rule C.Abs type x y = end_rule whole C.Abs x y
whole_rule C.Add type x y = end_rule whole C.Add x y
whole_rule C.Subtract type x y = end_rule whole C.Subtract x y
whole_rule C.Multiply type x y = end_rule whole C.Multiply x y
whole_rule C.Divide type x y = end_rule whole C.Divide x y
whole_rule C.Log type x y = end_rule whole C.Log x y
whole_rule C.Power type x y = end_rule whole C.Power x y
whole_rule C.Negative type x y = end_rule whole C.Negative x y
whole_rule C.Pool type x y = end_rule whole C.Pool x y

-- 01: "Lists of one entry spread over the columns", after 18 has passed the lists, left's first
unfoldable pub range_pair : {E : Type 0} → (Span E → Span E → Result (Span E)) → ℕ → List (Span E) → List (Span E) → Result (List (Span E))
range_pair rule columns xs ys =
    checked (check 18 (not (spreads columns (length xs))) ∷ check 18 (not (spreads columns (length ys))) ∷ [])
    (each_pair rule (repeated columns xs) (repeated columns ys))

unfoldable pub range_alone : {E : Type 0} → (Span E → Span E → Result (Span E)) → ℕ → List (Span E) → Result (List (Span E))
range_alone rule columns xs = checked (check 18 (not (spreads columns (length xs))) ∷ []) (each (λ x. rule x x) (repeated columns xs))

-- the range derived of two sheets' bytes, whose ranges are both float or both whole
unfoldable pub range_nature : Form → Bool → Component → ℕ → ℕ → List ℕ → List ℕ → Result Nature
range_nature F is_float c type columns l r =
    cond is_float (and_then (range_pair (end_rule float c) columns (entries F l as_float) (entries F r as_float)) (λ zs. ok (float_range zs)))
    (and_then (range_pair (whole_rule c type) columns (entries F l as_whole) (entries F r as_whole)) (λ zs. ok (whole_range zs)))
