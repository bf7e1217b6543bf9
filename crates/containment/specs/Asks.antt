-- What a component asks of its right operand, so that the exact result exists and keeps to the derived ends.
use Rattle.std.specs.Prelude.{◌≡◌, true, ℤ, pos, nat_abs, ◌≤ℤ◌}
use Rattle.std.proofs.Math.Option.{Option, none, some}
use Rattle.numbers.specs.Kind.{Span, whole}
use Rattle.base.specs.Bounds.{positive, non_negative}
use Rattle.base.specs.declared.Component.{Component}
use Rattle.base.specs.declared.Component.TheVariants as C
use Rattle.containment.specs.Demand.{SpanOffZero}

-- of the number: no zero divisor, no negative exponent, no Log
abbrev pub Defined : Component → ℤ → Type 0
Defined C.Abs b = Unit {0}
Defined C.Add b = Unit {0}
Defined C.Subtract b = Unit {0}
Defined C.Multiply b = Unit {0}
Defined C.Divide b = nat_abs b ≡ 0 → ⊥
Defined C.Modulo b = nat_abs b ≡ 0 → ⊥
Defined C.Log b = ⊥
Defined C.Power b = pos 0 ≤ℤ b
Defined C.Negative b = Unit {0}
Defined C.Pool b = Unit {0}

abbrev pub LowerAboveZero : Option (Span ℤ) → Type 0
LowerAboveZero none = ⊥
LowerAboveZero (some y) = positive whole y.lower ≡ true

abbrev pub LowerNotNegative : Option (Span ℤ) → Type 0
LowerNotNegative none = ⊥
LowerNotNegative (some y) = non_negative whole y.lower ≡ true

-- of a range's entry
abbrev pub Asks : Component → Option (Span ℤ) → Type 0
Asks C.Abs y = Unit {0}
Asks C.Add y = Unit {0}
Asks C.Subtract y = Unit {0}
Asks C.Multiply y = Unit {0}
Asks C.Divide y = SpanOffZero y
Asks C.Modulo y = LowerAboveZero y
Asks C.Log y = ⊥
Asks C.Power y = LowerNotNegative y
Asks C.Negative y = Unit {0}
Asks C.Pool y = Unit {0}
