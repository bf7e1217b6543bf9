-- 02, S-3: "Float ends under Abs and Negative should come by its copy and negate, on the sign bit alone. The promise of each names an end's 64 bits, its source's with bit 63 kept or
-- flipped". The bits of the new ends, beside the rules of Ends.antt that say which number each is; the source is [a, c].
use Rattle.std.specs.Prelude.{◌≡◌, cond, not, ◌⊎◌, ℕ, T, Float}
use Rattle.std.proofs.Math.Option.{Option, none, some}
use Rattle.std.specs.Float.Ieee as Ieee
use Rattle.std.specs.Float.{binary64}
use Rattle.std.specs.Float.Ieee.{is_nan}
use Rattle.octets.specs.SignBit.{flip}
use Rattle.numbers.specs.Result.{Result, ok, and_then}
use Rattle.numbers.specs.Kind.{Span, span_of, float}
use Rattle.base.specs.Encode.{float_bits}
use Rattle.ends.specs.Ends.{neg_ends, abs_ends}

-- The bits are named of numbers: there is one NaN here, without a sign, for every pattern of one. By 5 no end that a call reads is a NaN
abbrev pub Number : Float → Type 0
Number x = T (not (is_nan x))

abbrev pub NumberEnd : Option Float → Type 0
NumberEnd none = Unit {0}
NumberEnd (some x) = Number x

abbrev pub Numbers : Span Float → Type 0
Numbers x = NumberEnd x.lower × NumberEnd x.upper

-- copy and negate of IEEE 754-2008, 5.5.1: a number's bits, bit 63 kept, and flipped
abbrev pub copied : Float → ℕ
copied x = float_bits x

abbrev pub negated : Float → ℕ
negated x = flip (float_bits x)

-- the same of an end; an absent end has no bits
abbrev pub end_copied : Option Float → Option ℕ
end_copied none = none
end_copied (some x) = some (copied x)

abbrev pub end_negated : Option Float → Option ℕ
end_negated none = none
end_negated (some x) = some (negated x)

-- Negative, "−upper, −lower": both ends negated, and exchanged
abbrev pub neg_bits : Span Float → Span ℕ
neg_bits x = span_of (end_negated x.upper) (end_negated x.lower)

-- Abs, "lower if above 0, else −upper"
abbrev pub abs_lower_bits : Float → Float → ℕ
abs_lower_bits a c = cond (float.lt float.zero a) (copied a) (negated c)

-- Abs, "upper if lower + upper > 0, else −lower": the sum is rounded once, and is infinite where it overflows
abbrev pub abs_upper_bits : Float → Float → ℕ
abs_upper_bits a c = cond (float.lt float.zero (Ieee.add binary64 a c)) (copied c) (negated a)

-- "Abs, both present: .. Otherwise both are absent"
abbrev pub abs_bits_of : Option Float → Option Float → Span ℕ
abs_bits_of none c = span_of none none
abs_bits_of (some a) none = span_of none none
abs_bits_of (some a) (some c) = span_of (some (abs_lower_bits a c)) (some (abs_upper_bits a c))

abbrev pub abs_bits : Span Float → Span ℕ
abs_bits x = abs_bits_of x.lower x.upper

-- ---- the claim over the rules

-- the bits of both ends of what a rule gives
abbrev pub span_bits : Span Float → Span ℕ
span_bits x = span_of (end_copied x.lower) (end_copied x.upper)

abbrev pub in_bits : Result (Span Float) → Result (Span ℕ)
in_bits g = and_then g (λ x. ok (span_bits x))

-- "its source's with bit 63 kept or flipped"
abbrev pub KeptOrFlipped : Option Float → Option ℕ → Type 0
KeptOrFlipped source b = (b ≡ end_copied source) ⊎ (b ≡ end_negated source)

-- each end from one end of the source
abbrev pub FromOne : Span Float → Option ℕ → Type 0
FromOne x b = KeptOrFlipped x.lower b ⊎ KeptOrFlipped x.upper b

abbrev pub FromOneEach : Span Float → Span ℕ → Type 0
FromOneEach x y = FromOne x y.lower × FromOne x y.upper

-- what Negative and Abs give of an entry has those bits, and so each of its ends has the bits of one source end, kept or flipped
pub record SignSteps (x : Span Float) : Type 0 where
  pub negative : in_bits (neg_ends float x) ≡ ok (neg_bits x)
  pub abs : in_bits (abs_ends float x) ≡ ok (abs_bits x)
  pub negative_sources : FromOneEach x (neg_bits x)
  pub abs_sources : FromOneEach x (abs_bits x)
