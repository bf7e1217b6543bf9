-- The bits that Abs names, by the pair that the code makes of both ends. Assumes nothing.
use mathlib.Core.Path.{◌≡◌, refl}
use mathlib.Core.Option.{Option, none, some}
use Prim.Native.Nat.{ℕ}
use lib.Ieee.{Float}
use Rattle.numbers.specs.Kind.{Span, span_of}
use Rattle.ends.specs.Code.{two_of}
use Rattle.ends.specs.Signs.{Number, NumberEnd, abs_lower_bits, abs_upper_bits, abs_bits_of}

abbrev pub bits_on : Option (Float × Float) → Span ℕ
bits_on none = span_of none none
bits_on (some p) = span_of (some (abs_lower_bits p.0 p.1)) (some (abs_upper_bits p.0 p.1))

pub bits_on_lem : (l u : Option Float) → abs_bits_of l u ≡ bits_on (two_of l u)
bits_on_lem none u = refl
bits_on_lem (some a) none = refl
bits_on_lem (some a) (some c) = refl

abbrev pub NumbersOn : Option (Float × Float) → Type 0
NumbersOn none = Unit {0}
NumbersOn (some p) = Number p.0 × Number p.1

pub numbers_on : (l u : Option Float) → NumberEnd l → NumberEnd u → NumbersOn (two_of l u)
numbers_on none u m n = tt
numbers_on (some a) none m n = tt
numbers_on (some a) (some c) m n = (m, n)
