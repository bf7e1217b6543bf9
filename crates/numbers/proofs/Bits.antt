-- A signed local holds bits, and what reads it reads `to_z w64 (of_z w64 z)`. Assumes nothing.
use mathlib.Core.Path.{◌≡◌, refl, sym, ap, ap₂, ◌∙◌}
use mathlib.Core.Bool.{Bool, true, false}
use Prim.Native.Nat.{zero, suc}
use native.Mathlib.Omega.{arith}
use lib.Dec.{eqb}
use lib.IntN.{ℤ, pos, negsuc, neg_ℤ, nat_abs, ◌-ℤ◌}
use lib.Signed.{lt_z}
use mir.Syntax.{w64}
use mir.Val.{SFits, to_z, of_z}
use mir.Facts.{to_z-of_z, sfits_to_z, Fits-of_z}
use borrow.Author.Tests.{eq-eqb, ne_eqb}
use Rattle.std.specs.Int.{IsNonZero}
use Rattle.numbers.proofs.Parts.{zero_sub}

-- what the code reads of a local that holds z; it is z, by `to_z-of_z`
abbrev pub back : {z : ℤ} → SFits w64 z → ℤ
back {z} f = to_z w64 (of_z w64 z)

-- `to_z-of_z` by its number, from which the bound is searched for
pub reads : (z : ℤ) → SFits w64 z → to_z w64 (of_z w64 z) ≡ z
reads z f = to_z-of_z f

pub again : {z : ℤ} → SFits w64 z → SFits w64 (to_z w64 (of_z w64 z))
again f = sfits_to_z (Fits-of_z f)

-- the code's -z is 0 - z of what it reads
pub minus_is : {z : ℤ} → SFits w64 z → pos 0 -ℤ to_z w64 (of_z w64 z) ≡ neg_ℤ z
minus_is {z} f = zero_sub (to_z w64 (of_z w64 z)) ∙ ap neg_ℤ (to_z-of_z f)

-- ---- the code's tests, as tests of the numbers

pub lt_read : {a b : ℤ} {t : Bool} → SFits w64 a → SFits w64 b → lt_z (to_z w64 (of_z w64 a)) (to_z w64 (of_z w64 b)) ≡ t → lt_z a b ≡ t
lt_read f g h = sym (ap₂ lt_z (to_z-of_z f) (to_z-of_z g)) ∙ h

pub above_zero : {z : ℤ} {t : Bool} → SFits w64 z → lt_z (pos 0) (to_z w64 (of_z w64 z)) ≡ t → lt_z (pos 0) z ≡ t
above_zero f h = sym (ap (λ (x : ℤ). lt_z (pos 0) x) (to_z-of_z f)) ∙ h

pub below_zero : {z : ℤ} {t : Bool} → SFits w64 z → lt_z (to_z w64 (of_z w64 z)) (pos 0) ≡ t → lt_z z (pos 0) ≡ t
below_zero f h = sym (ap (λ (x : ℤ). lt_z x (pos 0)) (to_z-of_z f)) ∙ h

-- `==` is one of bits
pub bits_inj : {a b : ℤ} → SFits w64 a → SFits w64 b → of_z w64 a ≡ of_z w64 b → a ≡ b
bits_inj f g e = sym (to_z-of_z f) ∙ ap (to_z w64) e ∙ to_z-of_z g

bits_zero : (z : ℤ) → SFits w64 z → of_z w64 z ≡ 0 → nat_abs z ≡ 0
bits_zero (pos n) f h = h
bits_zero (negsuc n) f h = absurd (omega arith)

zero_bits : (z : ℤ) → nat_abs z ≡ 0 → of_z w64 z ≡ 0
zero_bits (pos n) h = h
zero_bits (negsuc n) h = absurd (omega arith)

pub zero_yes : {z : ℤ} → SFits w64 z → of_z w64 z ≡ 0 → eqb (nat_abs z) 0 ≡ true
zero_yes {z} f h = eq-eqb (nat_abs z) 0 (bits_zero z f h)

pub zero_no : {z : ℤ} → SFits w64 z → (of_z w64 z ≡ 0 → ⊥) → eqb (nat_abs z) 0 ≡ false
zero_no {z} f h = ne_eqb (nat_abs z) 0 (λ e. h (zero_bits z e))

-- a divisor that is not 0, as the library asks for it
pub nonzero_bits : (z : ℤ) → SFits w64 z → (nat_abs z ≡ 0 → ⊥) → IsNonZero w64 z
nonzero_bits (pos zero) f h = absurd (h refl)
nonzero_bits (pos (suc n)) f h = omega arith
nonzero_bits (negsuc n) f h = omega arith

pub bits_nonzero : (z : ℤ) → IsNonZero w64 z → nat_abs z ≡ 0 → ⊥
bits_nonzero (pos n) p h = omega arith
bits_nonzero (negsuc n) p h = omega arith
