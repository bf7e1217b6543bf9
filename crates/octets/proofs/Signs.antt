-- Two's complement: the sign of 64 bits, and what a cast of them asks and gives.
-- Assumes nothing.
use mathlib.Core.Path.{◌≡◌, refl, sym, subst, ◌∙◌}
use mathlib.Core.Bool.{Bool, true, false}
use Prim.Native.Nat.{ℕ, suc, ◌-◌, ◌^◌, ◌≤◌, ◌<◌}
use native.Mathlib.Omega.{arith}
use lib.IntN.{pos, negsuc, nat_abs}
use lib.Signed.{le_z, non_neg}
use lib.Dec.{T, ltb, leb-zero}
use mir.Syntax.{w64}
use mir.Val.{Fits, to_z, sel}
use mir.Facts.{to_z_pos}
use borrow.Author.Tests.{ltb-true, ltb-false}

sign_of : (n : ℕ) (b : Bool) → ltb n (2 ^ 63) ≡ b → le_z (pos 0) (sel b (pos n) (negsuc (2 ^ 64 - suc n))) ≡ true → n < 2 ^ 63
sign_of n true e h = ltb-true n (2 ^ 63) e
sign_of n false e h = absurd (subst T (sym h) tt)

pub sign : (n : ℕ) → le_z (pos 0) (to_z w64 n) ≡ true → n < 2 ^ 63
sign n = sign_of n (ltb n (2 ^ 63)) refl

no_sign_of : (n : ℕ) (b : Bool) → ltb n (2 ^ 63) ≡ b → le_z (pos 0) (sel b (pos n) (negsuc (2 ^ 64 - suc n))) ≡ false → 2 ^ 63 ≤ n
no_sign_of n true e h = absurd (subst T (sym (leb-zero n) ∙ h) tt)
no_sign_of n false e h = ltb-false n (2 ^ 63) e

pub no_sign : (n : ℕ) → le_z (pos 0) (to_z w64 n) ≡ false → 2 ^ 63 ≤ n
no_sign n = no_sign_of n (ltb n (2 ^ 63)) refl

module _ (n : ℕ) (low : n < 2 ^ 63) where
  pub low_abs : nat_abs (to_z w64 n) ≡ n
  low_abs = rw (to_z_pos w64 low)

  pub low_cast : T (non_neg (to_z w64 n)) × Fits w64 (nat_abs (to_z w64 n))
  low_cast = rw (to_z_pos w64 low) (tt, record { fits = omega arith })
