-- Bit patterns of floats: which are a NaN's.
-- Assumes nothing.
use mathlib.Core.Path.{◌≡◌, refl, sym, subst, ◌∙◌}
use mathlib.Core.Bool.{Bool, true, false, not}
use Prim.Native.Nat.{ℕ, ◌%◌, ◌≤◌, ◌<◌}
use lib.Dec.{T}
use lib.Ieee.{Float, nan, inf, fin, binary64, of_bits, nan_bits, is_nan, ne}
use lib.Ieee.Bits.{nan_bits_is, nan_bits_above}
use lib.Ieee.Compare.{differs_from_itself}
use borrow.Author.Tests.{lt-ltb, le-ltb}

nan_only : (x : Float) → is_nan x ≡ true → x ≡ nan
unfolding is_nan
nan_only nan e = refl
nan_only (inf s) e = absurd (subst T (sym e) tt)
nan_only (fin s m k) e = absurd (subst T (sym e) tt)

module _ (v : ℕ) where
  pub nan_pattern : 0x7ff0_0000_0000_0000 < v % 0x8000_0000_0000_0000 → nan ≡ of_bits binary64 v
  nan_pattern h = sym (nan_only (of_bits binary64 v) (sym (nan_bits_is binary64 v) ∙ nan_bits_above binary64 v ∙ lt-ltb _ _ h))

  pub no_nan_pattern : v % 0x8000_0000_0000_0000 ≤ 0x7ff0_0000_0000_0000 → T (not (nan_bits binary64 v))
  no_nan_pattern h = subst (λ (b : Bool). T (not b)) (sym (nan_bits_above binary64 v ∙ le-ltb 0x7ff0_0000_0000_0000 (v % 0x8000_0000_0000_0000) h)) tt

pub equal_no_nan : (x : Float) → ne x x ≡ false → T (not (is_nan x))
unfolding ne is_nan
equal_no_nan nan e = absurd (subst T e tt)
equal_no_nan (inf s) e = tt
equal_no_nan (fin s m k) e = tt

pub unequal_nan : (x : Float) → ne x x ≡ true → x ≡ nan
unequal_nan x e = differs_from_itself x (subst T (sym e) tt)
