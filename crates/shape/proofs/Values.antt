-- Laws of single values: equal signed numbers, a float against the literal 1. Assumes nothing.
use mathlib.Core.Path.{◌≡◌, refl, sym, ap, ◌∙◌}
use mathlib.Core.Bool.{Bool, true, false, cond, not, ◌&&◌}
use lib.IntN.{ℤ}
use lib.Dec.{eqb}
use lib.Ieee as Ieee
use lib.Ieee.{Float, binary64, of_bits}
use mir.Syntax.{w64}
use mir.Val.{to_z, of_z}
use borrow.Author.Tests.{eqb-true, eqb-false}
use Rattle.numbers.specs.Kind.{eq_z, one_float}
use Rattle.numbers.proofs.Choices.{eq_z_yes, eq_z_no}

-- `==` is one of bits
pub same_bits : (a b : ℤ) → to_z w64 (of_z w64 a) ≡ a → to_z w64 (of_z w64 b) ≡ b → eqb (of_z w64 a) (of_z w64 b) ≡ eq_z a b
same_bits a b f g = go (eqb (of_z w64 a) (of_z w64 b)) refl
  where
    go : (t : Bool) → eqb (of_z w64 a) (of_z w64 b) ≡ t → t ≡ eq_z a b
    go true e = sym (eq_z_yes a b (sym f ∙ ap (to_z w64) (eqb-true (of_z w64 a) (of_z w64 b) e) ∙ g))
    go false e = sym (eq_z_no a b (λ h. eqb-false (of_z w64 a) (of_z w64 b) e (ap (of_z w64) h)))

pub differs_from_one : (x : Float) → Ieee.ne x (of_bits binary64 0x3ff0_0000_0000_0000) ≡ not (Ieee.eq x one_float)
unfolding Ieee.ne of_bits
differs_from_one x = refl
