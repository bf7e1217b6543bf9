-- The rule of a component on whole categories.
--     arm                       the rule of a row's component on what the row reads is the rule of the call
--     not_unary, not_pair       no component of another family comes to the last row
-- Assumes nothing.
use mathlib.Core.Path.{◌≡◌, sym, ap, ap₂, ◌∙◌}
use mathlib.Core.List.{List, [], ◌∷◌}
use Prim.Native.Nat.{ℕ}
use native.Mathlib.Omega.{arith}
use lib.IntN.{ℤ}
use types.Run.{OneOf, miss}
use denote.Enum.Declared.{tag_of}
use mir.Syntax.{w64}
use mir.Val.{SFits}
use mir.Facts.{to_z-of_z}
use Rattle.numbers.proofs.Bits.{back}
use Rattle.base.specs.Components.{family_of}
use Rattle.base.specs.contracts.Component
use Rattle.base.specs.declared.Component.{Component}
use Rattle.base.specs.declared.Component.TheVariants as C
use Rattle.base.specs.contracts.Family
use Rattle.base.specs.declared.Family.{Family}
use Rattle.base.specs.declared.Family.TheVariants as Fam
use Rattle.category_lists.specs.Categories.{rule_of}

pub arm : (k : Component) {c : Component} {a b : ℤ} (f : SFits w64 a) (g : SFits w64 b) → c ≡ k → rule_of k (back f) (back g) ≡ rule_of c a b
arm k {c} {a} {b} f g e = ap₂ (rule_of k) (to_z-of_z f) (to_z-of_z g) ∙ sym (ap (λ (x : Component). rule_of x a b) e)

-- what a `_` tells of a component: its number is none of those named before
abbrev Other : List ℕ → Component → Type 0
Other ks c = OneOf ks (tag_of Component.the_type c)

other_family : {f g : Family} → f ≡ g → tag_of Family.the_type f ≡ tag_of Family.the_type g
other_family e = ap (tag_of Family.the_type) e

pub not_unary : (c : Component) → Other (1 ∷ 2 ∷ 3 ∷ 4 ∷ 5 ∷ 6 ∷ 7 ∷ 9 ∷ []) c → family_of c ≡ Fam.Unary → ⊥
not_unary C.Abs h e = miss (1 ∷ 2 ∷ 3 ∷ 4 ∷ 5 ∷ 6 ∷ 7 ∷ 9 ∷ []) 0 tt h
not_unary C.Add h e = let t = other_family e in omega arith
not_unary C.Subtract h e = let t = other_family e in omega arith
not_unary C.Multiply h e = let t = other_family e in omega arith
not_unary C.Divide h e = let t = other_family e in omega arith
not_unary C.Modulo h e = let t = other_family e in omega arith
not_unary C.Log h e = let t = other_family e in omega arith
not_unary C.Power h e = let t = other_family e in omega arith
not_unary C.Negative h e = miss (1 ∷ 2 ∷ 3 ∷ 4 ∷ 5 ∷ 6 ∷ 7 ∷ 9 ∷ []) 8 tt h
not_unary C.Pool h e = let t = other_family e in omega arith

pub not_pair : (c : Component) → Other (0 ∷ 5 ∷ 6 ∷ 7 ∷ 8 ∷ 9 ∷ []) c → family_of c ≡ Fam.Pair → ⊥
not_pair C.Abs h e = let t = other_family e in omega arith
not_pair C.Add h e = miss (0 ∷ 5 ∷ 6 ∷ 7 ∷ 8 ∷ 9 ∷ []) 1 tt h
not_pair C.Subtract h e = miss (0 ∷ 5 ∷ 6 ∷ 7 ∷ 8 ∷ 9 ∷ []) 2 tt h
not_pair C.Multiply h e = miss (0 ∷ 5 ∷ 6 ∷ 7 ∷ 8 ∷ 9 ∷ []) 3 tt h
not_pair C.Divide h e = miss (0 ∷ 5 ∷ 6 ∷ 7 ∷ 8 ∷ 9 ∷ []) 4 tt h
not_pair C.Modulo h e = let t = other_family e in omega arith
not_pair C.Log h e = let t = other_family e in omega arith
not_pair C.Power h e = let t = other_family e in omega arith
not_pair C.Negative h e = let t = other_family e in omega arith
not_pair C.Pool h e = let t = other_family e in omega arith
