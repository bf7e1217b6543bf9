-- Laws of the end rules, over the kind of number: which case of a rule holds. Assumes nothing.
use mathlib.Core.Path.{◌≡◌, refl}
use mathlib.Core.Bool.{true, false}
use mathlib.Core.List.{[], ◌∷◌}
use mathlib.Core.Logic.{⊎_elim}
use mathlib.Core.Option.{Option, none, some}
use native.Mathlib.Omega.{arith}
use types.Run.{OneOf}
use denote.Enum.Declared.{tag_of}
use Rattle.numbers.specs.Result.{Result}
use Rattle.numbers.specs.Kind.{Kind, Span}
use Rattle.base.specs.declared.Component.{Component}
use Rattle.base.specs.declared.Component.TheVariants as C
use Rattle.base.specs.contracts.Component
use Rattle.ends.specs.Ends.{unknown, from_both, div_corners, div_present, end_rule}
use Rattle.ends.specs.Code.{two_of}

-- Abs, Multiply and Divide: what a rule of both ends gives, by the pair that the code makes of them
module _ {E : Type 0} where
  abbrev pub on_two : Option (E × E) → (E → E → Result (Span E)) → Result (Span E)
  on_two none rule = unknown
  on_two (some p) rule = rule p.0 p.1

  pub both_on : (x y : Option E) (rule : E → E → Result (Span E)) → from_both x y rule ≡ on_two (two_of x y) rule
  unfolding from_both
  both_on none y rule = refl
  both_on (some a) none rule = refl
  both_on (some a) (some b) rule = refl

-- Divide by what is above zero, or below it
module _ {E : Type 0} (K : Kind E) (a c d f : E) where
  pub div_above : K.lt K.zero d ≡ true → div_present K a c d f ≡ div_corners K a c d f
  unfolding div_present
  div_above e = rw e

  pub div_below : K.lt K.zero d ≡ false → K.lt f K.zero ≡ true → div_present K a c d f ≡ div_corners K a c d f
  unfolding div_present
  div_below e₁ e₂ = rw (e₁, e₂)

-- the tags of `Component` go from 0 Abs to 9 Pool: 6 is Log and 7 Power
pub rule_absent : {E : Type 0} (K : Kind E) (x y : Span E) (c : Component) → OneOf (6 ∷ 7 ∷ []) (tag_of Component.the_type c) → end_rule K c x y ≡ unknown
unfolding end_rule
rule_absent K x y C.Abs h = absurd (⊎_elim (λ (e : 0 ≡ 6). omega arith) (λ (e : 0 ≡ 7). omega arith) h)
rule_absent K x y C.Add h = absurd (⊎_elim (λ (e : 1 ≡ 6). omega arith) (λ (e : 1 ≡ 7). omega arith) h)
rule_absent K x y C.Subtract h = absurd (⊎_elim (λ (e : 2 ≡ 6). omega arith) (λ (e : 2 ≡ 7). omega arith) h)
rule_absent K x y C.Multiply h = absurd (⊎_elim (λ (e : 3 ≡ 6). omega arith) (λ (e : 3 ≡ 7). omega arith) h)
rule_absent K x y C.Divide h = absurd (⊎_elim (λ (e : 4 ≡ 6). omega arith) (λ (e : 4 ≡ 7). omega arith) h)
rule_absent K x y C.Modulo h = absurd (⊎_elim (λ (e : 5 ≡ 6). omega arith) (λ (e : 5 ≡ 7). omega arith) h)
rule_absent K x y C.Log h = refl
rule_absent K x y C.Power h = refl
rule_absent K x y C.Negative h = absurd (⊎_elim (λ (e : 8 ≡ 6). omega arith) (λ (e : 8 ≡ 7). omega arith) h)
rule_absent K x y C.Pool h = absurd (⊎_elim (λ (e : 9 ≡ 6). omega arith) (λ (e : 9 ≡ 7). omega arith) h)
