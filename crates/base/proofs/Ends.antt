-- A bound as an end of a range of one kind.
--     not_whole, not_float    what a `let .. else` on a bound tells where it is left
--     whole_end_lem, float_end_lem    the end that a bound read from a sheet is
-- Assumes nothing.
use mathlib.Core.Path.{◌≡◌, refl, ap, ◌∙◌}
use mathlib.Core.Bool.{Bool, true, false, cond}
use mathlib.Core.List.{List, [], ◌∷◌}
use mathlib.Core.Logic.{⊎_elim}
use mathlib.Core.Option.{Option, none, some}
use Prim.Native.Nat.{ℕ}
use native.Mathlib.Omega.{arith}
use lib.IntN.{ℤ}
use lib.Ieee as Ieee
use types.Run.{OneOf}
use denote.Enum.Declared.{tag_of}
use Rattle.base.specs.Decode.{end_at, as_whole, as_float}
use Rattle.base.specs.Code.{whole_end, float_end, of_whole, of_float, bound_at}
use Rattle.base.specs.declared.Bound.{Bound}
use Rattle.base.specs.declared.Bound.TheVariants.{Absent, Whole, Float}
use Rattle.base.specs.contracts.Bound

-- the tags of `Bound` are 0 Absent, 1 Whole, 2 Float
pub not_whole : (x : Bound) → OneOf (0 ∷ 2 ∷ []) (tag_of Bound.the_type x) → whole_end x ≡ none
not_whole Absent h = refl
not_whole (Whole z) h = absurd (⊎_elim (λ (e : 1 ≡ 0). omega arith) (λ (e : 1 ≡ 2). omega arith) h)
not_whole (Float x) h = refl

pub not_float : (x : Bound) → OneOf (0 ∷ 1 ∷ []) (tag_of Bound.the_type x) → float_end x ≡ none
not_float Absent h = refl
not_float (Whole z) h = refl
not_float (Float x) h = absurd (⊎_elim (λ (e : 2 ≡ 0). omega arith) (λ (e : 2 ≡ 1). omega arith) h)

whole_back : (e : Option ℤ) → whole_end (of_whole e) ≡ e
whole_back none = refl
whole_back (some z) = refl

float_back : (e : Option Ieee.Float) → float_end (of_float e) ≡ e
float_back none = refl
float_back (some x) = refl

module _ {floats : Bool} (at : ℕ) (s : List ℕ) {b : Bound} (e : b ≡ bound_at floats at s) where
  pub whole_end_lem : floats ≡ false → whole_end b ≡ end_at as_whole at s
  unfolding bound_at
  whole_end_lem h =
      ap whole_end e ∙ ap (λ (t : Bool). whole_end (cond t (of_float (end_at as_float at s)) (of_whole (end_at as_whole at s)))) h ∙ whole_back (end_at as_whole at s)

  pub float_end_lem : floats ≡ true → float_end b ≡ end_at as_float at s
  unfolding bound_at
  float_end_lem h =
      ap float_end e ∙ ap (λ (t : Bool). float_end (cond t (of_float (end_at as_float at s)) (of_whole (end_at as_whole at s)))) h ∙ float_back (end_at as_float at s)
