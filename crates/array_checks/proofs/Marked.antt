-- Check 5 of an entry, by the marks and bits of its ends: an end is there where its mark is not 0, so that the tests need no `Bound` and no permission of 4.
--     crossed_is      over the element kind
--     unbounded_is    of a float end
-- Assumes nothing.
use Rattle.std.proofs.Common.{◌≡◌, ℕ, ◌+◌, Bool, true, false, cond, not, ◌&&◌, eqb, List, get_or, refl}
use mathlib.Core.Option.{none, some}
use lib.Ieee.Scale.{finite}
use Rattle.octets.specs.Le.{le_at}
use Rattle.numbers.specs.Kind.{Kind}
use Rattle.base.specs.Decode.{as_float, option_at, end_at}
use Rattle.base.specs.Checks.{crossed, unbounded}

-- what stands at a place: whether its mark is there, and its bits
abbrev present : List ℕ → ℕ → Bool
present s at = not (eqb (get_or s at 0) 0)

abbrev bits_at : List ℕ → ℕ → ℕ
bits_at s at = le_at 8 (at + 1) s

pub crossed_is : {E : Type 0} (K : Kind E) (value : ℕ → E) (s : List ℕ) (lower upper : ℕ)
    → (present s lower && present s upper && K.lt (value (bits_at s upper)) (value (bits_at s lower))) ≡ crossed K (end_at value lower s) (end_at value upper s)
unfolding option_at crossed
crossed_is K value s lower upper = go (eqb (get_or s lower 0) 0) (eqb (get_or s upper 0) 0)
  where
    go : (t u : Bool)
        → (not t && not u && K.lt (value (bits_at s upper)) (value (bits_at s lower)))
        ≡ crossed K (cond t none (some (value (bits_at s lower)))) (cond u none (some (value (bits_at s upper))))
    go true u = refl
    go false true = refl
    go false false = refl

pub unbounded_is : (s : List ℕ) (at : ℕ) → (present s at && not (finite (as_float (bits_at s at)))) ≡ unbounded (end_at as_float at s)
unfolding option_at unbounded
unbounded_is s at = go (eqb (get_or s at 0) 0)
  where
    go : (t : Bool) → (not t && not (finite (as_float (bits_at s at)))) ≡ unbounded (cond t none (some (as_float (bits_at s at))))
    go true = refl
    go false = refl
