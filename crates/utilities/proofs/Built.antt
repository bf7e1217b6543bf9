-- Laws of `list_from` and `every`. Assumes nothing.
use mathlib.Core.Path.{◌≡◌, refl, sym, ap, subst, ◌∙◌}
use mathlib.Core.Bool.{Bool, true, false, cond}
use mathlib.Core.List.{List, [], ◌∷◌}
use Prim.Native.Nat.{ℕ, zero, suc, ◌+◌, ◌<◌}
use native.Mathlib.Omega.{arith}
use lib.Dec.{T}
use lib.ListN.{length, get_or}
use Rattle.utilities.specs.Lists.{list_from, every}

module _ {ℓ} {X : Type ℓ} (f : ℕ → X) where
  pub list_from_length : (n i : ℕ) → length (list_from n i f) ≡ n
  unfolding list_from
  list_from_length zero i = refl
  list_from_length (suc n) i = ap suc (list_from_length n (i + 1))

  pub list_from_at : (n i j : ℕ) (d : X) → j < n → get_or (list_from n i f) j d ≡ f (i + j)
  unfolding list_from
  list_from_at zero i j d h = absurd (omega arith)
  list_from_at (suc n) i zero d h = ap f (omega arith)
  list_from_at (suc n) i (suc j) d h = list_from_at n (i + 1) j d (omega arith) ∙ ap f (omega arith)

-- two tests of which the first decides whether the second is made
pub both_hold : (t r : Bool) → cond t r false ≡ true → (t ≡ true) × (r ≡ true)
both_hold true r e = (refl, e)
both_hold false r e = absurd (subst T (sym e) tt)

module _ {ℓ} {X : Type ℓ} (p : X → Bool) where
  pub every_at : (xs : List X) (j : ℕ) (d : X) → j < length xs → every p xs ≡ true → p (get_or xs j d) ≡ true
  unfolding every
  every_at [] j d h e = absurd (omega arith)
  every_at (x ∷ xs) zero d h e = (both_hold (p x) (every p xs) e).0
  every_at (x ∷ xs) (suc j) d h e = every_at xs j d (omega arith) (both_hold (p x) (every p xs) e).1
