-- Members of lists.
--     at_member       what stands at a place is a member
--     firsts_only, firsts_all, has_member    the first occurrences have just the members of the list
-- Assumes nothing.
use mathlib.Core.Path.{◌≡◌, refl, sym, subst}
use mathlib.Core.Bool.{Bool, true, false, cond, ◌||◌}
use mathlib.Core.Logic.{◌⊎◌, inl, inr, ⊎_elim}
use mathlib.Core.List.Memᴰ
use mathlib.Core.List.{List, [], ◌∷◌, ◌++◌, Memᴰ}
use Prim.Native.Nat.{ℕ, zero, suc, ◌<◌}
use native.Mathlib.Omega.{arith}
use lib.Dec.{T}
use lib.ListN.{length, get_or}
use Rattle.utilities.specs.Lists.{has, noted, firsts_from, firsts}

-- values that are the same are equal
abbrev pub Equals : {X : Type 0} → (X → X → Bool) → Type 0
Equals {X} same = (x y : X) → same x y ≡ true → x ≡ y

pub at_member : {X : Type 0} (xs : List X) (i : ℕ) (d : X) → i < length xs → Memᴰ (get_or xs i d) xs
at_member [] i d h = absurd (omega arith)
at_member (x ∷ xs) zero d h = Memᴰ.head refl
at_member (x ∷ xs) (suc i) d h = Memᴰ.tail (at_member xs i d (omega arith))

module _ {X : Type 0} (same : X → X → Bool) where
  -- ---- one value

  noted_old : (z : X) (seen : List X) (x : X) → Memᴰ z seen → Memᴰ z (noted same seen x)
  unfolding noted
  noted_old z seen x m = go (has same x seen)
    where
      go : (t : Bool) → Memᴰ z (cond t seen (seen ++ (x ∷ [])))
      go true = m
      go false = Memᴰ.append_left (x ∷ []) m

  noted_only : (z : X) (seen : List X) (x : X) → Memᴰ z (noted same seen x) → Memᴰ z seen ⊎ (z ≡ x)
  unfolding noted
  noted_only z seen x = go (has same x seen)
    where
      go : (t : Bool) → Memᴰ z (cond t seen (seen ++ (x ∷ []))) → Memᴰ z seen ⊎ (z ≡ x)
      go true m = inl m
      go false m = ⊎_elim (λ (a : Memᴰ z seen). inl a) (λ (b : Memᴰ z (x ∷ [])). inr (Memᴰ.eq_of_singleton b)) (Memᴰ.append_cases seen m)

  -- ---- a list of values

  firsts_from_old : (z : X) (seen xs : List X) → Memᴰ z seen → Memᴰ z (firsts_from same seen xs)
  unfolding firsts_from
  firsts_from_old z seen [] m = m
  firsts_from_old z seen (x ∷ xs) m = firsts_from_old z (noted same seen x) xs (noted_old z seen x m)

  firsts_from_only : (z : X) (seen xs : List X) → Memᴰ z (firsts_from same seen xs) → Memᴰ z seen ⊎ Memᴰ z xs
  unfolding firsts_from
  firsts_from_only z seen [] m = inl m
  firsts_from_only z seen (x ∷ xs) m =
      ⊎_elim
      (λ (a : Memᴰ z (noted same seen x)).
      ⊎_elim (λ (b : Memᴰ z seen). inl b) (λ (e : z ≡ x). inr (Memᴰ.head e)) (noted_only z seen x a))
      (λ (b : Memᴰ z xs). inr (Memᴰ.tail b))
      (firsts_from_only z (noted same seen x) xs m)

  -- no member is added ..
  pub firsts_only : (z : X) (xs : List X) → Memᴰ z (firsts same xs) → Memᴰ z xs
  unfolding firsts
  firsts_only z xs m = ⊎_elim (λ (b : Memᴰ z []). absurd (Memᴰ.not-nil b)) (λ (b : Memᴰ z xs). b) (firsts_from_only z [] xs m)

  -- .. and none is lost
  module _ (equal : Equals same) where
    pub has_member : (x : X) (l : List X) → has same x l ≡ true → Memᴰ x l
    unfolding has
    has_member x [] e = absurd (subst T (sym e) tt)
    has_member x (y ∷ l) e = go (same x y) refl (has_member x l) e
      where
        go : (t : Bool) → same x y ≡ t → (has same x l ≡ true → Memᴰ x l) → t || has same x l ≡ true → Memᴰ x (y ∷ l)
        go true h r e = Memᴰ.head (equal x y h)
        go false h r e = Memᴰ.tail (r e)

    noted_self : (seen : List X) (x : X) → Memᴰ x (noted same seen x)
    unfolding noted
    noted_self seen x = go (has same x seen) refl
      where
        go : (t : Bool) → has same x seen ≡ t → Memᴰ x (cond t seen (seen ++ (x ∷ [])))
        go true h = has_member x seen h
        go false h = Memᴰ.append_right seen (Memᴰ.head refl)

    firsts_from_all : (z : X) (seen xs : List X) → Memᴰ z xs → Memᴰ z (firsts_from same seen xs)
    unfolding firsts_from
    firsts_from_all z seen [] e = elim e [ ]
    firsts_from_all z seen (x ∷ xs) (Memᴰ.head e) = firsts_from_old z (noted same seen x) xs (Memᴰ.cast e (noted_self seen x))
    firsts_from_all z seen (x ∷ xs) (Memᴰ.tail m) = firsts_from_all z (noted same seen x) xs m

    pub firsts_all : (z : X) (xs : List X) → Memᴰ z xs → Memᴰ z (firsts same xs)
    unfolding firsts
    firsts_all z xs m = firsts_from_all z [] xs m
