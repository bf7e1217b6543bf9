-- `firsts` gives a list without repeats, over any equality. Assumes nothing.
use mathlib.Core.Path.{◌≡◌, refl, sym, ap, subst}
use mathlib.Core.Bool.{Bool, true, false, cond, not, ◌&&◌, ◌||◌}
use mathlib.Core.List.{List, [], ◌∷◌, ◌++◌}
use lib.Dec.{T}
use Rattle.utilities.specs.Lists.{every, has, noted, firsts_from, firsts, distinct}

-- one value more passes the test
every_more : {X : Type 0} (p : X → Bool) (xs : List X) (x : X) → every p xs ≡ true → p x ≡ true → every p (xs ++ (x ∷ [])) ≡ true
unfolding every
every_more p [] x h e = ap (λ (t : Bool). cond t true false) e
every_more p (y ∷ xs) x h e = go (p y) h (λ k. every_more p xs x k e)
  where
    go : (t : Bool) → cond t (every p xs) false ≡ true → (every p xs ≡ true → every p (xs ++ (x ∷ [])) ≡ true) → cond t (every p (xs ++ (x ∷ []))) false ≡ true
    go true h r = r h
    go false h r = h

module _ {X : Type 0} (same : X → X → Bool) where
  -- a value that is not among them
  distinct_more : (seen : List X) (x : X) → has same x seen ≡ false → distinct same seen ≡ true → distinct same (seen ++ (x ∷ [])) ≡ true
  unfolding distinct every has
  distinct_more [] x new h = refl
  distinct_more (y ∷ seen) x new h = go (same x y) refl (every (λ z. not (same z y)) seen) refl new h (distinct_more seen x)
    where
      go : (s : Bool) → same x y ≡ s → (t : Bool) → every (λ z. not (same z y)) seen ≡ t → s || has same x seen ≡ false → t && distinct same seen ≡ true
          → (has same x seen ≡ false → distinct same seen ≡ true → distinct same (seen ++ (x ∷ [])) ≡ true)
          → every (λ z. not (same z y)) (seen ++ (x ∷ [])) && distinct same (seen ++ (x ∷ [])) ≡ true
      go true e t f new h more = absurd (subst T new tt)
      go false e false f new h more = absurd (subst T (sym h) tt)
      go false e true f new h more = rw (every_more (λ z. not (same z y)) seen x f (ap not e)) (more new h)

  distinct_noted : (seen : List X) (x : X) → distinct same seen ≡ true → distinct same (noted same seen x) ≡ true
  unfolding noted
  distinct_noted seen x h = go (has same x seen) refl
    where
      go : (t : Bool) → has same x seen ≡ t → distinct same (cond t seen (seen ++ (x ∷ []))) ≡ true
      go true e = h
      go false e = distinct_more seen x e h

  distinct_from : (seen xs : List X) → distinct same seen ≡ true → distinct same (firsts_from same seen xs) ≡ true
  unfolding firsts_from
  distinct_from seen [] h = h
  distinct_from seen (x ∷ xs) h = distinct_from (noted same seen x) xs (distinct_noted seen x h)

  pub firsts_distinct : (xs : List X) → distinct same (firsts same xs) ≡ true
  unfolding firsts distinct
  firsts_distinct xs = distinct_from [] xs refl
