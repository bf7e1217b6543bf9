-- Lists of other elements: what is made of the map's list is the map of what is made of the list.
--     list_from_map    the values of a function
--     firsts_map      lists without repeats, by a map that keeps which elements are the same
-- Assumes nothing.
use mathlib.Core.Path.{◌≡◌, refl, sym, ap, ap₂, ◌∙◌}
use mathlib.Core.Bool.{Bool, true, false, cond, ◌||◌}
use mathlib.Core.List.{List, [], ◌∷◌, ◌++◌, map, map-append}
use Prim.Native.Nat.{ℕ, zero, suc, ◌+◌}
use Rattle.utilities.specs.Lists.{list_from, has, noted, firsts_from, firsts}

pub list_from_map : {X Y : Type 0} (f : X → Y) (n i : ℕ) (g : ℕ → X) (h : ℕ → Y) → ((j : ℕ) → h j ≡ f (g j)) → list_from n i h ≡ map f (list_from n i g)
unfolding list_from
list_from_map f zero i g h e = refl
list_from_map {Y} f (suc n) i g h e = ap₂ (λ (y : Y) (ys : List Y). y ∷ ys) (e i) (list_from_map f n (i + 1) g h e)

module _ {X Y : Type 0} (same : X → X → Bool) (other : Y → Y → Bool) (f : X → Y) (keeps : (a b : X) → other (f a) (f b) ≡ same a b) where
  has_map : (x : X) (ys : List X) → has other (f x) (map f ys) ≡ has same x ys
  unfolding has
  has_map x [] = refl
  has_map x (y ∷ ys) = ap₂ ◌||◌ (keeps x y) (has_map x ys)

  noted_map : (seen : List X) (x : X) → noted other (map f seen) (f x) ≡ map f (noted same seen x)
  unfolding noted
  noted_map seen x = ap (λ (t : Bool). cond t (map f seen) (map f seen ++ (f x ∷ []))) (has_map x seen) ∙ go (has same x seen)
    where
      go : (t : Bool) → cond t (map f seen) (map f seen ++ (f x ∷ [])) ≡ map f (cond t seen (seen ++ (x ∷ [])))
      go true = refl
      go false = sym (map-append f seen (x ∷ []))

  firsts_from_map : (seen xs : List X) → firsts_from other (map f seen) (map f xs) ≡ map f (firsts_from same seen xs)
  unfolding firsts_from
  firsts_from_map seen [] = refl
  firsts_from_map seen (x ∷ xs) = ap (λ (l : List Y). firsts_from other l (map f xs)) (noted_map seen x) ∙ firsts_from_map (noted same seen x) xs

  pub firsts_map : (xs : List X) → firsts other (map f xs) ≡ map f (firsts same xs)
  unfolding firsts
  firsts_map xs = firsts_from_map [] xs
