-- Lists of other elements, by a map that keeps their equality.
--     united_map     lists united after the map are the map of the lists united
--     numbers_map, values_map    what is written of the map's lists
-- Assumes nothing.
use mathlib.Core.Path.{◌≡◌, refl, sym, ap, ap₂, ◌∙◌}
use mathlib.Core.Bool.{Bool}
use mathlib.Core.List.{List, [], ◌∷◌, ◌++◌, map, map-append}
use Prim.Native.Nat.{ℕ, zero, suc, ◌+◌}
use lib.ListN.{replicate}
use Rattle.octets.specs.Le.{le_bytes}
use Rattle.numbers.specs.Result.{Result, ok, refused, and_then}
use Rattle.utilities.specs.Lists.{firsts, repeated, standardized}
use Rattle.utilities.specs.Columns.{each_pair}
use Rattle.utilities.proofs.Mapped.{firsts_map}
use Rattle.base.specs.Form.{Form}
use Rattle.base.specs.Encode.{joined, list_bytes, values_of, number_bytes, numbers_from}
use Rattle.category_lists.specs.Categories.{union, united}

module _ {X Y : Type 0} (f : X → Y) where
  map_replicate : (n : ℕ) (x : X) → replicate n (f x) ≡ map f (replicate n x)
  map_replicate zero x = refl
  map_replicate (suc n) x = ap (λ (l : List Y). f x ∷ l) (map_replicate n x)

-- ---- lists united

module _ {X Y : Type 0} (same : X → X → Bool) (other : Y → Y → Bool) (f : X → Y) (keeps : (a b : X) → other (f a) (f b) ≡ same a b) where
  all_firsts : (ls : List (List X)) → map (firsts other) (map (map f) ls) ≡ map (map f) (map (firsts same) ls)
  all_firsts [] = refl
  all_firsts (l ∷ ls) = ap₂ (λ (m : List Y) (ms : List (List Y)). m ∷ ms) (firsts_map same other f keeps l) (all_firsts ls)

  standardized_map : (columns : ℕ) (ls : List (List X)) → standardized other columns (map (map f) ls) ≡ map (map f) (standardized same columns ls)
  unfolding standardized repeated
  standardized_map columns [] = refl
  standardized_map columns (l ∷ []) = ap (replicate columns) (firsts_map same other f keeps l) ∙ map_replicate (map f) columns (firsts same l)
  standardized_map columns (l ∷ m ∷ ls) = all_firsts (l ∷ m ∷ ls)

  pairs_map : (ls ms : List (List X)) → each_pair (union other) (map (map f) ls) (map (map f) ms) ≡ and_then (each_pair (union same) ls ms) (λ ns. ok (map (map f) ns))
  unfolding each_pair union
  pairs_map [] ms = refl
  pairs_map (l ∷ ls) [] = refl
  pairs_map (l ∷ ls) (m ∷ ms) =
      ap₂ (λ (n : List Y) (g : Result (List (List Y))). and_then g (λ ns. ok (n ∷ ns)))
      (ap (firsts other) (sym (map-append f l m)) ∙ firsts_map same other f keeps (l ++ m)) (pairs_map ls ms)
      ∙ go (each_pair (union same) ls ms)
    where
      go : (g : Result (List (List X)))
          → and_then (and_then g (λ ns. ok (map (map f) ns))) (λ ns. ok (map f (firsts same (l ++ m)) ∷ ns))
          ≡ and_then (and_then g (λ ns. ok (firsts same (l ++ m) ∷ ns))) (λ ns. ok (map (map f) ns))
      go (ok ns) = refl
      go (refused k) = refl

  pub united_map : (columns : ℕ) (ls ms : List (List X)) → united other columns (map (map f) ls) (map (map f) ms) ≡ and_then (united same columns ls ms) (λ ns. ok (map (map f) ns))
  unfolding united
  united_map columns ls ms =
      ap₂ (each_pair (union other)) (standardized_map columns ls) (standardized_map columns ms)
      ∙ pairs_map (standardized same columns ls) (standardized same columns ms)

-- ---- lists written

module _ {X Y : Type 0} (f : X → Y) where
  pub numbers_map : (F : Form) (j : ℕ) (ls : List (List X)) → numbers_from F j (map (map f) ls) ≡ numbers_from F j ls
  unfolding numbers_from joined
  numbers_map F j [] = refl
  numbers_map F j (l ∷ ls) = ap₂ ◌++◌ (go l) (numbers_map F (j + 1) ls)
    where
      go : (l : List X) → number_bytes F j (map f l) ≡ number_bytes F j l
      go [] = refl
      go (x ∷ xs) = ap (λ (t : List ℕ). le_bytes F.number_width j ++ t) (go xs)

  pub values_map : (bits : Y → ℕ) (ls : List (List X)) → values_of bits (map (map f) ls) ≡ values_of (λ x. bits (f x)) ls
  unfolding joined
  values_map bits [] = refl
  values_map bits (l ∷ ls) = ap₂ ◌++◌ (go l) (values_map bits ls)
    where
      go : (l : List X) → list_bytes bits (map f l) ≡ list_bytes (λ x. bits (f x)) l
      go [] = refl
      go (x ∷ xs) = ap (λ (t : List ℕ). le_bytes 8 (bits (f x)) ++ t) (go xs)
