-- Category lists, read and written.
--     lists_map, lists_read    a sheet's lists, read in two ways; any are the lists of 64 bits, each of these read
--     total_map, total_flat    what is counted of the map's lists, and of the lists one after the other
--     joined_append, joined_flat, area_flat    what is written of two lists, and of the lists one after the other
-- Assumes nothing.
use mathlib.Core.Path.{◌≡◌, refl, sym, ap, ap₂, ◌∙◌}
use mathlib.Core.Bool.{Bool, true, false}
use mathlib.Core.List.{List, [], ◌∷◌, ◌++◌, map, append_assoc, flatten}
use Prim.Native.Nat.{ℕ, zero, suc, ◌+◌, ◌<◌}
use native.Mathlib.Omega.{arith}
use lib.ListN.{length, length-map, length-append}
use lib.Dec.{eqb}
use Rattle.utilities.proofs.Mapped.{list_from_map}
use Rattle.base.specs.Form.{Form, group_count, list_count, category_count}
use Rattle.base.specs.Decode.{as_bits, prepended, list_number, category_at, list_at, lists}
use Rattle.base.specs.Encode.{joined, total, text_of, area_of}

-- ---- read

module _ {X Y : Type 0} (F : Form) (s : List ℕ) (read : ℕ → X) (other : ℕ → Y) (f : X → Y) where
  list_map : (g t j n i : ℕ) → ((k : ℕ) → k < i + n → other (category_at F s g t k) ≡ f (read (category_at F s g t k))) → list_at F s other g t j n i ≡ map f (list_at F s read g t j n i)
  unfolding list_at
  list_map g t j zero i h = refl
  list_map g t j (suc n) i h =
      ap₂ (prepended (eqb (list_number F s g i) j)) (h i (omega arith)) (list_map g t j n (i + 1) (λ k l. h k (omega arith)))
      ∙ go (eqb (list_number F s g i) j)
    where
      go : (b : Bool) → prepended b (f (read (category_at F s g t i))) (map f (list_at F s read g t j n (i + 1))) ≡ map f (prepended b (read (category_at F s g t i)) (list_at F s read g t j n (i + 1)))
      go true = refl
      go false = refl

  pub lists_map :
      ((k : ℕ) → k < category_count F s → other (category_at F s (group_count F s) (category_count F s) k) ≡ f (read (category_at F s (group_count F s) (category_count F s) k)))
      → lists F s other ≡ map (map f) (lists F s read)
  unfolding lists
  lists_map h =
      let g = group_count F s in
      let t = category_count F s in
      list_from_map (map f) (list_count F s) 0 (λ j. list_at F s read g t j t 0) (λ j. list_at F s other g t j t 0) (λ j. list_map g t j t 0 (λ k l. h k (omega arith)))

pub lists_read : {X : Type 0} (F : Form) (s : List ℕ) (read : ℕ → X) → lists F s read ≡ map (map read) (lists F s as_bits)
lists_read F s read = lists_map F s as_bits read read (λ k l. refl)

-- ---- counted

pub total_map : {X Y : Type 0} (f : X → Y) (ls : List (List X)) → total (map (map f) ls) ≡ total ls
unfolding total
total_map f [] = refl
total_map f (l ∷ ls) = ap₂ ◌+◌ (length-map l f) (total_map f ls)

pub total_flat : {X : Type 0} (ls : List (List X)) → length (flatten ls) ≡ total ls
unfolding flatten total
total_flat [] = refl
total_flat (l ∷ ls) = length-append l (flatten ls) ∙ ap (λ (n : ℕ). length l + n) (total_flat ls)

-- ---- written

module _ {X : Type 0} (f : X → List ℕ) where
  pub joined_append : (xs ys : List X) → joined f (xs ++ ys) ≡ joined f xs ++ joined f ys
  unfolding joined
  joined_append [] ys = refl
  joined_append (x ∷ xs) ys = ap (λ (l : List ℕ). f x ++ l) (joined_append xs ys) ∙ sym (append_assoc (f x) (joined f xs) (joined f ys))

  pub joined_flat : (ls : List (List X)) → joined f (flatten ls) ≡ joined (joined f) ls
  unfolding joined flatten
  joined_flat [] = refl
  joined_flat (l ∷ ls) = joined_append l (flatten ls) ∙ ap (λ (t : List ℕ). joined f l ++ t) (joined_flat ls)

pub area_flat : (ls : List (List (List ℕ))) → text_of (flatten ls) ≡ area_of ls
unfolding text_of area_of
area_flat ls = joined_flat (λ x. x) ls
