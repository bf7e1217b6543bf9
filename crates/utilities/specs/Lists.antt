-- utilities/mod.rs: lists without repeats, and category lists made ready for the columns.
use Rattle.std.specs.Prelude.{Bool, true, false, cond, not, ◌&&◌, ◌||◌, List, [], ◌∷◌, ◌++◌, map, ℕ, zero, suc, ◌+◌, replicate}

-- the n values f i, f (i + 1), ..
unfoldable pub list_from {ℓ} : {X : Type ℓ} → ℕ → ℕ → (ℕ → X) → List X
list_from zero i f = []
list_from (suc n) i f = f i ∷ list_from n (i + 1) f

-- whether every value passes a test
unfoldable pub every {ℓ} : {X : Type ℓ} → (X → Bool) → List X → Bool
every p [] = true
every p (x ∷ xs) = cond (p x) (every p xs) false

-- whether some value passes a test
unfoldable pub any {ℓ} : {X : Type ℓ} → (X → Bool) → List X → Bool
any p [] = false
any p (x ∷ xs) = cond (p x) true (any p xs)

module _ {X : Type 0} (same : X → X → Bool) where
  unfoldable pub has : X → List X → Bool
  has x [] = false
  has x (y ∷ ys) = same x y || has x ys

  -- a value goes behind those that were seen, unless it is among them
  unfoldable pub noted : List X → X → List X
  noted seen x = cond (has x seen) seen (seen ++ (x ∷ []))

  unfoldable pub firsts_from : List X → List X → List X
  firsts_from seen [] = seen
  firsts_from seen (x ∷ xs) = firsts_from (noted seen x) xs

  -- `deduplicate`. 01: "first occurrences stay"
  unfoldable pub firsts : List X → List X
  firsts xs = firsts_from [] xs

  -- 02, S-6: "lists without repeats": no value is the same as one in front of it
  unfoldable pub distinct : List X → Bool
  distinct [] = true
  distinct (x ∷ xs) = every (λ y. not (same y x)) xs && distinct xs

-- 01: "One list repeats per output column". (Another count is that of the columns: 18, and for categories 29 of 02, S-5, which replaces 01's "other counts
-- stay")
unfoldable pub repeated {ℓ} : {X : Type ℓ} → ℕ → List X → List X
repeated columns [] = []
repeated columns (l ∷ []) = replicate columns l
repeated columns (l ∷ m ∷ ls) = l ∷ m ∷ ls

-- `standardize_categorical_argument`: each list loses its repeats, and one list repeats per output column
unfoldable pub standardized : {X : Type 0} → (X → X → Bool) → ℕ → List (List X) → List (List X)
standardized same columns ls = repeated columns (map (firsts same) ls)
