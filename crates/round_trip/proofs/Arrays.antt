-- Arrays of elements that are all equally long.
--     joined_length    how long an array is
--     array            an array as a part
--     next_place       from the place of element i to that of the elements behind it
--     arrays_back      two arrays side by side read back, if their elements do
-- Assumes nothing.
use mathlib.Core.Path.{◌≡◌, refl, ap₂}
use mathlib.Core.List.{List, [], ◌∷◌}
use Prim.Native.Nat.{ℕ, ◌+◌, ◌*◌}
use native.Mathlib.Nat.{mul-add, mul-suc}
use native.Mathlib.Omega.{arith}
use lib.ListN.{length, length-append}
use Rattle.utilities.specs.Lists.{list_from}
use Rattle.base.specs.Encode.{joined}
use Rattle.round_trip.specs.WellFormed.{Each}
use Rattle.round_trip.proofs.Standing.{Standing, standing_left, standing_right}
use Rattle.round_trip.proofs.Pieces.{Part}

pub joined_length : {X : Type 0} (bytes : X → List ℕ) (n : ℕ) → ((x : X) → length (bytes x) ≡ n) → (xs : List X) → length (joined bytes xs) ≡ n * length xs
unfolding joined
joined_length bytes n h [] = omega arith
joined_length bytes n h (x ∷ xs) = simp length-append (rw mul-suc (omega (arith, h x, joined_length bytes n h xs)))

abbrev pub array : {X : Type 0} (bytes : X → List ℕ) (w : ℕ) → ((x : X) → length (bytes x) ≡ w) → List X → Part
array bytes w h xs = record { bytes = joined bytes xs; width = w * length xs; sized = joined_length bytes w h xs }

pub next_place : (a w i n : ℕ) {l : ℕ} → l ≡ w * n → a + w * i + l ≡ a + w * (i + n)
next_place a w i n e = rw mul-add (omega arith)

-- elements of v and w bytes, from the places a and b of s on; `read` has both to read element i
module _ {X : Type 0} {P : X → Type 0} (s : List ℕ) (first second : X → List ℕ) (v w a b : ℕ) (read : ℕ → X)
    (first-sized : (x : X) → length (first x) ≡ v) (second-sized : (x : X) → length (second x) ≡ w)
    (one : (i : ℕ) (x : X) → P x → Standing s (a + v * i) (first x) → Standing s (b + w * i) (second x) → read i ≡ x) where
  pub arrays_back :
      (xs : List X) (i : ℕ) → Each P xs → Standing s (a + v * i) (joined first xs) → Standing s (b + w * i) (joined second xs)
      → list_from (length xs) i read ≡ xs
  unfolding joined list_from
  arrays_back [] i g p q = refl
  arrays_back (x ∷ xs) i g p q =
      let here = one i x g.0 (standing_left (first x) (joined first xs) p) (standing_left (second x) (joined second xs) q) in
      let rest =
      arrays_back xs (i + 1) g.1
      (standing_right (first x) (joined first xs) p (next_place a v i 1 (rw (first-sized x) (omega arith))))
      (standing_right (second x) (joined second xs) q (next_place b w i 1 (rw (second-sized x) (omega arith)))) in
      ap₂ ◌∷◌ here rest
