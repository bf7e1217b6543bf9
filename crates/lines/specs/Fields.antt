-- Lines that say nothing, and the fields of a line, with a blank, which is 32, between two of them.
use Rattle.std.specs.Prelude.{ℕ, ◌+◌, ◌≤◌, ◌≡◌, ◌==◌, Bool, true, cond, List, [], eqb, length, drop, get_or}
use Rattle.std.specs.List.{slice_split, position_or_len}

-- a line that says nothing: it is empty, or begins with `#`, which is 35
abbrev pub is_comment : List ℕ → Bool
is_comment s = cond (eqb (length s) 0) true (eqb (get_or s 0 0) 35)

-- what b stands between
abbrev pub parts : ℕ → List ℕ → List (List ℕ)
parts b s = slice_split (λ x. x == b) s

-- field k, counted from 0; past the last one, no bytes
unfoldable pub field_of : ℕ → List ℕ → List ℕ
field_of k s = get_or (parts 32 s) k []

abbrev pub field_count : List ℕ → ℕ
field_count s = length (parts 32 s)

-- r is the place of the first b from `from` on, or the length
pub record Found (b : ℕ) (s : List ℕ) (from r : ℕ) : Type 0 where
  pub low : from ≤ r
  pub high : r ≤ length s
  pub place : r ≡ from + position_or_len (λ x. x == b) (drop from s)
