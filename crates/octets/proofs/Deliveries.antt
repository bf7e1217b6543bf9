-- A copy to the start of a buffer.
-- Assumes nothing.
use mathlib.Core.Path.{◌≡◌}
use mathlib.Core.List.{List, ◌++◌}
use Prim.Native.Nat.{ℕ, ◌+◌, ◌≤◌, ◌<◌}
use native.Mathlib.Nat.{zero-add}
use native.Mathlib.Numerals.{add-one}
use lib.ListN.{length, take, drop, get_or, set}
use lib.Seq.{paste-suc, length-take-le}
use borrow.Author.Tests.{le-leb, lt-leb}
use Rattle.octets.specs.Deliver.{delivered}

-- a turn of the loop that copies s to the start of d
pub copy_more : (d s : List ℕ) (i : ℕ) → i < length d → i < length s → set (take i s ++ drop i d) i (get_or s i 0) ≡ take (i + 1) s ++ drop (i + 1) d
copy_more d s i hd hs = rw add-one (simp zero-add at (paste-suc d 0 s i 0 (simp zero-add hd) hs))

module _ (d s : List ℕ) (n : ℕ) (within : n ≤ length s) where
  pub delivered_fits : n ≤ length d → take n s ++ drop n d ≡ delivered d (take n s)
  unfolding delivered
  delivered_fits h = rw (length-take-le n s within, le-leb n (length d) h)

  pub delivered_short : length d < n → d ≡ delivered d (take n s)
  unfolding delivered
  delivered_short h = rw (length-take-le n s within, lt-leb n (length d) h)
