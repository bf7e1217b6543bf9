-- Numbers that were read from bytes, written again.
--     le_at_below       n bytes give a number below 256 ^ n
--     le_bytes_le_at     a number that was read, written again
-- Assumes nothing.
use mathlib.Core.Path.{◌≡◌, refl}
use mathlib.Core.List.{List}
use Prim.Native.Nat.{ℕ, zero, suc, ◌+◌, ◌*◌, ◌^◌, ◌<◌, ◌≤◌}
use native.Mathlib.Nat.{pow-succ', pow-zero}
use native.Mathlib.Numerals.{add-one}
use native.Mathlib.Omega.{arith}
use lib.ListN.{length, take, drop, get_or}
use lib.Seq.{drop-cons}
use lib.Arith.{digits_div, digits_mod}
use Rattle.octets.specs.Le.{le_at, le_bytes}

-- every element is a byte
abbrev pub AllBytes : List ℕ → Type 0
AllBytes s = (i : ℕ) → get_or s i 0 < 256

module _ (s : List ℕ) (small : AllBytes s) where
  pub le_at_below : (n at : ℕ) → le_at n at s < 256 ^ n
  unfolding le_at
  le_at_below zero at = rw pow-zero (omega arith)
  le_at_below (suc n) at = rw pow-succ' (omega (arith, small at, le_at_below n (at + 1)))

  pub le_bytes_le_at : (n at : ℕ) → at + n ≤ length s → le_bytes n (le_at n at s) ≡ take n (drop at s)
  unfolding le_at le_bytes
  le_bytes_le_at zero at h = refl
  le_bytes_le_at (suc n) at h =
      let rest = le_at n (at + 1) s in
      let order : get_or s at 0 + 256 * rest ≡ rest * 256 + get_or s at 0 = omega arith in
      rw (order, digits_mod rest (small at), digits_div rest (small at), le_bytes_le_at n (at + 1) (omega arith), add-one, drop-cons s at 0 (omega arith))
