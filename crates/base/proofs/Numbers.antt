-- A number of one byte. Assumes nothing.
use mathlib.Core.Path.{◌≡◌}
use mathlib.Core.List.{List}
use Prim.Native.Nat.{ℕ}
use native.Mathlib.Omega.{arith}
use lib.ListN.{get_or}
use Rattle.octets.specs.Le.{le_at}

pub one_byte_at : (at : ℕ) (s : List ℕ) → le_at 1 at s ≡ get_or s at 0
unfolding le_at
one_byte_at at s = omega arith
