-- Which places of a sheet stand in it, for any form: products of a symbolic width and a count, by one law.
-- Assumes nothing.
use mathlib.Core.List.{List}
use Prim.Native.Nat.{ℕ, ◌+◌, ◌*◌, ◌≤◌, ◌<◌}
use native.Mathlib.Nat.{mul-add, mul-one, mul-le-mul_left}
use native.Mathlib.Omega.{arith}
use lib.ListN.{length}
use Rattle.base.specs.Form.{Form, number_at, value_at}
use Rattle.base.specs.Sized.{ListsFit}

-- element i of t elements of w bytes ends before the end of all
pub element_ends : (w i t : ℕ) → i < t → w * i + w ≤ w * t
element_ends w i t h =
    let next : i + 1 ≤ t = omega arith in
    let all : w * (i + 1) ≤ w * t = mul-le-mul_left w next in
    omega (arith, mul-add w i 1, mul-one w)

module _ {F : Form} {s : List ℕ} {g n t : ℕ} (z : ListsFit F s g n t) {i : ℕ} (h : i < t) where
  pub number_stands : number_at F g i + F.number_width ≤ length s
  number_stands = omega (arith, z.room, element_ends F.number_width i t h)

  pub value_stands : value_at F g t i + 8 ≤ length s
  value_stands = omega (arith, z.room)
