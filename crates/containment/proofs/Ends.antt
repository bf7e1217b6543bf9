-- Magnitudes and remainders keep to the rules' ends. Assumes nothing.
use mathlib.Core.Path.{◌≡◌, refl}
use mathlib.Core.Bool.{cond}
use Prim.Native.Nat.{◌<◌, ◌≤◌}
use native.Mathlib.Nat.{mod-lt}
use native.Mathlib.Omega.{arith}
use lib.IntN.{ℤ, pos, negsuc, neg_ℤ, nat_abs, ◌+ℤ◌, ◌-ℤ◌}
use lib.Signed.{lt_z, ◌≤ℤ◌}
use Rattle.numbers.proofs.Parts.{above, below, add_is, sub_eq, neg_is, le_parts, parts_le, lt_true, lt_false}
use Rattle.containment.specs.Within.{Within}
use Rattle.category_lists.specs.Categories.{remainder}
use Rattle.containment.proofs.Order.{neg_mono, choose}

-- |x| is x or -x, and neither is above it
abs_is : (x : ℤ) → (above x ≤ nat_abs x) × (below x ≤ nat_abs x)
abs_is (pos n) = (omega arith, omega arith)
abs_is (negsuc n) = (omega arith, omega arith)

abs_le : (x b : ℤ) → x ≤ℤ b → neg_ℤ x ≤ℤ b → pos (nat_abs x) ≤ℤ b
abs_le (pos n) b h k = h
abs_le (negsuc n) b h k = k

pub abs_inside : {a x c : ℤ} → Within a x c → Within (cond (lt_z (pos 0) a) a (neg_ℤ c)) (pos (nat_abs x)) (cond (lt_z (pos 0) (a +ℤ c)) c (neg_ℤ a))
abs_inside {a} {x} {c} h =
    let l = le_parts h.low in
    let u = le_parts h.high in
    let p = abs_is x in
    let q = neg_is a in
    let r = neg_is c in
    let n = neg_is x in
    let s = add_is a c in
    record {
      low = choose (lt_z (pos 0) a) (λ z. z ≤ℤ pos (nat_abs x))
          (λ t. parts_le a (pos (nat_abs x)) (omega arith))
          (λ t. parts_le (neg_ℤ c) (pos (nat_abs x)) (omega arith));
      high = choose (lt_z (pos 0) (a +ℤ c)) (λ z. pos (nat_abs x) ≤ℤ z)
          (λ t. abs_le x c h.high (parts_le (neg_ℤ x) c (omega (arith, lt_true (pos 0) (a +ℤ c) t))))
          (λ t. abs_le x (neg_ℤ a) (parts_le x (neg_ℤ a) (omega (arith, lt_false (pos 0) (a +ℤ c) t))) (neg_mono h.low));
    }

-- a remainder is never negative and is below the divisor
mod_range : (x y : ℤ) → 0 < nat_abs y → (0 ≤ nat_abs (remainder x y)) × (nat_abs (remainder x y) < nat_abs y)
mod_range (pos n) y p = (omega arith, mod-lt n p)
mod_range (negsuc n) y p = let h = mod-lt n p in (omega arith, omega arith)

mod_pos : (x y : ℤ) → remainder x y ≡ pos (nat_abs (remainder x y))
mod_pos (pos n) y = refl
mod_pos (negsuc n) y = refl

pub mod_inside : (x : ℤ) {d y f : ℤ} → Within d y f → pos 1 ≤ℤ d → Within (pos 0) (remainder x y) (f -ℤ pos 1)
mod_inside x {d} {y = pos y} {f} k p =
    let l = le_parts k.low in
    let u = le_parts k.high in
    let q = le_parts p in
    let r = mod_range x (pos y) (omega arith) in
    let s = sub_eq f (pos 1) in
    rw (mod_pos x (pos y))
    (record {
      low = parts_le (pos 0) (pos (nat_abs (remainder x (pos y)))) (omega arith);
      high = parts_le (pos (nat_abs (remainder x (pos y)))) (f -ℤ pos 1) (omega arith);
    })
mod_inside x {d} {y = negsuc y} {f} k p =
    let l = le_parts k.low in
    let q = le_parts p in
    absurd (omega arith)
