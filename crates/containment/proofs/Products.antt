-- A product by one factor lies between the products at the ends of the other. Assumes nothing.
use mathlib.Core.Path.{◌≡◌, refl, sym, ◌∙◌}
use mathlib.Core.Logic.{inl, inr}
use Prim.Native.Nat.{ℕ, suc, ◌+◌, ◌*◌, ◌≤◌}
use native.Mathlib.Nat.{mul-le-mul_left, mul-add, mul-zero}
use native.Mathlib.Omega.{arith}
use lib.IntN.{ℤ, pos, negsuc, ◌*ℤ◌, *ℤ_comm}
use lib.Signed.{◌≤ℤ◌}
use Rattle.numbers.proofs.Parts.{above, below, neg_is, le_parts, parts_le}
use Rattle.numbers.specs.Kind.{whole, least, greatest}
use Rattle.containment.specs.Within.{Within}
use Rattle.containment.proofs.Corners.{Hull, inside}

-- the parts of a product by k, and by -(k + 1)
pos_mul : (k : ℕ) (x : ℤ) → (above (pos k *ℤ x) ≡ k * above x) × (below (pos k *ℤ x) ≡ k * below x)
pos_mul k (pos n) = (refl, sym (mul-zero k))
pos_mul k (negsuc n) = let h = neg_is (pos (k * suc n)) in (h.0 ∙ sym (mul-zero k), h.1)

neg_mul : (k : ℕ) (x : ℤ) → (above (negsuc k *ℤ x) ≡ suc k * below x) × (below (negsuc k *ℤ x) ≡ suc k * above x)
neg_mul k (pos n) = let h = neg_is (pos (suc k * n)) in (h.0 ∙ sym (mul-zero (suc k)), h.1)
neg_mul k (negsuc n) = (refl, sym (mul-zero (suc k)))

scaled : (k : ℕ) {x y : ℤ} → x ≤ℤ y → k * above x + k * below y ≤ k * above y + k * below x
scaled k {x} {y} h =
    let p = mul-le-mul_left k (le_parts h) in
    omega (arith, mul-add k (above x) (below y), mul-add k (above y) (below x))

pub mul_up : (k : ℕ) {x y : ℤ} → x ≤ℤ y → (pos k *ℤ x) ≤ℤ (pos k *ℤ y)
mul_up k {x} {y} h =
    let p = scaled k h in
    let q = pos_mul k x in
    let r = pos_mul k y in
    parts_le (pos k *ℤ x) (pos k *ℤ y) (omega arith)

pub mul_down : (k : ℕ) {x y : ℤ} → x ≤ℤ y → (negsuc k *ℤ y) ≤ℤ (negsuc k *ℤ x)
mul_down k {x} {y} h =
    let p = scaled (suc k) h in
    let q = neg_mul k x in
    let r = neg_mul k y in
    parts_le (negsuc k *ℤ y) (negsuc k *ℤ x) (omega arith)

pub mul_right : (k : ℤ) {a x c : ℤ} → a ≤ℤ x → x ≤ℤ c → Hull (k *ℤ a) (k *ℤ c) (k *ℤ x)
mul_right (pos k) h l = inl (mul_up k h, mul_up k l)
mul_right (negsuc k) h l = inr (mul_down k l, mul_down k h)

pub mul_left : (k : ℤ) {a x c : ℤ} → a ≤ℤ x → x ≤ℤ c → Hull (a *ℤ k) (c *ℤ k) (x *ℤ k)
mul_left k {a} {x} {c} h l = rw (*ℤ_comm a k, *ℤ_comm c k, *ℤ_comm x k) (mul_right k h l)

-- x in [a, c] times y in [d, f] lies in the hull of the four corners, in document 01's order ad, af, cd, cf
pub mul_inside : {a x c d y f : ℤ} → Within a x c → Within d y f
    → Within (least whole (a *ℤ d) (a *ℤ f) (c *ℤ d) (c *ℤ f)) (x *ℤ y) (greatest whole (a *ℤ d) (a *ℤ f) (c *ℤ d) (c *ℤ f))
mul_inside {a} {x} {c} {d} {y} {f} h k =
    inside (a *ℤ d) (a *ℤ f) (c *ℤ d) (c *ℤ f) (mul_right x k.low k.high) (mul_left d h.low h.high) (mul_left f h.low h.high)
