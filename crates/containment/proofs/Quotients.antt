-- A quotient toward zero lies between the quotients at the ends of either operand, where the divisor's range is on one side of 0. Assumes nothing.
use mathlib.Core.Path.{◌≡◌, refl, sym}
use mathlib.Core.Logic.{inl, inr}
use Prim.Native.Nat.{ℕ, suc, ◌/◌, ◌≤◌, ◌<◌}
use native.Mathlib.Nat.{le-div_iff_mul-le, div-mul-le_self, le_trans, mul-le-mul_left}
use native.Mathlib.Omega.{arith}
use lib.IntN.{ℤ, pos, negsuc, neg_ℤ, neg_ℤ-neg_ℤ}
use lib.Signed.{quot_z, ◌≤ℤ◌}
use Rattle.numbers.proofs.Parts.{neg_is, le_parts, parts_le}
use Rattle.numbers.specs.Kind.{whole, least, greatest}
use Rattle.containment.specs.Within.{Within}
use Rattle.containment.proofs.Corners.{Hull, inside, hull_neg}

-- a quotient grows with the dividend and shrinks with the divisor
div_up : {m n : ℕ} (k : ℕ) → 0 < k → m ≤ n → m / k ≤ n / k
div_up {m} {n} k p h = (le-div_iff_mul-le p).1 (le_trans (div-mul-le_self m k) h)

div_down : (n : ℕ) {k l : ℕ} → 0 < k → k ≤ l → n / l ≤ n / k
div_down n {k} {l} p h = (le-div_iff_mul-le p).1 (le_trans (mul-le-mul_left (n / l) h) (div-mul-le_self n l))

-- by a divisor above 0
quot_up : (k : ℕ) → 0 < k → {x y : ℤ} → x ≤ℤ y → quot_z x (pos k) ≤ℤ quot_z y (pos k)
quot_up k p {x = pos a} {y = pos b} h =
    let q : a / k ≤ b / k = div_up k p (omega (arith, le_parts h)) in
    parts_le (pos (a / k)) (pos (b / k)) (omega arith)
quot_up k p {x = pos a} {y = negsuc b} h = absurd (omega (arith, le_parts h))
quot_up k p {x = negsuc a} {y = pos b} h =
    let q = neg_is (pos (suc a / k)) in
    parts_le (neg_ℤ (pos (suc a / k))) (pos (b / k)) (omega arith)
quot_up k p {x = negsuc a} {y = negsuc b} h =
    let q : suc b / k ≤ suc a / k = div_up k p (omega (arith, le_parts h)) in
    let r = neg_is (pos (suc a / k)) in
    let s = neg_is (pos (suc b / k)) in
    parts_le (neg_ℤ (pos (suc a / k))) (neg_ℤ (pos (suc b / k))) (omega arith)

pub quot_left : (k : ℕ) → 0 < k → {a x c : ℤ} → a ≤ℤ x → x ≤ℤ c → Hull (quot_z a (pos k)) (quot_z c (pos k)) (quot_z x (pos k))
quot_left k p h l = inl (quot_up k p h, quot_up k p l)

pub quot_right : (x : ℤ) {d y f : ℕ} → 0 < d → d ≤ y → y ≤ f → Hull (quot_z x (pos f)) (quot_z x (pos d)) (quot_z x (pos y))
quot_right (pos a) {d} {y} {f} p h l =
    let q : 0 < y = omega arith in
    let r = div_down a q l in
    let s = div_down a p h in
    inl (parts_le (pos (a / f)) (pos (a / y)) (omega arith), parts_le (pos (a / y)) (pos (a / d)) (omega arith))
quot_right (negsuc a) {d} {y} {f} p h l =
    let q : 0 < y = omega arith in
    let r = div_down (suc a) q l in
    let s = div_down (suc a) p h in
    let t = neg_is (pos (suc a / f)) in
    let u = neg_is (pos (suc a / y)) in
    let v = neg_is (pos (suc a / d)) in
    inr (
      parts_le (neg_ℤ (pos (suc a / d))) (neg_ℤ (pos (suc a / y))) (omega arith),
      parts_le (neg_ℤ (pos (suc a / y))) (neg_ℤ (pos (suc a / f))) (omega arith),
    )

-- a divisor below 0 turns the sign
quot_neg : (x : ℤ) (k : ℕ) → quot_z x (negsuc k) ≡ neg_ℤ (quot_z x (pos (suc k)))
quot_neg (pos a) k = refl
quot_neg (negsuc a) k = sym (neg_ℤ-neg_ℤ (pos (suc a / suc k)))

-- x in [a, c] by y in [d, f] with d > 0, or with f < 0: the four quotients, in document 01's order a/f, a/d, c/f, c/d
abbrev pub Quotient : ℤ → ℤ → ℤ → ℤ → ℤ → ℤ → Type 0
Quotient a x c d y f =
    Within (least whole (quot_z a f) (quot_z a d) (quot_z c f) (quot_z c d)) (quot_z x y)
    (greatest whole (quot_z a f) (quot_z a d) (quot_z c f) (quot_z c d))

above_inside : {a x c : ℤ} (d y f : ℕ) → Within a x c → 0 < d → d ≤ y → y ≤ f → Quotient a x c (pos d) (pos y) (pos f)
above_inside {a} {x} {c} d y f h p k l =
    inside (quot_z a (pos f)) (quot_z a (pos d)) (quot_z c (pos f)) (quot_z c (pos d))
    (quot_right x p k l) (quot_left f (omega arith) h.low h.high) (quot_left d p h.low h.high)

pub quot_above : {a x c d y f : ℤ} → Within a x c → Within d y f → pos 1 ≤ℤ d → Quotient a x c d y f
quot_above {d = pos d} {y = pos y} {f = pos f} h k p =
    above_inside d y f h (omega (arith, le_parts p)) (omega (arith, le_parts k.low)) (omega (arith, le_parts k.high))
quot_above {d = pos d} {y = pos y} {f = negsuc f} h k p = absurd (omega (arith, le_parts k.high))
quot_above {d = pos d} {y = negsuc y} {f} h k p = absurd (omega (arith, le_parts k.low))
quot_above {d = negsuc d} {y} {f} h k p = absurd (omega (arith, le_parts p))

pub quot_below : {a x c d y f : ℤ} → Within a x c → Within d y f → f ≤ℤ negsuc 0 → Quotient a x c d y f
quot_below {a} {x} {c} {d = negsuc d} {y = negsuc y} {f = negsuc f} h k p =
    let l : f ≤ y = omega (arith, le_parts k.high) in
    let m : y ≤ d = omega (arith, le_parts k.low) in
    let t = quot_right x {d = suc f} {y = suc y} {f = suc d} (omega arith) (omega arith) (omega arith) in
    let u : Hull (quot_z x (negsuc f)) (quot_z x (negsuc d)) (quot_z x (negsuc y)) = rw (quot_neg x f, quot_neg x d, quot_neg x y) (hull_neg (swap t)) in
    inside (quot_z a (negsuc f)) (quot_z a (negsuc d)) (quot_z c (negsuc f)) (quot_z c (negsuc d)) u
    (rw (quot_neg a f, quot_neg c f, quot_neg x f) (hull_neg (quot_left (suc f) (omega arith) h.low h.high)))
    (rw (quot_neg a d, quot_neg c d, quot_neg x d) (hull_neg (quot_left (suc d) (omega arith) h.low h.high)))
  where
    swap : {l r z : ℤ} → Hull l r z → Hull r l z
    swap (inl p) = inr p
    swap (inr p) = inl p
quot_below {d = negsuc d} {y = negsuc y} {f = pos f} h k p = absurd (omega (arith, le_parts p))
quot_below {d = negsuc d} {y = pos y} {f = negsuc f} h k p = absurd (omega (arith, le_parts k.high))
quot_below {d = negsuc d} {y = pos y} {f = pos f} h k p = absurd (omega (arith, le_parts p))
quot_below {d = pos d} {y = pos y} {f = negsuc f} h k p = absurd (omega (arith, le_parts k.high))
quot_below {d = pos d} {y = pos y} {f = pos f} h k p = absurd (omega (arith, le_parts p))
quot_below {d = pos d} {y = negsuc y} {f} h k p = absurd (omega (arith, le_parts k.low))
