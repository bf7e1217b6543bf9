-- The order of the integers, by their parts. Assumes nothing.
use mathlib.Core.Path.{◌≡◌, refl}
use mathlib.Core.Bool.{Bool, true, false, cond}
use native.Mathlib.Omega.{arith}
use lib.IntN.{ℤ, pos, negsuc, neg_ℤ, ◌+ℤ◌, ◌-ℤ◌}
use lib.Dec.{T}
use lib.Signed.{lt_z, ◌≤ℤ◌, ◌<ℤ◌}
use Rattle.numbers.proofs.Parts.{add_is, neg_is, le_parts, parts_le, lt_true}

pub ≤-refl : (a : ℤ) → a ≤ℤ a
≤-refl a = parts_le a a (omega arith)

pub ≤_trans : {a b c : ℤ} → a ≤ℤ b → b ≤ℤ c → a ≤ℤ c
≤_trans {a} {b} {c} h k = let p = le_parts h in let q = le_parts k in parts_le a c (omega arith)

pub add_mono : {a b c d : ℤ} → a ≤ℤ b → c ≤ℤ d → (a +ℤ c) ≤ℤ (b +ℤ d)
add_mono {a} {b} {c} {d} h k =
    let p = le_parts h in
    let q = le_parts k in
    let r = add_is a c in
    let s = add_is b d in
    parts_le (a +ℤ c) (b +ℤ d) (omega arith)

pub neg_mono : {a b : ℤ} → a ≤ℤ b → neg_ℤ b ≤ℤ neg_ℤ a
neg_mono {a} {b} h =
    let p = le_parts h in
    let q = neg_is a in
    let r = neg_is b in
    parts_le (neg_ℤ b) (neg_ℤ a) (omega arith)

pub sub_mono : {a b c d : ℤ} → a ≤ℤ b → c ≤ℤ d → (a -ℤ d) ≤ℤ (b -ℤ c)
sub_mono h k = add_mono h (neg_mono k)

-- a choice by a test
pub choose : {x y : ℤ} (t : Bool) (P : ℤ → Type 0) → (t ≡ true → P x) → (t ≡ false → P y) → P (cond t x y)
choose true P f g = f refl
choose false P f g = g refl

-- above 0 is 1 or more, and below 0 is -1 or less
lt_is : (a b : ℤ) → a <ℤ b → lt_z a b ≡ true
lt_is a b h = go (lt_z a b) h.lt
  where
    go : (t : Bool) → T t → t ≡ true
    go true u = refl
    go false u = absurd u

pub lt_one : {a : ℤ} → pos 0 <ℤ a → pos 1 ≤ℤ a
lt_one {a} h = let p = lt_true (pos 0) a (lt_is (pos 0) a h) in parts_le (pos 1) a (omega arith)

pub lt_minus : {a : ℤ} → a <ℤ pos 0 → a ≤ℤ negsuc 0
lt_minus {a} h = let p = lt_true a (pos 0) (lt_is a (pos 0) h) in parts_le a (negsuc 0) (omega arith)
