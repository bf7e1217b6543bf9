-- Laws of the little-endian numbers and their bytes, over the width.
--     le_at_add       a number of n + m bytes is its low n bytes and its high m bytes
--     le_bytes_add    n + m bytes are the n low ones and the m high ones
--     le_bytes_low    n bytes show a number below 256 ^ n only
--     halves         a number written as its low bytes and then its high ones
-- Assumes nothing.
use mathlib.Core.Path.{◌≡◌, refl, sym, ap}
use mathlib.Core.List.{List, [], ◌∷◌, ◌++◌}
use Prim.Native.Nat.{ℕ, zero, suc, ◌+◌, ◌*◌, ◌/◌, ◌%◌, ◌^◌, ◌<◌}
use native.Mathlib.Nat.{zero-add, suc-add, add-zero, mul_assoc, one-mul, pow-zero, pow-suc, pow-succ', mod-lt, mod-eq_of_lt, div-one, div-div-eq-div-mul, one-le-pow}
use native.Mathlib.Omega.{arith}
use lib.ListN.{length, get_or}
use lib.Dec.{lit<}
use lib.Arith.{mod-mul, digits_div, digits_mod}
use Rattle.octets.specs.Le.{le_at, le_bytes}

pub le_at_add : (n m at : ℕ) (s : List ℕ) → le_at (n + m) at s ≡ le_at n at s + 256 ^ n * le_at m (at + n) s
unfolding le_at
le_at_add zero m at s = rw (zero-add m, add-zero at, pow-zero, one-mul, zero-add)
le_at_add (suc n) m at s =
    let step : le_at (suc n + m) at s ≡ get_or s at 0 + 256 * le_at (n + m) (at + 1) s = rw suc-add in
    let here : le_at m (at + 1 + n) s ≡ le_at m (at + suc n) s = ap (λ (k : ℕ). le_at m k s) (omega arith) in
    let big : 256 ^ suc n * le_at m (at + suc n) s ≡ 256 * (256 ^ n * le_at m (at + 1 + n) s) = rw (pow-succ', mul_assoc, here) in
    omega (arith, le_at_add n m (at + 1) s)

pub length_le_bytes : (n v : ℕ) → length (le_bytes n v) ≡ n
unfolding le_bytes
length_le_bytes zero v = refl
length_le_bytes (suc n) v = ap suc (length_le_bytes n (v / 256))

pub le_bytes_add : (n m v : ℕ) → le_bytes (n + m) v ≡ le_bytes n v ++ le_bytes m (v / 256 ^ n)
unfolding le_bytes
le_bytes_add zero m v = rw (zero-add, pow-zero, div-one)
le_bytes_add (suc n) m v =
    rw (suc-add, pow-succ', ← div-div-eq-div-mul) (ap (λ (l : List ℕ). v % 256 ∷ l) (le_bytes_add n m (v / 256)))

-- the lowest byte of n + 1, and the bytes above it
pub low_byte : (n v : ℕ) → v % 256 ^ suc n ≡ v / 256 % 256 ^ n * 256 + v % 256
low_byte n v = rw pow-suc (mod-mul v (one-le-pow n 256 (lit< tt)) (lit< tt))

pub le_bytes_low : (n v : ℕ) → le_bytes n (v % 256 ^ n) ≡ le_bytes n v
unfolding le_bytes
le_bytes_low zero v = refl
le_bytes_low (suc n) v =
    let here : v % 256 ^ suc n % 256 ≡ v % 256 = rw (low_byte n v) (digits_mod _ (mod-lt v (lit< tt))) in
    let above : v % 256 ^ suc n / 256 ≡ v / 256 % 256 ^ n = rw (low_byte n v) (digits_div _ (mod-lt v (lit< tt))) in
    rw (here, above, le_bytes_low n (v / 256))

pub halves : (n m v : ℕ) → le_bytes n (v % 256 ^ n) ++ le_bytes m (v / 256 ^ n) ≡ le_bytes (n + m) v
halves n m v = rw (le_bytes_low n v) (sym (le_bytes_add n m v))

-- the two bytes of 16 bits, as they are computed
pub two_bytes : (v : ℕ) → v < 2 ^ 16 → (v % 256 ∷ []) ++ (v / 256 ∷ []) ≡ le_bytes 2 v
unfolding le_bytes
two_bytes v h =
    let below : v / 256 < 256 = omega arith in
    ap (λ (b : ℕ). v % 256 ∷ b ∷ []) (sym (mod-eq_of_lt below))
