-- Negation of a float flips bit 63 of its 64 bits and keeps the others: of zeros, subnormal and normal numbers and infinities. A NaN is left out: the logic has one, without a
-- sign.
--     flip_bits       by the float
--     flip_pattern    by the 64 bits that it was read from
-- Assumes nothing.
use mathlib.Core.Path.{◌≡◌, refl, sym, ap, subst, ◌∙◌}
use mathlib.Core.Bool.{Bool, true, false, not, cond}
use Prim.Native.Nat.{ℕ, zero, suc, ◌+◌, ◌-◌, ◌*◌, ◌/◌, ◌^◌, ◌≤◌, ◌<◌}
use native.Mathlib.Nat.{add_assoc}
use native.Mathlib.Omega.{arith}
use lib.Dec.{T}
use lib.IntN.{ℤ}
use lib.Ieee.{Float, nan, inf, fin, binary64, prec, low, up, down, hid, size, fits, is_nan, nan_bits, neg, to_bits, of_bits}
use lib.Ieee.Bits.{to_bits-lt, to_bits-of_bits, of_bits-to_bits, of_bits-fits, nan_bits_is}
use lib.Ieee.Fits.{neg-fits}
use borrow.Author.Tests.{lt-ltb, le-ltb}
use Rattle.octets.specs.SignBit.{flip}

flip_low : (b : ℕ) → b < 2 ^ 63 → flip b ≡ b + 2 ^ 63
flip_low b h = rw (lt-ltb b (2 ^ 63) h)

flip_high : (b : ℕ) → 2 ^ 63 ≤ b → flip b ≡ b - 2 ^ 63
flip_high b h = rw (le-ltb b (2 ^ 63) h)

-- a sign and what stands below it
abbrev under : Bool → ℕ → ℕ
under s r = cond s (2 ^ 63) 0 + r

other_sign : (s : Bool) (r : ℕ) → r < 2 ^ 63 → under (not s) r ≡ flip (under s r)
other_sign false r h = omega (arith, flip_low (0 + r) (omega arith))
other_sign true r h = omega (arith, flip_high (2 ^ 63 + r) (omega arith))

-- the 63 bits below the sign: how many digits are dropped, and those that are kept
abbrev units : ℕ → ℤ → ℕ
units m e = m * up e * 2 ^ low binary64 / down e

abbrev dropped : ℕ → ℤ → ℕ
dropped m e = size (units m e) - prec binary64

abbrev magnitude : ℕ → ℤ → ℕ
magnitude m e = dropped m e * hid binary64 + units m e / 2 ^ dropped m e

number_bits : (s : Bool) (m : ℕ) (e : ℤ) → to_bits binary64 (fin s m e) ≡ under s (magnitude m e)
unfolding to_bits
number_bits s m e = add_assoc (cond s (2 ^ 63) 0) (dropped m e * hid binary64) (units m e / 2 ^ dropped m e)

-- that a number fits does not turn on its sign
any_sign : (s t : Bool) (m : ℕ) (e : ℤ) → T (fits binary64 (fin s m e)) → T (fits binary64 (fin t m e))
unfolding fits
any_sign s t zero e h = h
any_sign s t (suc m) e h = h

magnitude_low : (s : Bool) (m : ℕ) (e : ℤ) → T (fits binary64 (fin s m e)) → magnitude m e < 2 ^ 63
magnitude_low s m e h = omega (arith, number_bits true m e, to_bits-lt binary64 (fin true m e) (any_sign s true m e h))

infinite_bits : (s : Bool) → to_bits binary64 (inf (not s)) ≡ flip (to_bits binary64 (inf s))
unfolding to_bits
infinite_bits true = refl
infinite_bits false = refl

pub flip_bits : (x : Float) → T (fits binary64 x) → T (not (is_nan x)) → to_bits binary64 (neg x) ≡ flip (to_bits binary64 x)
unfolding neg is_nan
flip_bits nan f h = absurd h
flip_bits (inf s) f h = infinite_bits s
flip_bits (fin s m e) f h =
    number_bits (not s) m e ∙ other_sign s (magnitude m e) (magnitude_low s m e f) ∙ ap flip (sym (number_bits s m e))

pub flip_pattern : (b : ℕ) → b < 2 ^ 64 → T (not (nan_bits binary64 b)) → neg (of_bits binary64 b) ≡ of_bits binary64 (flip b)
flip_pattern b low number =
    let x = of_bits binary64 b in
    let no_nan : T (not (is_nan x)) = subst (λ (t : Bool). T (not t)) (nan_bits_is binary64 b) number in
    let fit = of_bits-fits binary64 b in
    sym (of_bits-to_bits binary64 (neg x) (neg-fits binary64 x fit)) ∙ ap (of_bits binary64) (flip_bits x fit no_nan ∙ ap flip (to_bits-of_bits binary64 b low no_nan))
