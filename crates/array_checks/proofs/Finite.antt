-- Bits are a finite float's where the exponent's field is not all ones. Assumes nothing.
use Rattle.std.proofs.Common.{◌≡◌, ℕ, zero, suc, ◌+◌, ◌*◌, ◌/◌, ◌%◌, ◌^◌, Bool, true, false, cond, not, eqb, leb, sym, refl, ap, ◌∙◌, arith, eq-eqb, ne_eqb, eqb-true}
use mathlib.Core.Bool.{not-not}
use lib.Bits.{bit_and, and_high}
use lib.Ieee.{Float, nan, inf, binary64, hid, top, odd, of_fields, of_bits}
use lib.Ieee.Scale.{finite}
use borrow.Author.Tests.{eqb-false}

-- the exponent's field of a bit pattern; all ones; and all ones where the field stands
abbrev exponent : ℕ → ℕ
exponent v = v / 2 ^ 52 % 2 ^ 11

abbrev ones : ℕ
ones = 2047

abbrev far : ℕ
far = 0x7ff0_0000_0000_0000

odd_finite : (d : ℕ) (s : Bool) (q k l : ℕ) → finite (odd d s q k l) ≡ true
unfolding odd
odd_finite d s zero k l = refl
odd_finite d s (suc q) k l = refl

-- by the two tests that `of_fields` makes
tests : (a b s : Bool) (x : Float) → finite x ≡ true → finite (cond a (cond b (inf s) nan) x) ≡ not a
tests true true s x h = refl
tests true false s x h = refl
tests false b s x h = h

fields_finite : (s : Bool) (x t : ℕ) → finite (of_fields binary64 s x t) ≡ not (eqb x ones)
unfolding of_fields
fields_finite s zero t = odd_finite 53 s t 0 1074
fields_finite s (suc x) t = tests (eqb (suc x) ones) (eqb t 0) s (odd 53 s (2 ^ 52 + t) x 1074) (odd_finite 53 s (2 ^ 52 + t) x 1074)

pub far_bits : (v : ℕ) → eqb (bit_and v far) far ≡ not (finite (of_bits binary64 v))
unfolding of_bits
far_bits v =
    ap (λ (n : ℕ). eqb n far) (and_high v 11 52)
    ∙ go (eqb (exponent v) ones) refl
    ∙ sym (ap not (fields_finite (leb (top binary64) v) (v % top binary64 / hid binary64) (v % hid binary64) ∙ ap (λ (x : ℕ). not (eqb x ones)) field) ∙ not-not (eqb (exponent v) ones))
  where
    field : v % 2 ^ 63 / 2 ^ 52 ≡ exponent v
    field = omega arith

    go : (t : Bool) → eqb (exponent v) ones ≡ t → eqb (exponent v * 2 ^ 52) far ≡ t
    go true e = let h = eqb-true (exponent v) ones e in eq-eqb (exponent v * 2 ^ 52) far (omega arith)
    go false e = let h = eqb-false (exponent v) ones e in ne_eqb (exponent v * 2 ^ 52) far (λ z. h (omega arith))
