-- Parts and joins as numbers.
--     left_of_lem, right_of, join_fits       the two parts of a join
--     start_of, length_of, part_fits     start and length of the part that a stored value names
--     bits_back, part_back, join_back    a number that a store holds
--     left_alone, right_alone, alone     a part is the join with the empty right part
-- Assumes nothing.
use mathlib.Core.Path.{◌≡◌, ap, ap₂, ◌∙◌}
use mathlib.Core.List.{List, ◌++◌, append-nil}
use Prim.Native.Nat.{ℕ, ◌+◌, ◌*◌, ◌/◌, ◌%◌, ◌^◌, ◌<◌}
use native.Mathlib.Nat.{mod-eq_of_lt, div-eq_of_lt, add-mul-mod_self_left, add-mul-div_left, zero-add}
use native.Mathlib.Omega.{arith}
use lib.IntN.{ℤ}
use mir.Syntax.{w64}
use mir.Facts.{of_z-to_z}
use Rattle.base.specs.Form.{Form}
use Rattle.base.specs.Decode.{as_whole, start_in, length_in}
use Rattle.base.specs.Encode.{whole_bits}
use Rattle.texts.specs.Joins.{part_start, part_length, part_of, left_part, right_part, join_of, as_part, join_code, part_in, join_in}

-- a low and a high part, of which the low one is below b
module _ (b p q : ℕ) (h : p < b) where
  low : (p + b * q) % b ≡ p
  low = add-mul-mod_self_left p b q ∙ mod-eq_of_lt h

  high : (p + b * q) / b ≡ q
  high = let above : 0 < b = omega arith in add-mul-div_left p q above ∙ ap (λ (k : ℕ). k + q) (div-eq_of_lt h) ∙ zero-add q

-- ---- joins

module _ (p q : ℕ) (h : p < 2 ^ 32) where
  pub left_of_lem : left_part (join_of p q) ≡ p
  left_of_lem = low (2 ^ 32) p q h

  pub right_of : right_part (join_of p q) ≡ q
  right_of = high (2 ^ 32) p q h

  pub join_fits : q < 2 ^ 32 → join_of p q < 2 ^ 64
  join_fits k = omega arith

-- ---- parts

module _ (v : ℕ) (h : start_in v < 2 ^ 16) where
  pub start_of : part_start (part_of v) ≡ start_in v
  start_of = low (2 ^ 16) (start_in v) (length_in v) h

  pub length_of : part_length (part_of v) ≡ length_in v
  length_of = high (2 ^ 16) (start_in v) (length_in v) h

  pub part_fits : length_in v < 2 ^ 16 → part_of v < 2 ^ 32
  part_fits k = omega arith

-- ---- numbers in a store

pub bits_back : (n : ℕ) → n < 2 ^ 64 → whole_bits (as_whole n) ≡ n
bits_back n h = of_z-to_z {w = w64} (record { fits = h })

pub part_back : (v : ℕ) → start_in v < 2 ^ 16 → length_in v < 2 ^ 16 → whole_bits (as_part v) ≡ part_of v
part_back v h k = bits_back (part_of v) (omega (arith, part_fits v h k))

pub join_back : (a b : ℤ) → whole_bits a < 2 ^ 32 → whole_bits b < 2 ^ 32 → whole_bits (join_code a b) ≡ join_of (whole_bits a) (whole_bits b)
join_back a b h k = bits_back (join_of (whole_bits a) (whole_bits b)) (join_fits (whole_bits a) (whole_bits b) h k)

-- ---- a part alone

module _ (p : ℕ) (h : p < 2 ^ 32) where
  pub left_alone : left_part p ≡ p
  left_alone = mod-eq_of_lt h

  pub right_alone : right_part p ≡ 0
  right_alone = div-eq_of_lt h

  pub alone : (F : Form) (left right : List ℕ) → join_in F left right p ≡ part_in F left p
  unfolding join_in part_in
  alone F left right = ap₂ (λ (a b : ℕ). part_in F left a ++ part_in F right b) left_alone right_alone ∙ append-nil (part_in F left p)
