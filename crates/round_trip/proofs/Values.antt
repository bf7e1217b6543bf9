-- Values of 64 bits that read back, whatever they are: a flag, a value that may be absent, an end of a range. Assumes nothing.
use mathlib.Core.Path.{◌≡◌, refl, ap}
use mathlib.Core.Bool.{Bool, true, false, not}
use mathlib.Core.List.{List, [], ◌∷◌}
use mathlib.Core.Option.{Option, none, some}
use Prim.Native.Nat.{ℕ, ◌^◌, ◌<◌}
use lib.ListN.{get_or}
use lib.Dec.{eqb}
use lib.Ieee.{binary64}
use lib.Ieee.Bits.{of_bits-to_bits, to_bits-lt}
use mir.Syntax.{w64}
use mir.Facts.{Fits-of_z, to_z-of_z}
use Rattle.octets.specs.Le.{le_at, le_bytes}
use Rattle.base.specs.Decode.{as_whole, as_float, as_bits, option_at, end_at}
use Rattle.base.specs.Encode.{whole_bits, float_bits, flag, mark, bits_of, end_bytes}
use Rattle.round_trip.specs.WellFormed.{Present, Whole, Double, Bits}
use Rattle.round_trip.proofs.Standing.{Standing, standing_left, standing_right, byte_back, number_back}

-- P says of a value that its 64 bits give it back
pub record Back {X : Type 0} (P : X → Type 0) (bits : X → ℕ) (read : ℕ → X) : Type 0 where
  pub same : (x : X) → P x → read (bits x) ≡ x
  pub below : (x : X) → P x → bits x < 256 ^ 8

pub whole : Back Whole whole_bits as_whole
whole = record { same = λ z h. to_z-of_z {w = w64} h; below = λ z h. (Fits-of_z {w = w64} h).fits }

pub double : Back Double float_bits as_float
double = record { same = of_bits-to_bits binary64; below = to_bits-lt binary64 }

pub bits : Back Bits as_bits as_bits
bits = record { same = λ v h. refl; below = λ v h. h }

module _ {s : List ℕ} {at : ℕ} where
  pub flag_back : (b : Bool) → Standing s at (flag b ∷ []) → not (eqb (get_or s at 0) 0) ≡ b
  flag_back true h = rw (byte_back h)
  flag_back false h = rw (byte_back h)

  module _ {X : Type 0} {P : X → Type 0} {bits : X → ℕ} {read : ℕ → X} (back : Back P bits read) where
    pub value_back : (x : X) → P x → Standing s at (le_bytes 8 (bits x)) → read (le_at 8 at s) ≡ x
    value_back x p h = rw (number_back 8 h (back.below x p)) (back.same x p)

module _ {X : Type 0} {P : X → Type 0} {bits : X → ℕ} {read : ℕ → X} (back : Back P bits read) {s : List ℕ} where
  pub option_back :
      (e : Option X) {at to : ℕ} → Present P e → Standing s at (mark e ∷ []) → Standing s to (le_bytes 8 (bits_of bits e)) → option_at read at to s ≡ e
  unfolding option_at
  option_back none p m v = rw (byte_back m)
  option_back (some x) p m v = rw (byte_back m) (ap some (value_back back x p v))

  pub end_back : (e : Option X) {at : ℕ} → Present P e → Standing s at (end_bytes bits e) → end_at read at s ≡ e
  unfolding end_bytes
  end_back e p h =
      let rest = le_bytes 8 (bits_of bits e) in
      option_back e p (standing_left (mark e ∷ []) rest h) (standing_right (mark e ∷ []) rest h refl)
