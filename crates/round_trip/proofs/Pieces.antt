-- Bytes as parts one behind the other, each of a known width: a part stands behind the widths of those before it.
-- Assumes nothing.
use mathlib.Core.Path.{◌≡◌, refl, sym, ap, ap₂, ◌∙◌}
use mathlib.Core.List.{List, [], ◌∷◌, ◌++◌}
use Prim.Native.Nat.{ℕ, zero, suc, ◌+◌}
use native.Mathlib.Nat.{add-zero, add_assoc}
use lib.ListN.{length, replicate, length-append, length-replicate}
use Rattle.octets.specs.Le.{le_bytes}
use Rattle.octets.proofs.Widths.{length_le_bytes}
use Rattle.round_trip.proofs.Standing.{Standing, standing_left, standing_right, standing_at}

pub record Part : Type 0 where
  pub bytes : List ℕ
  pub width : ℕ
  pub sized : length bytes ≡ width

abbrev pub number : ℕ → ℕ → Part
number n v = record { bytes = le_bytes n v; width = n; sized = length_le_bytes n v }

abbrev pub byte : ℕ → Part
byte v = record { bytes = v ∷ []; width = 1; sized = refl }

abbrev pub zeros : ℕ → Part
zeros n = record { bytes = replicate n 0; width = n; sized = length-replicate n 0 }

abbrev pub plain : List ℕ → Part
plain vs = record { bytes = vs; width = length vs; sized = refl }

abbrev pub together : List Part → List ℕ
together [] = []
together (p ∷ ps) = p.bytes ++ together ps

-- part k, and the widths of those before it
abbrev pub part_of : List Part → ℕ → List ℕ
part_of [] k = []
part_of (p ∷ ps) zero = p.bytes
part_of (p ∷ ps) (suc k) = part_of ps k

abbrev pub widths : List Part → ℕ → ℕ
widths [] k = 0
widths (p ∷ ps) zero = 0
widths (p ∷ ps) (suc k) = p.width + widths ps k

pub together_length : (ps : List Part) → length (together ps) ≡ widths ps (length ps)
together_length [] = refl
together_length (p ∷ ps) = length-append p.bytes (together ps) ∙ ap₂ ◌+◌ p.sized (together_length ps)

-- whatever k is: behind the last part there is nothing
pub part_stands : {s : List ℕ} {at : ℕ} (ps : List Part) (k : ℕ) → Standing s at (together ps) → Standing s (at + widths ps k) (part_of ps k)
part_stands {at = at} [] k h = standing_at h (sym (add-zero at))
part_stands {at = at} (p ∷ ps) zero h = standing_at (standing_left p.bytes (together ps) h) (sym (add-zero at))
part_stands {at = at} (p ∷ ps) (suc k) h =
    standing_at (part_stands {at = at + p.width} ps k (standing_right p.bytes (together ps) h (ap (λ (n : ℕ). at + n) p.sized))) (add_assoc at p.width (widths ps k))
