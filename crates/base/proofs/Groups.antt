-- The groups of a sheet, written again, are the bytes that they were read from.
--     joined_parts     values that were read one behind the other, written again
--     groups_copied    the group area
-- Assumes nothing.
use mathlib.Core.Path.{◌≡◌}
use mathlib.Core.List.{List, ◌∷◌}
use Prim.Native.Nat.{ℕ, zero, suc, ◌+◌, ◌*◌, ◌<◌, ◌≤◌}
use native.Mathlib.Nat.{mul-suc, mul-zero, add-zero}
use native.Mathlib.Numerals.{add-one}
use native.Mathlib.Omega.{arith}
use lib.ListN.{length, take, drop, get_or}
use lib.Seq.{take-add, drop-drop, drop-cons}
use mir.Syntax.{w64}
use mir.Facts.{of_z-to_z}
use Rattle.octets.specs.Le.{le_at, le_bytes}
use Rattle.octets.proofs.Reread.{AllBytes, le_at_below, le_bytes_le_at}
use Rattle.utilities.specs.Lists.{list_from}
use Rattle.utilities.proofs.Built.{list_from_length}
use Rattle.base.specs.Form.{Form, group_count, partition_at, key_at, entries_at}
use Rattle.base.specs.Sheet.{Group}
use Rattle.base.specs.Decode.{group_at, groups_in, as_whole}
use Rattle.base.specs.Encode.{joined, group_bytes, whole_bits}

-- values whose bytes are parts of s, each of w bytes and one behind the other from `base` on, have one part for their bytes
module _ {X : Type 0} (bytes : X → List ℕ) (f : ℕ → X) (s : List ℕ) (w base : ℕ) where
  pub joined_parts :
      (n i : ℕ) → ((j : ℕ) → j < i + n → bytes (f j) ≡ take w (drop (base + w * j) s))
      → joined bytes (list_from n i f) ≡ take (w * n) (drop (base + w * i) s)
  unfolding joined list_from
  joined_parts zero i h = rw mul-zero
  joined_parts (suc n) i h =
      let next : base + w * i + w ≡ base + w * (i + 1) = rw (add-one, mul-suc) (omega arith) in
      let size : w * suc n ≡ w + w * n = rw mul-suc (omega arith) in
      let rest = joined_parts n (i + 1) (λ j k. h j (omega arith)) in
      rw (h i (omega arith), rest, size, take-add, drop-drop, next)

module _ (s : List ℕ) (small : AllBytes s) where
  -- 64 signed bits
  pub whole_bits_copied : (at : ℕ) → whole_bits (as_whole (le_at 8 at s)) ≡ le_at 8 at s
  whole_bits_copied at = of_z-to_z {w = w64} (record { fits = le_at_below s small 8 at })

  -- a kind byte and 64 signed bits
  key_copied : (at : ℕ) → at + 9 ≤ length s → get_or s at 0 ∷ le_bytes 8 (whole_bits (as_whole (le_at 8 (at + 1) s))) ≡ take 9 (drop at s)
  key_copied at h = rw (whole_bits_copied (at + 1), le_bytes_le_at s small 8 (at + 1) (omega arith), add-one, drop-cons s at 0 (omega arith))

module _ (F : Form) (s : List ℕ) where
  pub groups_length : length (groups_in F s) ≡ group_count F s
  unfolding groups_in
  groups_length = list_from_length (group_at F s (group_count F s)) (group_count F s) 0

  pub groups_copied : AllBytes s → entries_at F (group_count F s) ≤ length s → group_bytes (groups_in F s) ≡ take (13 * group_count F s) (drop F.arrays_at s)
  unfolding group_bytes groups_in
  groups_copied small h =
      let g = group_count F s in
      let f = group_at F s g in
      let at = F.arrays_at in
      let ids = joined_parts (λ (x : Group). le_bytes 4 x.partition) f s 4 at g 0 (λ j k. le_bytes_le_at s small 4 (partition_at F j) (omega arith)) in
      let keys = joined_parts (λ (x : Group). x.kind ∷ le_bytes 8 (whole_bits x.index)) f s 9 (at + 4 * g) g 0 (λ j k. key_copied s small (key_at F g j) (omega arith)) in
      let size : 13 * g ≡ 4 * g + 9 * g = omega arith in
      rw (ids, keys, size, take-add, drop-drop) (simp (mul-zero, add-zero))
