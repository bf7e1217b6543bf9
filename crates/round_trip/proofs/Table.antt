-- The parts of a sheet's bytes, in order, and where each stands in bytes that begin with the sheet. Assumes nothing.
use mathlib.Core.Path.{◌≡◌, ap, ◌∙◌}
use mathlib.Core.List.{List, [], ◌∷◌, ◌++◌, append_assoc, append-nil}
use Prim.Native.Nat.{ℕ, suc, ◌-◌}
use native.Mathlib.Nat.{zero-add}
use lib.ListN.{length, replicate}
use Rattle.octets.specs.Le.{le_bytes}
use Rattle.octets.proofs.Widths.{length_le_bytes}
use Rattle.base.specs.Form.{Form, place, later_count, fields_end}
use Rattle.base.specs.Sheet.{Group, Fields, Sheet}
use Rattle.base.specs.Decode.{as_bits}
use Rattle.base.specs.Encode.{flag, mark, bits_of, whole_bits, nature_number, entry_count, value_count, text_size, flag_bytes, presence_bytes, mark_bytes, value_bytes, group_bytes, nature_bytes, encode}
use Rattle.round_trip.proofs.Standing.{Standing, standing_first, standing_at}
use Rattle.round_trip.proofs.Pieces.{Part, number, byte, zeros, plain, together, part_of, widths, together_length, part_stands}
use Rattle.round_trip.proofs.Arrays.{array}

-- what the two arrays of the groups have for one group
abbrev pub partition_bytes : Group → List ℕ
partition_bytes g = le_bytes 4 g.partition

abbrev pub key_bytes : Group → List ℕ
key_bytes g = g.kind ∷ le_bytes 8 (whole_bits g.index)

pub partition_sized : (g : Group) → length (partition_bytes g) ≡ 4
partition_sized g = length_le_bytes 4 g.partition

pub key_sized : (g : Group) → length (key_bytes g) ≡ 9
key_sized g = ap suc (length_le_bytes 8 (whole_bits g.index))

-- bytes 6 to 31, before others
marks_before :
    (nature area : ℕ) (f : Fields) (rest : List ℕ)
    → mark_bytes nature area f ++ rest
    ≡ flag_bytes nature f ++ (le_bytes 4 f.c_stability ++ (le_bytes 4 f.aggregator ++ (presence_bytes f ++ (0 ∷ (le_bytes 2 area ++ (replicate later_count 0 ++ rest))))))
unfolding mark_bytes
marks_before nature area f rest = six (flag_bytes nature f) (le_bytes 4 f.c_stability) (le_bytes 4 f.aggregator) (presence_bytes f) (0 ∷ le_bytes 2 area) (replicate later_count 0)
  where
    six : (a b c d e z : List ℕ) → a ++ b ++ c ++ d ++ e ++ z ++ rest ≡ a ++ (b ++ (c ++ (d ++ (e ++ (z ++ rest)))))
    six a b c d e z = simp append_assoc

module _ (F : Form) (s : Sheet) where
  -- the laws name a part by its number here
  abbrev pub parts : List Part
  parts =
      let w = F.size_width in
      let f = s.fields in
      let gs = s.groups in
      number w (length gs)  -- 0
      ∷ number w (entry_count s.nature)
      ∷ number w (value_count s.nature)
      ∷ byte (nature_number s.nature)  -- 3
      ∷ byte f.data_type
      ∷ byte (flag f.nullity)  -- 5
      ∷ byte (flag f.releasable)
      ∷ byte (flag f.not_empty)
      ∷ byte (flag f.ordered)
      ∷ number 4 f.c_stability  -- 9
      ∷ number 4 f.aggregator
      ∷ byte (mark f.rows)  -- 11
      ∷ byte (mark f.columns)
      ∷ byte (mark f.dataset)
      ∷ byte (mark f.dimensionality)
      ∷ byte (mark f.sample)
      ∷ byte 0  -- 16
      ∷ number 2 (text_size s.nature)
      ∷ zeros later_count
      ∷ number 8 (bits_of whole_bits f.rows)  -- 19
      ∷ number 8 (bits_of as_bits f.columns)
      ∷ number 8 (bits_of whole_bits f.dataset)
      ∷ number 8 (bits_of whole_bits f.dimensionality)
      ∷ number 8 (bits_of as_bits f.sample)
      ∷ number 8 (whole_bits s.node)  -- 24
      ∷ zeros (F.arrays_at - place F fields_end)
      ∷ array partition_bytes 4 partition_sized gs  -- 26
      ∷ array key_bytes 9 key_sized gs
      ∷ plain (nature_bytes F s.nature)  -- 28
      ∷ []

  in_parts : encode F s ≡ together parts
  unfolding encode value_bytes group_bytes
  in_parts = simp (marks_before, append_assoc, append-nil)

  pub sheet_length : length (encode F s) ≡ widths parts 29
  sheet_length = ap length in_parts ∙ together_length parts

  -- part k, at its place
  pub part_at : (rest : List ℕ) (k to : ℕ) → widths parts k ≡ to → Standing (encode F s ++ rest) to (part_of parts k)
  part_at rest k to e = standing_at (part_stands parts k (rw in_parts (standing_first (together parts) rest))) (zero-add (widths parts k) ∙ e)
