-- The fields of a sheet that passed 4, written again, are the bytes that they were read from.
--     Clean          what check 4 says of each field
--     marks_fill     from the nature to the zero bytes before the values
--     values_fill    the five values
--     node_fills     the node number
--     gap_fills      the bytes behind the last field
-- Assumes nothing.
use mathlib.Core.Path.{◌≡◌, refl, sym}
use mathlib.Core.Bool.{true, ◌&&◌}
use mathlib.Core.List.{List, [], ◌∷◌}
use Prim.Native.Nat.{ℕ, ◌+◌, ◌-◌, ◌≤◌, ◌<◌}
use native.Mathlib.Omega.{arith}
use lib.ListN.{length, get_or, replicate}
use lib.Dec.{T, eqb, leb, leb→le}
use borrow.Author.Tests.{eqb-true}
use Rattle.octets.specs.Le.{le_at, le_bytes}
use Rattle.octets.proofs.Reread.{AllBytes}
use Rattle.base.specs.Form.{Form, Laid, place, byte_at, nature_at, type_at, nullity_at, releasable_at, not_empty_at, ordered_at, c_stability_at, aggregator_at, rows_mark_at, columns_mark_at, dataset_mark_at, dimensionality_mark_at, sample_mark_at, reserved_at, area_size_at, later_at, later_count, rows_at, columns_at, dataset_at, dimensionality_at, sample_at, node_at, fields_end, area_size, last_nature, last_type}
use Rattle.base.specs.Decode.{as_whole, as_bits, fields_in}
use Rattle.base.specs.Encode.{whole_bits, mark_bytes, value_bytes}
use Rattle.base.specs.Checks.{holds_from, flag_permitted, field_permitted, columns_permitted, gap_permitted, bytes_permitted, values_permitted}
use Rattle.base.proofs.Flags.{and_both}
use Rattle.base.proofs.Holding.{holds_within}
use Rattle.base.proofs.Groups.{whole_bits_copied}
use Rattle.base.proofs.Permitted.{Permitted}
use Rattle.round_trip.proofs.Filling.{Filling, ◌then◌, fill_byte, fill_zeros, fill_number}
use Rattle.round_trip.proofs.Marks.{flag_same, mark_same, bits_same}

pub record Clean (F : Form) (s : List ℕ) : Type 0 where
  pub nature : leb (byte_at F nature_at s) last_nature ≡ true
  pub type : leb (byte_at F type_at s) last_type ≡ true
  pub nullity : flag_permitted F s nullity_at ≡ true
  pub releasable : flag_permitted F s releasable_at ≡ true
  pub not_empty : flag_permitted F s not_empty_at ≡ true
  pub ordered : flag_permitted F s ordered_at ≡ true
  pub reserved : eqb (byte_at F reserved_at s) 0 ≡ true
  pub later : holds_from later_count later_at (λ k. eqb (byte_at F k s) 0) ≡ true
  pub gap : gap_permitted F s ≡ true
  pub rows : field_permitted F s rows_mark_at rows_at ≡ true
  pub columns : field_permitted F s columns_mark_at columns_at ≡ true
  pub dataset : field_permitted F s dataset_mark_at dataset_at ≡ true
  pub dimensionality : field_permitted F s dimensionality_mark_at dimensionality_at ≡ true
  pub sample : field_permitted F s sample_mark_at sample_at ≡ true

module _ (F : Form) (s : List ℕ) where
  pub clean : Permitted F s → Clean F s
  unfolding bytes_permitted values_permitted
  clean p =
      let b8 = and_both _ (gap_permitted F s) p.bytes in
      let b7 = and_both _ (holds_from later_count later_at (λ k. eqb (byte_at F k s) 0)) b8.0 in
      let b6 = and_both _ (eqb (byte_at F reserved_at s) 0) b7.0 in
      let b5 = and_both _ (flag_permitted F s ordered_at) b6.0 in
      let b4 = and_both _ (flag_permitted F s not_empty_at) b5.0 in
      let b3 = and_both _ (flag_permitted F s releasable_at) b4.0 in
      let b2 = and_both (leb (byte_at F nature_at s) last_nature && leb (byte_at F type_at s) last_type) (flag_permitted F s nullity_at) b3.0 in
      let b1 = and_both (leb (byte_at F nature_at s) last_nature) (leb (byte_at F type_at s) last_type) b2.0 in
      let v5 = and_both _ (field_permitted F s sample_mark_at sample_at) p.values in
      let v4 = and_both _ (field_permitted F s dimensionality_mark_at dimensionality_at) v5.0 in
      let v3 = and_both _ (field_permitted F s dataset_mark_at dataset_at) v4.0 in
      let v2 = and_both (field_permitted F s rows_mark_at rows_at && field_permitted F s columns_mark_at columns_at) (columns_permitted F s) v3.0 in
      let v1 = and_both (field_permitted F s rows_mark_at rows_at) (field_permitted F s columns_mark_at columns_at) v2.0 in
      record {
        nature = b1.0;
        type = b1.1;
        nullity = b2.1;
        releasable = b3.1;
        not_empty = b4.1;
        ordered = b5.1;
        reserved = b6.1;
        later = b7.1;
        gap = b8.1;
        rows = v1.0;
        columns = v1.1;
        dataset = v3.1;
        dimensionality = v4.1;
        sample = v5.1;
      }

module _ {F : Form} (laid : Laid F) (s : List ℕ) (small : AllBytes s) (long : F.arrays_at ≤ length s) where
  -- a byte and a number at a place of 01
  byte : (k : ℕ) {v : ℕ} → T (leb (k + 1) fields_end) → v ≡ byte_at F k s → Filling s (place F k) (place F (k + 1)) (v ∷ [])
  byte k h e = fill_byte e (omega (arith, leb→le (k + 1) fields_end h, laid.arrays)) (omega arith)

  number : (n k : ℕ) {v : ℕ} → T (leb (k + n) fields_end) → v ≡ le_at n (place F k) s → Filling s (place F k) (place F (k + n)) (le_bytes n v)
  number n k h e = fill_number small n (place F k) e (omega (arith, leb→le (k + n) fields_end h, laid.arrays)) (omega arith)

  -- the 64 signed bits at a place of 01
  whole : (k : ℕ) → whole_bits (as_whole (le_at 8 (place F k) s)) ≡ le_at 8 (place F k) s
  whole k = whole_bits_copied s small (place F k)

  pub node_fills : Filling s (place F node_at) (place F fields_end) (le_bytes 8 (whole_bits (as_whole (le_at 8 (place F node_at) s))))
  node_fills = number 8 node_at tt (whole node_at)

  module _ (c : Clean F s) where
    zero_byte : (i : ℕ) → i < later_count → get_or s (place F later_at + i) 0 ≡ 0
    zero_byte i h =
        let at : place F later_at + i ≡ place F (later_at + i) = omega arith in
        rw at (eqb-true _ _ (holds_within (λ k. eqb (byte_at F k s) 0) later_count later_at (later_at + i) c.later (omega arith) (omega arith)))

    pub marks_fill : Filling s (place F nature_at) (place F rows_at) (mark_bytes (byte_at F nature_at s) (area_size F s) (fields_in F s))
    unfolding mark_bytes fields_in
    marks_fill =
        byte nature_at tt refl
        then byte type_at tt refl
        then byte nullity_at tt (flag_same _ c.nullity)
        then byte releasable_at tt (flag_same _ c.releasable)
        then byte not_empty_at tt (flag_same _ c.not_empty)
        then byte ordered_at tt (flag_same _ c.ordered)
        then number 4 c_stability_at tt refl
        then number 4 aggregator_at tt refl
        then (byte rows_mark_at tt (mark_same as_whole s _ _ c.rows)
        then byte columns_mark_at tt (mark_same as_bits s _ _ c.columns)
        then byte dataset_mark_at tt (mark_same as_whole s _ _ c.dataset)
        then byte dimensionality_mark_at tt (mark_same as_whole s _ _ c.dimensionality)
        then byte sample_mark_at tt (mark_same as_bits s _ _ c.sample))
        then (byte reserved_at tt (sym (eqb-true _ _ c.reserved)) then number 2 area_size_at tt refl)
        then fill_zeros later_count zero_byte (omega (arith, laid.arrays)) (omega arith)

    pub values_fill : Filling s (place F rows_at) (place F node_at) (value_bytes (fields_in F s))
    unfolding value_bytes fields_in
    values_fill =
        number 8 rows_at tt (bits_same as_whole s _ _ c.rows whole_bits (λ _. whole rows_at))
        then number 8 columns_at tt (bits_same as_bits s _ _ c.columns as_bits (λ _. refl))
        then number 8 dataset_at tt (bits_same as_whole s _ _ c.dataset whole_bits (λ _. whole dataset_at))
        then number 8 dimensionality_at tt (bits_same as_whole s _ _ c.dimensionality whole_bits (λ _. whole dimensionality_at))
        then number 8 sample_at tt (bits_same as_bits s _ _ c.sample as_bits (λ _. refl))

    pub gap_fills : Filling s (place F fields_end) F.arrays_at (replicate (F.arrays_at - place F fields_end) 0)
    gap_fills =
        fill_zeros (F.arrays_at - place F fields_end)
        (λ i h. eqb-true _ _ (holds_within (λ k. eqb (get_or s k 0) 0) (F.arrays_at - place F fields_end) (place F fields_end) (place F fields_end + i) c.gap (omega arith) (omega arith)))
        (omega (arith, laid.arrays)) (omega (arith, laid.arrays))
