-- What stands before the arrays of a nature reads back: sizes, fields, node and groups. Bytes behind the sheet do not matter. Assumes nothing.
use mathlib.Core.Path.{◌≡◌, refl}
use mathlib.Core.List.{List, [], ◌∷◌, ◌++◌}
use Prim.Native.Nat.{ℕ, ◌+◌, ◌*◌}
use native.Mathlib.Omega.{arith}
use lib.ListN.{length}
use Rattle.octets.specs.Le.{le_at, le_bytes}
use Rattle.base.specs.Form.{Form, Laid, group_count, list_count, category_count, place, byte_at, nature_at, type_at, nullity_at, releasable_at, not_empty_at, ordered_at, c_stability_at, aggregator_at, rows_mark_at, columns_mark_at, dataset_mark_at, dimensionality_mark_at, sample_mark_at, area_size_at, rows_at, columns_at, dataset_at, dimensionality_at, sample_at, node_at, partition_at, key_at, area_size}
use Rattle.base.specs.Sheet.{Group, Sheet}
use Rattle.base.specs.Decode.{as_whole, group_at, fields_in, groups_in}
use Rattle.base.specs.Encode.{whole_bits, nature_number, entry_count, value_count, text_size, encode}
use Rattle.round_trip.specs.WellFormed.{GroupFits, WellFormed}
use Rattle.round_trip.proofs.Standing.{Standing, standing_left, standing_right, byte_back, number_back}
use Rattle.round_trip.proofs.Values.{whole, bits, flag_back, value_back, option_back}
use Rattle.round_trip.proofs.Arrays.{arrays_back}
use Rattle.round_trip.proofs.Table.{partition_bytes, key_bytes, partition_sized, key_sized, part_at}

-- group i of g
group_back :
    (F : Form) (t : List ℕ) (g i : ℕ) (x : Group) → GroupFits x
    → Standing t (partition_at F i) (partition_bytes x) → Standing t (key_at F g i) (key_bytes x) → group_at F t g i ≡ x
group_back F t g i x fit p k =
    let id = number_back 4 p fit.partition in
    let index = le_bytes 8 (whole_bits x.index) in
    let kind = byte_back (standing_left (x.kind ∷ []) index k) in
    let key = value_back whole x.index fit.index (standing_right (x.kind ∷ []) index k refl) in
    λ j. record { partition = id j; kind = kind j; index = key j }

module _ (F : Form) (laid : Laid F) (s : Sheet) (fit : WellFormed F s) (rest : List ℕ) where
  pub group_count_back : group_count F (encode F s ++ rest) ≡ length s.groups
  group_count_back = number_back F.size_width (part_at F s rest 0 0 refl) fit.groups_counted

  pub list_count_back : list_count F (encode F s ++ rest) ≡ entry_count s.nature
  list_count_back = number_back F.size_width (part_at F s rest 1 F.size_width (omega arith)) fit.entries_counted

  pub category_count_back : category_count F (encode F s ++ rest) ≡ value_count s.nature
  category_count_back = number_back F.size_width (part_at F s rest 2 (2 * F.size_width) (omega arith)) fit.values_counted

  pub area_size_back : area_size F (encode F s ++ rest) ≡ text_size s.nature
  area_size_back = number_back 2 (part_at F s rest 17 (place F area_size_at) (omega arith)) fit.text_counted

  pub nature_byte_back : byte_at F nature_at (encode F s ++ rest) ≡ nature_number s.nature
  nature_byte_back = byte_back (part_at F s rest 3 (place F nature_at) (omega arith))

  pub node_back : as_whole (le_at 8 (place F node_at) (encode F s ++ rest)) ≡ s.node
  node_back = value_back whole s.node fit.node (part_at F s rest 24 (place F node_at) (omega arith))

  pub fields_back : fields_in F (encode F s ++ rest) ≡ s.fields
  unfolding fields_in
  fields_back =
      let f = s.fields in
      let fits = fit.fields in
      let type = byte_back (part_at F s rest 4 (place F type_at) (omega arith)) in
      let nullity = flag_back f.nullity (part_at F s rest 5 (place F nullity_at) (omega arith)) in
      let releasable = flag_back f.releasable (part_at F s rest 6 (place F releasable_at) (omega arith)) in
      let not-empty = flag_back f.not_empty (part_at F s rest 7 (place F not_empty_at) (omega arith)) in
      let ordered = flag_back f.ordered (part_at F s rest 8 (place F ordered_at) (omega arith)) in
      let stability = number_back 4 (part_at F s rest 9 (place F c_stability_at) (omega arith)) fits.c_stability in
      let aggregator = number_back 4 (part_at F s rest 10 (place F aggregator_at) (omega arith)) fits.aggregator in
      let rows = option_back whole f.rows fits.rows (part_at F s rest 11 (place F rows_mark_at) (omega arith)) (part_at F s rest 19 (place F rows_at) (omega arith)) in
      let columns = option_back bits f.columns fits.columns (part_at F s rest 12 (place F columns_mark_at) (omega arith)) (part_at F s rest 20 (place F columns_at) (omega arith)) in
      let dataset = option_back whole f.dataset fits.dataset (part_at F s rest 13 (place F dataset_mark_at) (omega arith)) (part_at F s rest 21 (place F dataset_at) (omega arith)) in
      let dimensionality = option_back whole f.dimensionality fits.dimensionality (part_at F s rest 14 (place F dimensionality_mark_at) (omega arith)) (part_at F s rest 22 (place F dimensionality_at) (omega arith)) in
      let sample = option_back bits f.sample fits.sample (part_at F s rest 15 (place F sample_mark_at) (omega arith)) (part_at F s rest 23 (place F sample_at) (omega arith)) in
      λ i. record {
        data_type = type i;
        nullity = nullity i;
        releasable = releasable i;
        not_empty = not-empty i;
        ordered = ordered i;
        c_stability = stability i;
        aggregator = aggregator i;
        rows = rows i;
        columns = columns i;
        dataset = dataset i;
        dimensionality = dimensionality i;
        sample = sample i;
      }

  pub groups_back : groups_in F (encode F s ++ rest) ≡ s.groups
  unfolding groups_in
  groups_back =
      let t = encode F s ++ rest in
      let g = length s.groups in
      rw group_count_back
      (arrays_back t partition_bytes key_bytes 4 9 F.arrays_at (F.arrays_at + 4 * g) (group_at F t g) partition_sized key_sized
      (group_back F t g) s.groups 0 fit.groups (part_at F s rest 26 (partition_at F 0) (omega arith)) (part_at F s rest 27 (key_at F g 0) (omega arith)))
