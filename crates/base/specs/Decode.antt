-- The sheet that bytes spell, for bytes that pass 3 and 4 (what other bytes spell is never used).
use Rattle.std.specs.Prelude.{Bool, true, false, cond, not, List, [], ◌∷◌, ℕ, zero, suc, ◌+◌, ◌*◌, ◌^◌, ◌/◌, ◌%◌, ℤ, get_or, take, drop, eqb, Float}
use Rattle.std.proofs.Math.Option.{Option, none, some}
use Rattle.std.specs.Float.{binary64}
use Rattle.std.specs.Float.Ieee.{of_bits}
use Rattle.std.specs.Int.{w64}
use Rattle.std.proofs.Common.{to_z}
use Rattle.octets.specs.Le.{le_at}
use Rattle.numbers.specs.Kind.{Span}
use Rattle.utilities.specs.Lists.{list_from}
use Rattle.base.specs.Form.{Form, group_count, list_count, category_count, place, byte_at, nature_at, type_at, nullity_at, releasable_at, not_empty_at, ordered_at, c_stability_at, aggregator_at, rows_mark_at, columns_mark_at, dataset_mark_at, dimensionality_mark_at, sample_mark_at, rows_at, columns_at, dataset_at, dimensionality_at, sample_at, node_at, whole_range_nature, float_range_nature, whole_lists_nature, bool_lists_nature, float_lists_nature, text_lists_nature, partition_at, key_at, lower_at, upper_at, number_at, value_at, area_at}
use Rattle.base.specs.Sheet.{Group, Nature, absent, whole_range, float_range, whole_lists, bool_lists, float_lists, text_lists, Fields, Sheet}

-- 64 bits as a signed number (two's complement), as a float, and as they are
abbrev pub as_whole : ℕ → ℤ
as_whole v = to_z w64 v

abbrev pub as_float : ℕ → Float
as_float v = of_bits binary64 v

abbrev pub as_bits : ℕ → ℕ
as_bits v = v

-- 01: "Marks of presence": the 64 bits at `at`, where the mark is not 0
unfoldable pub option_at : {X : Type 0} → (ℕ → X) → ℕ → ℕ → List ℕ → Option X
option_at read mark at s = cond (eqb (get_or s mark 0) 0) none (some (read (le_at 8 at s)))

-- 01: "each a mark and 64 bits"
abbrev pub end_at : {X : Type 0} → (ℕ → X) → ℕ → List ℕ → Option X
end_at read at s = option_at read at (at + 1) s

-- 02, S-2: "each 64-bit value is a start and a length, 32 bits each"
abbrev pub start_in : ℕ → ℕ
start_in v = v % 2 ^ 32

abbrev pub length_in : ℕ → ℕ
length_in v = v / 2 ^ 32

abbrev pub prepended {ℓ} : {X : Type ℓ} → Bool → X → List X → List X
prepended true x xs = x ∷ xs
prepended false x xs = xs

module _ (F : Form) (s : List ℕ) where
  -- 01: "marks and bytes 8 to 11 are 0 or 1"
  abbrev pub flag_at : ℕ → Bool
  flag_at k = not (eqb (byte_at F k s) 0)

  abbrev pub field_at : {X : Type 0} → (ℕ → X) → ℕ → ℕ → Option X
  field_at read mark at = option_at read (place F mark) (place F at) s

  -- group i of g
  abbrev pub group_at : ℕ → ℕ → Group
  group_at g i = record {
    partition = le_at 4 (partition_at F i) s;
    kind = get_or s (key_at F g i) 0;
    index = as_whole (le_at 8 (key_at F g i + 1) s);
  }

  -- entry i of the n of a range
  abbrev pub span_at : {X : Type 0} → (ℕ → X) → ℕ → ℕ → ℕ → Span X
  span_at read g n i = record { lower = end_at read (lower_at F g i) s; upper = end_at read (upper_at F g n i) s }

  abbrev pub list_number : ℕ → ℕ → ℕ
  list_number g i = le_at F.number_width (number_at F g i) s

  abbrev pub category_at : ℕ → ℕ → ℕ → ℕ
  category_at g t i = le_at 8 (value_at F g t i) s

  -- list j: of the k categories from number i on, those whose list number is j
  unfoldable pub list_at : {X : Type 0} → (ℕ → X) → ℕ → ℕ → ℕ → ℕ → ℕ → List X
  list_at read g t j zero i = []
  list_at read g t j (suc k) i = prepended (eqb (list_number g i) j) (read (category_at g t i)) (list_at read g t j k (i + 1))

  unfoldable pub entries : {X : Type 0} → (ℕ → X) → List (Span X)
  entries read = list_from (list_count F s) 0 (span_at read (group_count F s) (list_count F s))

  unfoldable pub lists : {X : Type 0} → (ℕ → X) → List (List X)
  lists read = list_from (list_count F s) 0 (λ j. list_at read (group_count F s) (category_count F s) j (category_count F s) 0)

  -- 02, S-2: "into a text area after the arrays"
  unfoldable pub text_in : ℕ → List ℕ
  text_in v = take (length_in v) (drop (area_at F (group_count F s) (category_count F s) + start_in v) s)

  unfoldable pub nature_in : Nature
  nature_in =
      let k = byte_at F nature_at s in
      cond (eqb k whole_range_nature) (whole_range (entries as_whole))
      (cond (eqb k float_range_nature) (float_range (entries as_float))
      (cond (eqb k whole_lists_nature) (whole_lists (lists as_whole))
      (cond (eqb k bool_lists_nature) (bool_lists (lists as_bits))
      (cond (eqb k float_lists_nature) (float_lists (lists as_bits))
      (cond (eqb k text_lists_nature) (text_lists (lists text_in))
      absent)))))

  unfoldable pub fields_in : Fields
  fields_in = record {
    data_type = byte_at F type_at s;
    nullity = flag_at nullity_at;
    releasable = flag_at releasable_at;
    not_empty = flag_at not_empty_at;
    ordered = flag_at ordered_at;
    c_stability = le_at 4 (place F c_stability_at) s;
    aggregator = le_at 4 (place F aggregator_at) s;
    rows = field_at as_whole rows_mark_at rows_at;
    columns = field_at as_bits columns_mark_at columns_at;
    dataset = field_at as_whole dataset_mark_at dataset_at;
    dimensionality = field_at as_whole dimensionality_mark_at dimensionality_at;
    sample = field_at as_bits sample_mark_at sample_at;
  }

  unfoldable pub groups_in : List Group
  groups_in = list_from (group_count F s) 0 (group_at (group_count F s))

  unfoldable pub decode : Sheet
  decode = record { fields = fields_in; node = as_whole (le_at 8 (place F node_at) s); groups = groups_in; nature = nature_in }
