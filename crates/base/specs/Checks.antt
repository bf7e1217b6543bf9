-- Checks 3, 4 and 5 on the bytes of a sheet, in this order.
use Rattle.std.specs.Prelude.{Bool, true, false, cond, not, ◌&&◌, ◌||◌, List, [], ◌∷◌, ℕ, zero, suc, ◌+◌, ◌-◌, ℤ, length, get_or, eqb, leb, ltb, Float}
use Rattle.std.proofs.Math.Option.{Option, none, some}
use Rattle.std.specs.Float.Ieee.Scale.{finite}
use Rattle.octets.specs.Le.{le_at}
use Rattle.numbers.specs.Result.{Result, ok, Check, check, checked}
use Rattle.numbers.specs.Kind.{Kind, Span, whole, float}
use Rattle.utilities.specs.Lists.{every}
use Rattle.base.specs.Form.{Form, group_count, list_count, category_count, place, byte_at, nature_at, type_at, nullity_at, releasable_at, not_empty_at, ordered_at, rows_mark_at, columns_mark_at, dataset_mark_at, dimensionality_mark_at, sample_mark_at, reserved_at, later_at, later_count, fields_end, rows_at, columns_at, dataset_at, dimensionality_at, sample_at, absent_nature, bool_lists_nature, text_lists_nature, last_nature, is_range_nature, last_type, bool_key, last_key, key_at, lower_at, upper_at, area_size, length_called_for}
use Rattle.base.specs.Sheet.{Nature, absent, whole_range, float_range, whole_lists, bool_lists, float_lists, text_lists, Sheet}
use Rattle.base.specs.Decode.{list_number, category_at, start_in, length_in, decode, nature_in}

-- a test at the n numbers from i on
unfoldable pub holds_from : ℕ → ℕ → (ℕ → Bool) → Bool
holds_from zero i p = true
holds_from (suc n) i p = p i && holds_from n (i + 1) p

-- 01: "An absent value is all zero bits; marks .. are 0 or 1": a mark at one place and its 64 bits at another
abbrev pub mark_permitted : ℕ → ℕ → List ℕ → Bool
mark_permitted mark at s = eqb (get_or s mark 0) 1 || (eqb (get_or s mark 0) 0 && eqb (le_at 8 at s) 0)

module _ (F : Form) (s : List ℕ) where
  -- 3: "A sheet's size exceeds its limit, or its length isn't what its sizes call for"; "under 80 bytes is 3". 02, S-2: the area's size "over 1,024 is code 3"
  unfoldable pub sizes_fail : Bool
  sizes_fail =
      ltb (length s) F.arrays_at
      || ltb F.group_limit (group_count F s)
      || ltb F.list_limit (list_count F s)
      || ltb F.category_limit (category_count F s)
      || ltb F.text_limit (area_size F s)
      || not (eqb (length s) (length_called_for F s))

  -- 4: the one-byte fields
  abbrev pub flag_permitted : ℕ → Bool
  flag_permitted k = leb (byte_at F k s) 1

  abbrev pub gap_permitted : Bool
  gap_permitted = holds_from (F.arrays_at - place F fields_end) (place F fields_end) (λ k. eqb (get_or s k 0) 0)

  -- 01: "25 to 31 zero"; 02, S-2: of these 25 and 28 to 31
  unfoldable pub bytes_permitted : Bool
  bytes_permitted =
      leb (byte_at F nature_at s) last_nature
      && leb (byte_at F type_at s) last_type
      && flag_permitted nullity_at
      && flag_permitted releasable_at
      && flag_permitted not_empty_at
      && flag_permitted ordered_at
      && eqb (byte_at F reserved_at s) 0
      && holds_from later_count later_at (λ k. eqb (byte_at F k s) 0)
      && gap_permitted

  -- 4: rows, columns, dataset id, dimensionality and sample proportion
  abbrev pub field_permitted : ℕ → ℕ → Bool
  field_permitted mark at = mark_permitted (place F mark) (place F at) s

  -- 01: "Columns are 1 to 16"
  abbrev pub columns_permitted : Bool
  columns_permitted =
      let c = le_at 8 (place F columns_at) s in
      eqb (byte_at F columns_mark_at s) 0 || (ltb 0 c && leb c F.column_limit)

  unfoldable pub values_permitted : Bool
  values_permitted =
      field_permitted rows_mark_at rows_at
      && field_permitted columns_mark_at columns_at
      && columns_permitted
      && field_permitted dataset_mark_at dataset_at
      && field_permitted dimensionality_mark_at dimensionality_at
      && field_permitted sample_mark_at sample_at

  -- 4: "a kind byte 1 Int, 2 Bool, 3 Str .. Bool 0 or 1"
  abbrev pub key_permitted : ℕ → Bool
  key_permitted i =
      let k = get_or s (key_at F (group_count F s) i) 0 in
      ltb 0 k && leb k last_key && (not (eqb k bool_key) || leb (le_at 8 (key_at F (group_count F s) i + 1) s) 1)

  unfoldable pub groups_permitted : Bool
  groups_permitted = holds_from (group_count F s) 0 key_permitted

  -- 4: the marks of a range's ends; "t is 0 for ranges"
  abbrev pub end_permitted : ℕ → Bool
  end_permitted at = mark_permitted at (at + 1) s

  abbrev pub ends_permitted : ℕ → Bool
  ends_permitted i = end_permitted (lower_at F (group_count F s) i) && end_permitted (upper_at F (group_count F s) (list_count F s) i)

  unfoldable pub range_permitted : Bool
  range_permitted = eqb (category_count F s) 0 && holds_from (list_count F s) 0 ends_permitted

  -- 4: "list numbers (8 bits, below n, never falling)"
  abbrev pub number_permitted : ℕ → Bool
  number_permitted i =
      ltb (list_number F s (group_count F s) i) (list_count F s)
      && (eqb i 0 || leb (list_number F s (group_count F s) (i - 1)) (list_number F s (group_count F s) i))

  -- 4: "values (64 bits; bool 0 or 1)"
  abbrev pub bool_permitted : ℕ → Bool
  bool_permitted i = leb (category_at F s (group_count F s) (category_count F s) i) 1

  abbrev pub value_permitted : ℕ → Bool
  value_permitted i = not (eqb (byte_at F nature_at s) bool_lists_nature) || bool_permitted i

  unfoldable pub lists_permitted : Bool
  lists_permitted = holds_from (category_count F s) 0 (λ i. number_permitted i && value_permitted i)

  -- 4, 02, S-2: "Texts lie end to end in value order from 0 to the area's end": the k values from number i on, of which the first starts at `at`
  unfoldable pub end_to_end : ℕ → ℕ → ℕ → Bool
  end_to_end zero i at = eqb at (area_size F s)
  end_to_end (suc k) i at =
      let v = category_at F s (group_count F s) (category_count F s) i in
      eqb (start_in v) at && end_to_end k (i + 1) (at + length_in v)

  -- 4, 02, S-2: the area's size "nonzero for another nature is code 4"
  unfoldable pub area_permitted : Bool
  area_permitted = cond (eqb (byte_at F nature_at s) text_lists_nature) (end_to_end (category_count F s) 0 0) (eqb (area_size F s) 0)

  -- 4: "absent nature has n = t = 0"
  abbrev pub counts_permitted : Bool
  counts_permitted = eqb (list_count F s) 0 && eqb (category_count F s) 0

  unfoldable pub nature_permitted : Bool
  nature_permitted =
      let k = byte_at F nature_at s in
      cond (eqb k absent_nature) counts_permitted (cond (is_range_nature k) range_permitted lists_permitted)

  -- 4: "A field has none of its permitted values"; "Breaking these is 4"
  unfoldable pub fields_fail : Bool
  fields_fail = not (bytes_permitted && values_permitted && groups_permitted && area_permitted && nature_permitted)

-- 5: "a lower bound exceeds its upper"
unfoldable pub crossed : {E : Type 0} → Kind E → Option E → Option E → Bool
crossed K none y = false
crossed K (some a) none = false
crossed K (some a) (some c) = K.lt c a

-- 5: "A float bound is infinite or NaN"
unfoldable pub unbounded : Option Float → Bool
unbounded none = false
unbounded (some x) = not (finite x)

-- an entry that passes 5, of a whole range and of a float range
abbrev pub whole_holds : Span ℤ → Bool
whole_holds r = not (crossed whole r.lower r.upper)

abbrev pub float_holds : Span Float → Bool
float_holds r = not (unbounded r.lower || unbounded r.upper || crossed float r.lower r.upper)

unfoldable pub bounds_fail : Nature → Bool
bounds_fail absent = false
bounds_fail (whole_range rs) = not (every whole_holds rs)
bounds_fail (float_range rs) = not (every float_holds rs)
bounds_fail (whole_lists ls) = false
bounds_fail (bool_lists ls) = false
bounds_fail (float_lists ls) = false
bounds_fail (text_lists ls) = false

module _ (F : Form) (s : List ℕ) where
  abbrev pub sheet_checks : List Check
  sheet_checks = check 3 (sizes_fail F s) ∷ check 4 (fields_fail F s) ∷ check 5 (bounds_fail (nature_in F s)) ∷ []

  -- a sheet that passes 3 to 5, or the first of these that it breaks
  unfoldable pub read : Result Sheet
  read = checked sheet_checks (ok (decode F s))
