-- What one pass over a nature finds by checks 4 and 5.
use Rattle.std.specs.Prelude.{◌≡◌, Bool, true, cond, not, ◌&&◌, ◌||◌, List, ℕ, eqb, leb}
use Rattle.base.specs.Form.{Form, byte_at, nature_at, type_at, nullity_at, releasable_at, not_empty_at, ordered_at, reserved_at, later_at, later_count, last_nature, last_type, text_lists_nature, category_count, area_size}
use Rattle.base.specs.Decode.{nature_in}
use Rattle.base.specs.Checks.{holds_from, flag_permitted, gap_permitted, values_permitted, groups_permitted, end_to_end, nature_permitted, bounds_fail}
use Rattle.array_checks.specs.declared.Faults.{Faults}

-- 4 as the code makes its tests: the bytes, and of all but texts those around the area's size, which is zero; the area of texts with the nature
module _ (F : Form) (s : List ℕ) where
  abbrev pub is_text : Bool
  is_text = eqb (byte_at F nature_at s) text_lists_nature

  -- the zero bytes around the area's size
  abbrev pub reserved : Bool
  reserved = eqb (byte_at F reserved_at s) 0 && holds_from later_count later_at (λ k. eqb (byte_at F k s) 0)

  abbrev pub tail_permitted : Bool
  tail_permitted = (reserved && eqb (area_size F s) 0) || is_text

  abbrev pub head_bytes : Bool
  head_bytes =
      leb (byte_at F nature_at s) last_nature
      && leb (byte_at F type_at s) last_type
      && flag_permitted F s nullity_at
      && flag_permitted F s releasable_at
      && flag_permitted F s not_empty_at
      && flag_permitted F s ordered_at
      && tail_permitted
      && gap_permitted F s

  abbrev pub head_fault : Bool
  head_fault = not (head_bytes && values_permitted F s && groups_permitted F s)

  abbrev pub around_text : ℕ → Bool
  around_text t = reserved && end_to_end F s t 0 0

  abbrev pub texts_permitted : Bool
  texts_permitted = cond is_text (around_text (category_count F s)) true

-- r is what 4 and 5 find in the nature, and 4 in its texts
pub record NatureFaults (F : Form) (s : List ℕ) (r : Faults) : Type 0 where
  pub fields : r.fields ≡ not (nature_permitted F s && texts_permitted F s)
  pub bounds : r.bounds ≡ bounds_fail (nature_in F s)
