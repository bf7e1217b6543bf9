-- Laws of `sheet_from`, the bytes of a sheet whose nature is in writing.
--     sheet_written     a sheet's bytes, by its nature in writing
--     sheet_parts       the parts as they are appended
-- Assumes nothing.
use mathlib.Core.Path.{◌≡◌, refl}
use mathlib.Core.List.{List, ◌++◌, append_assoc}
use Prim.Native.Nat.{ℕ}
use lib.IntN.{ℤ}
use lib.ListN.{length, take}
use Rattle.base.specs.Form.{Form}
use Rattle.base.specs.Sheet.{Group, Nature, absent, whole_range, float_range, whole_lists, bool_lists, float_lists, text_lists, Fields, Sheet}
use Rattle.base.specs.Decode.{as_bits}
use Rattle.base.specs.Encode.{numbers_from, values_of, spots_from, area_of, range_bytes, lists_bytes, nature_bytes, group_bytes, front_bytes, encode}
use Rattle.writer.specs.Written.{first_array, second_array, written_of, sheet_from, parts_in}
use Rattle.writer.specs.declared.Parts.{Parts}

module _ (F : Form) where
  arrays : (k : Nature) → nature_bytes F k ≡ first_array F k ++ second_array F k
  unfolding nature_bytes range_bytes lists_bytes
  arrays absent = refl
  arrays (whole_range rs) = refl
  arrays (float_range rs) = refl
  arrays (whole_lists ls) = refl
  arrays (bool_lists ls) = refl
  arrays (float_lists ls) = refl
  arrays (text_lists ls) = append_assoc (numbers_from F 0 (spots_from 0 ls)) (values_of as_bits (spots_from 0 ls)) (area_of ls)

  pub sheet_written : (s : Sheet) → encode F s ≡ sheet_from F s.fields s.node s.groups (written_of F s.nature)
  unfolding encode sheet_from
  sheet_written s = rw (arrays s.nature) (simp append_assoc)

module _ (F : Form) (fields : Fields) (node : ℤ) where
  -- g and gs are the number of the groups and their bytes
  pub sheet_parts :
      (groups : List Group) (p : Parts) (first second : List ℕ) {g : ℕ} {gs : List ℕ} → length groups ≡ g → group_bytes groups ≡ gs
      → front_bytes F g p.nature p.entries p.values p.text fields node ++ gs ++ take p.first first ++ take p.second second
      ≡ sheet_from F fields node groups (parts_in p first second)
  unfolding sheet_from
  sheet_parts groups p first second count same = rw (count, same)
