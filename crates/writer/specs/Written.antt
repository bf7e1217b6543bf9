-- A nature as it is written: its number, its sizes, and the bytes of its two arrays.
use Rattle.std.specs.Prelude.{List, [], ◌++◌, ℕ, ◌+◌, ◌*◌, ◌≤◌, ℤ, length, take}
use Rattle.numbers.specs.Result.{Result, ok, refused, and_then}
use Rattle.base.specs.Form.{Form}
use Rattle.base.specs.Sheet.{Group, Nature, absent, whole_range, float_range, whole_lists, bool_lists, float_lists, text_lists, Fields}
use Rattle.base.specs.Decode.{as_bits}
use Rattle.base.specs.Encode.{whole_bits, float_bits, lowers_of, uppers_of, numbers_from, values_of, front_bytes, group_bytes, nature_number, entry_count, value_count, text_size, spots_from, area_of}
use Rattle.writer.specs.declared.Parts.{Parts}
use Rattle.base.specs.Refusals.{number_of, Answer}
use Rattle.std.specs.declared.result.Result.TheVariants as D

pub record Written : Type 0 where
  pub nature : ℕ
  -- the list count n and the category count t
  pub entries : ℕ
  pub values : ℕ
  -- the size of the text area
  pub text : ℕ
  -- lowers and uppers, or list numbers and values, of texts with the area behind them
  pub first : List ℕ
  pub second : List ℕ

module _ (F : Form) where
  abbrev pub first_array : Nature → List ℕ
  first_array absent = []
  first_array (whole_range rs) = lowers_of whole_bits rs
  first_array (float_range rs) = lowers_of float_bits rs
  first_array (whole_lists ls) = numbers_from F 0 ls
  first_array (bool_lists ls) = numbers_from F 0 ls
  first_array (float_lists ls) = numbers_from F 0 ls
  first_array (text_lists ls) = numbers_from F 0 (spots_from 0 ls)

  abbrev pub second_array : Nature → List ℕ
  second_array absent = []
  second_array (whole_range rs) = uppers_of whole_bits rs
  second_array (float_range rs) = uppers_of float_bits rs
  second_array (whole_lists ls) = values_of whole_bits ls
  second_array (bool_lists ls) = values_of as_bits ls
  second_array (float_lists ls) = values_of as_bits ls
  second_array (text_lists ls) = values_of as_bits (spots_from 0 ls) ++ area_of ls

  abbrev pub written_of : Nature → Written
  written_of k = record {
    nature = nature_number k;
    entries = entry_count k;
    values = value_count k;
    text = text_size k;
    first = first_array k;
    second = second_array k;
  }

  -- what a rule's nature comes to in writing
  abbrev pub in_writing : Result Nature → Result Written
  in_writing g = and_then g (λ k. ok (written_of k))

  -- the bytes of a sheet with a nature in writing
  unfoldable pub sheet_from : Fields → ℤ → List Group → Written → List ℕ
  sheet_from fields node groups w =
      front_bytes F (length groups) w.nature w.entries w.values w.text fields node ++ group_bytes groups ++ w.first ++ w.second

-- what a derived nature says, with the two buffers as they are
abbrev pub parts_in : Parts → List ℕ → List ℕ → Written
parts_in p f s = record {
  nature = p.nature;
  entries = p.entries;
  values = p.values;
  text = p.text;
  first = take p.first f;
  second = take p.second s;
}

abbrev pub derived_in : Answer Parts → List ℕ → List ℕ → Result Written
derived_in (D.Ok p) f s = ok (parts_in p f s)
derived_in (D.Err e) f s = refused (number_of e)

module _ (F : Form) where
  -- the bytes that the two arrays have at most: of a range, and of categories
  abbrev pub ends_room : ℕ
  ends_room = 18 * F.list_limit

  abbrev pub lists_room : ℕ
  lists_room = (F.number_width + 8) * F.category_limit

  -- .. and of texts, with their area
  abbrev pub texts_room : ℕ
  texts_room = lists_room + F.text_limit

  -- a nature's parts keep to the sheet's limits, to the two buffers, and together to `room`
  pub record Placed (room : ℕ) (first second : List ℕ) (p : Parts) : Type 0 where
    pub entries : p.entries ≤ F.list_limit
    pub values : p.values ≤ F.category_limit
    pub text : p.text ≤ F.text_limit
    pub first_held : p.first ≤ length first
    pub second_held : p.second ≤ length second
    pub both : p.first + p.second ≤ room

  abbrev pub Within : ℕ → List ℕ → List ℕ → Answer Parts → Type 0
  Within room first second (D.Ok p) = Placed room first second p
  Within room first second (D.Err e) = Unit {0}
