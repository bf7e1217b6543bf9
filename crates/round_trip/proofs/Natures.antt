-- A nature reads back from its arrays, and how long they are.
--     arrays_length    the arrays, with the text area, have the bytes that the sizes call for
--     nature_back      whichever of the seven natures it is
-- Assumes nothing.
use mathlib.Core.Path.{◌≡◌, refl, sym, ap, ◌∙◌}
use mathlib.Core.Bool.{cond}
use mathlib.Core.List.{List, ◌++◌, map}
use Prim.Native.Nat.{ℕ, ◌+◌, ◌*◌, ◌^◌, ◌<◌}
use native.Mathlib.Nat.{mul-zero}
use native.Mathlib.Omega.{arith}
use lib.IntN.{ℤ}
use lib.ListN.{length, length-append}
use Rattle.numbers.specs.Kind.{Span}
use Rattle.base.specs.Form.{Form, Laid, is_range_nature, group_count, category_count, entries_at, area_at}
use Rattle.base.specs.Sheet.{Group, Nature, absent, whole_range, float_range, whole_lists, bool_lists, float_lists, text_lists, Fields, Sheet}
use Rattle.base.specs.Decode.{as_bits, entries, lists, text_in, nature_in}
use Rattle.base.specs.Encode.{whole_bits, float_bits, nature_number, entry_count, value_count, text_size, total, area_of, spots_from, range_bytes, lists_bytes, nature_bytes, encode}
use Rattle.base.proofs.Natures.{nature_absent, nature_whole_range, nature_float_range, nature_whole_lists, nature_bool_lists, nature_float_lists, nature_text_lists}
use Rattle.base.proofs.Lists.{lists_read}
use Rattle.round_trip.specs.WellFormed.{Each, Bits, SpanFits, CategoriesFit, WellFormed}
use Rattle.round_trip.proofs.Standing.{Standing, standing_left, standing_right}
use Rattle.round_trip.proofs.Values.{Back, whole, double, bits}
use Rattle.round_trip.proofs.Table.{part_at}
use Rattle.round_trip.proofs.Fields.{group_count_back, list_count_back, category_count_back, nature_byte_back}
use Rattle.round_trip.proofs.Spans.{range_length, spans_back}
use Rattle.round_trip.proofs.Lists.{lists_length, lists_back}
use Rattle.round_trip.proofs.Texts.{spots_length, spots_total, spots_fit, texts_back}

module _ (F : Form) where
  pub arrays_length :
      (k : Nature) → length (nature_bytes F k) ≡ cond (is_range_nature (nature_number k)) (18 * entry_count k) ((F.number_width + 8) * value_count k) + text_size k
  unfolding nature_bytes
  arrays_length absent = omega (arith, mul-zero (F.number_width + 8))
  arrays_length (whole_range rs) = omega (arith, range_length whole_bits rs)
  arrays_length (float_range rs) = omega (arith, range_length float_bits rs)
  arrays_length (whole_lists ls) = omega (arith, lists_length F whole_bits ls)
  arrays_length (bool_lists ls) = omega (arith, lists_length F as_bits ls)
  arrays_length (float_lists ls) = omega (arith, lists_length F as_bits ls)
  arrays_length (text_lists ls) = rw (length-append, lists_length F as_bits (spots_from 0 ls), spots_total 0 ls)

module _ (F : Form) (laid : Laid F) (s : Sheet) (fit : WellFormed F s) (rest : List ℕ) where
  -- where the arrays stand
  arrays_at_lem : Standing (encode F s ++ rest) (entries_at F (length s.groups)) (nature_bytes F s.nature)
  arrays_at_lem = part_at F s rest 28 (entries_at F (length s.groups)) (omega (arith, laid.sizes, laid.arrays))

  -- a sheet whose arrays are those of a range, and of lists
  module _ {X : Type 0} {P : X → Type 0} {bits : X → ℕ} {read : ℕ → X} (back : Back P bits read) where
    entries_back :
        (rs : List (Span X)) → Each (SpanFits P) rs → entry_count s.nature ≡ length rs → Standing (encode F s ++ rest) (entries_at F (length s.groups)) (range_bytes bits rs)
        → entries F (encode F s ++ rest) read ≡ rs
    unfolding entries
    entries_back rs each n h =
        rw (group_count_back F laid s fit rest, list_count_back F laid s fit rest, n) (spans_back back F _ (length s.groups) rs each h)

    categories_back :
        (ls : List (List X)) → CategoriesFit F P ls → entry_count s.nature ≡ length ls → value_count s.nature ≡ total ls
        → Standing (encode F s ++ rest) (entries_at F (length s.groups)) (lists_bytes F bits ls) → lists F (encode F s ++ rest) read ≡ ls
    unfolding lists
    categories_back ls each n k h =
        rw (group_count_back F laid s fit rest, list_count_back F laid s fit rest, category_count_back F laid s fit rest, n, k)
        (lists_back back F _ (length s.groups) (total ls) ls each refl h)

-- a sheet by its parts, so that its nature can be taken apart
module _ (F : Form) (laid : Laid F) (fields : Fields) (node : ℤ) (groups : List Group) where
  abbrev pub sheet_of : Nature → Sheet
  sheet_of k = record { fields = fields; node = node; groups = groups; nature = k }

  -- lists of texts: their values come back, and the texts from the area
  module _ (ls : List (List (List ℕ))) (fit : WellFormed F (sheet_of (text_lists ls))) (rest : List ℕ) where
    abbrev bytes : List ℕ
    bytes = encode F (sheet_of (text_lists ls)) ++ rest

    abbrev spots : List (List ℕ)
    spots = spots_from 0 ls

    ends : 0 + length (area_of ls) < 2 ^ 32
    ends = omega (arith, fit.text_counted)

    spots_stand : Standing bytes (entries_at F (length groups)) (lists_bytes F as_bits spots)
    unfolding nature_bytes
    spots_stand = standing_left (lists_bytes F as_bits spots) (area_of ls) (arrays_at_lem F laid (sheet_of (text_lists ls)) fit rest)

    area_stands : Standing bytes (area_at F (group_count F bytes) (category_count F bytes) + 0) (area_of ls)
    unfolding nature_bytes
    area_stands =
        let k = sheet_of (text_lists ls) in
        let long = lists_length F as_bits spots ∙ ap (λ (n : ℕ). (F.number_width + 8) * n) (spots_total 0 ls) in
        rw (group_count_back F laid k fit rest, category_count_back F laid k fit rest)
        (standing_right (lists_bytes F as_bits spots) (area_of ls) (arrays_at_lem F laid k fit rest) (omega (arith, long)))

    pub text_lists_back : lists F bytes (text_in F bytes) ≡ ls
    text_lists_back =
        let k = sheet_of (text_lists ls) in
        let n = spots_length 0 ls in
        let each : CategoriesFit F Bits spots = record { numbers = omega (arith, fit.nature.numbers); values = spots_fit 0 ls ends } in
        let values = categories_back F laid k fit rest bits spots each (sym n) (sym (spots_total 0 ls)) spots_stand in
        lists_read F bytes (text_in F bytes) ∙ ap (map (map (text_in F bytes))) values ∙ texts_back F bytes 0 ls ends area_stands

  pub nature_back : (k : Nature) → WellFormed F (sheet_of k) → (rest : List ℕ) → nature_in F (encode F (sheet_of k) ++ rest) ≡ k
  unfolding nature_bytes
  nature_back absent fit rest = nature_absent F _ (nature_byte_back F laid _ fit rest)
  nature_back (whole_range rs) fit rest =
      nature_whole_range F _ (nature_byte_back F laid _ fit rest) ∙ ap whole_range (entries_back F laid _ fit rest whole rs fit.nature refl (arrays_at_lem F laid _ fit rest))
  nature_back (float_range rs) fit rest =
      nature_float_range F _ (nature_byte_back F laid _ fit rest) ∙ ap float_range (entries_back F laid _ fit rest double rs fit.nature refl (arrays_at_lem F laid _ fit rest))
  nature_back (whole_lists ls) fit rest =
      nature_whole_lists F _ (nature_byte_back F laid _ fit rest) ∙ ap whole_lists (categories_back F laid _ fit rest whole ls fit.nature refl refl (arrays_at_lem F laid _ fit rest))
  nature_back (bool_lists ls) fit rest =
      nature_bool_lists F _ (nature_byte_back F laid _ fit rest) ∙ ap bool_lists (categories_back F laid _ fit rest bits ls fit.nature refl refl (arrays_at_lem F laid _ fit rest))
  nature_back (float_lists ls) fit rest =
      nature_float_lists F _ (nature_byte_back F laid _ fit rest) ∙ ap float_lists (categories_back F laid _ fit rest bits ls fit.nature refl refl (arrays_at_lem F laid _ fit rest))
  nature_back (text_lists ls) fit rest = nature_text_lists F _ (nature_byte_back F laid _ fit rest) ∙ ap text_lists (text_lists_back ls fit rest)
