-- The nature that a sheet which passed 3 to 5 spells, written again: its number, its sizes, its arrays and its text area are those of the sheet.
--     range_spelled, lists_spelled, texts_spelled    by what its arrays hold
--     nature_spelled                  whichever of the seven natures it is
-- Assumes nothing.
use mathlib.Core.Path.{◌≡◌, refl, sym, ap, ◌∙◌}
use mathlib.Core.Bool.{true, false, cond, ◌||◌}
use mathlib.Core.List.{List}
use Prim.Native.Nat.{ℕ, zero, suc, ◌+◌, ◌*◌, ◌≤◌, ◌<◌}
use native.Mathlib.Nat.{add-zero, mul-zero}
use native.Mathlib.Omega.{arith}
use lib.Dec.{eqb}
use lib.ListN.{length, drop}
use lib.Seq.{take_all}
use borrow.Author.Tests.{eqb-true, not-true, not-false}
use Rattle.octets.specs.Le.{le_at}
use Rattle.octets.proofs.Reread.{AllBytes, le_at_below}
use Rattle.numbers.specs.Kind.{float}
use Rattle.utilities.proofs.Built.{list_from_length}
use Rattle.base.specs.Form.{Form, byte_at, nature_at, absent_nature, text_lists_nature, last_nature, is_range_nature, group_count, list_count, category_count, entries_at, lower_at, upper_at, area_at, area_size}
use Rattle.base.specs.Sheet.{Nature, absent, text_lists}
use Rattle.base.specs.Decode.{as_whole, as_float, as_bits, option_at, end_at, span_at, list_at, entries, lists, text_in, nature_in}
use Rattle.base.specs.Encode.{whole_bits, float_bits, nature_number, entry_count, value_count, text_size, total, spots_from, range_bytes, lists_bytes, nature_bytes}
use Rattle.base.specs.Checks.{holds_from, range_permitted, lists_permitted, counts_permitted, area_permitted, nature_permitted, unbounded, crossed, sizes_fail, fields_fail, bounds_fail, ends_permitted}
use Rattle.base.specs.Entries.{entry_holds}
use Rattle.base.specs.Sized.{Sized, ListsFit}
use Rattle.base.proofs.Flags.{and_both, or_no}
use Rattle.base.proofs.Holding.{holds_within}
use Rattle.base.proofs.Natures.{nature_absent, nature_whole_range, nature_float_range, nature_whole_lists, nature_bool_lists, nature_float_lists, nature_text_lists, range_fails}
use Rattle.base.proofs.Passed.{passed, lists_fit, area_ends}
use Rattle.base.proofs.Permitted.{permitted}
use Rattle.base.proofs.Groups.{whole_bits_copied}
use Rattle.round_trip.proofs.Filling.{Filling, ◌then◌, fill_none, fill_part}
use Rattle.round_trip.proofs.Marks.{double_same}
use Rattle.round_trip.proofs.Ranges.{Kept, entries_fill}
use Rattle.round_trip.proofs.InOrder.{lists_total, lists_fill}
use Rattle.round_trip.proofs.Area.{arrays_fit, lists_permitted_lem, area_size_lem, lists_area, lists_spots}

-- a nature's number, its sizes, that of its text area, and the bytes of all of these are those of s
pub record Spelled (F : Form) (s : List ℕ) (k n t a : ℕ) (vs : List ℕ) : Type 0 where
  pub number : k ≡ byte_at F nature_at s
  pub entries : n ≡ list_count F s
  pub values : t ≡ category_count F s
  pub area : a ≡ area_size F s
  pub bytes : Filling s (entries_at F (group_count F s)) (length s) vs

abbrev pub SpelledBy : Form → List ℕ → Nature → Type 0
SpelledBy F s k = Spelled F s (nature_number k) (entry_count k) (value_count k) (text_size k) (nature_bytes F k)

module _ (F : Form) (s : List ℕ) (small : AllBytes s) where
  module _ {k : ℕ} (e : byte_at F nature_at s ≡ k) (none : area_size F s ≡ 0) {X : Type 0} (bits : X → ℕ) (read : ℕ → X) where
    range_spelled :
        let g = group_count F s in let n = list_count F s in
        length s ≡ entries_at F g + 18 * n → range_permitted F s ≡ true → ((i : ℕ) → i < n → Kept F s bits read (lower_at F g i) × Kept F s bits read (upper_at F g n i))
        → Spelled F s k (length (entries F s read)) 0 0 (range_bytes bits (entries F s read))
    unfolding range_permitted entries
    range_spelled size ok keeps =
        let g = group_count F s in
        let n = list_count F s in
        let both = and_both (eqb (category_count F s) 0) (holds_from n 0 (ends_permitted F s)) ok in
        record {
          number = sym e;
          entries = list_from_length (span_at F s read g n) n 0;
          values = sym (eqb-true _ _ both.0);
          area = sym none;
          bytes = rw size (entries_fill F s bits read small (omega arith) both.1 keeps);
        }

    lists_spelled :
        let g = group_count F s in let n = list_count F s in let t = category_count F s in
        length s ≡ entries_at F g + (F.number_width + 8) * t → ListsFit F s g n t → lists_permitted F s ≡ true → ((at : ℕ) → bits (read (le_at 8 at s)) ≡ le_at 8 at s)
        → Spelled F s k (length (lists F s read)) (total (lists F s read)) 0 (lists_bytes F bits (lists F s read))
    unfolding lists
    lists_spelled size fit ok back =
        let g = group_count F s in
        let n = list_count F s in
        let t = category_count F s in
        record {
          number = sym e;
          entries = list_from_length (λ j. list_at F s read g t j t 0) n 0;
          values = lists_total F s fit ok read;
          area = sym none;
          bytes = rw size (lists_fill F s fit ok read bits small back);
        }

  -- a float end that passed 5
  end_kept : (at : ℕ) → unbounded (end_at as_float at s) ≡ false → Kept F s float_bits as_float at
  unfolding unbounded option_at
  end_kept at h one = double_same _ (le_at_below s small 8 (at + 1)) (not-false _ (rw one at h))

  floats_kept :
      let g = group_count F s in let n = list_count F s in
      holds_from n 0 (entry_holds F true s) ≡ true → (i : ℕ) → i < n → Kept F s float_bits as_float (lower_at F g i) × Kept F s float_bits as_float (upper_at F g n i)
  floats_kept h i l =
      let r = span_at F s as_float (group_count F s) (list_count F s) i in
      let a = unbounded r.lower in
      let b = unbounded r.upper in
      let bounded = or_no (a || b) (crossed float r.lower r.upper) (not-true _ (holds_within (entry_holds F true s) (list_count F s) 0 i h (omega arith) (omega arith))) in
      let both = or_no a b bounded.0 in
      (end_kept _ both.0, end_kept _ both.1)

  module _ (sizes : sizes_fail F s ≡ false) (fields : fields_fail F s ≡ false) (bound : bounds_fail (nature_in F s) ≡ false) where
    abbrev sized : Sized F s (group_count F s) (list_count F s) (category_count F s)
    sized = passed F s sizes

    -- what checks 3 and 4 say, by the nature's byte: of a nature other than text there is no area
    no_area : {k : ℕ} → byte_at F nature_at s ≡ k → eqb k text_lists_nature ≡ false → area_size F s ≡ 0
    unfolding area_permitted
    no_area e h = eqb-true _ _ (rw (e, h) at (permitted F s fields).area)

    size : {k : ℕ} → byte_at F nature_at s ≡ k → eqb k text_lists_nature ≡ false → length s ≡ entries_at F (group_count F s) + cond (is_range_nature k) (18 * list_count F s) ((F.number_width + 8) * category_count F s)
    size e h = rw (e, no_area e h, add-zero) at sized.exact

    permits : {k : ℕ} → byte_at F nature_at s ≡ k → cond (eqb k absent_nature) (counts_permitted F s) (cond (is_range_nature k) (range_permitted F s) (lists_permitted F s)) ≡ true
    unfolding nature_permitted
    permits e = rw e at (permitted F s fields).nature

    absent_spelled : byte_at F nature_at s ≡ absent_nature → SpelledBy F s absent
    unfolding nature_bytes
    absent_spelled e =
        let both = and_both (eqb (list_count F s) 0) (eqb (category_count F s) 0) (permits e) in
        let none = eqb-true (category_count F s) 0 both.1 in
        let long : length s ≡ entries_at F (group_count F s) = rw (none, mul-zero, add-zero) at (size e refl) in
        record { number = sym e; entries = sym (eqb-true _ _ both.0); values = sym none; area = sym (no_area e refl); bytes = rw long (fill_none _) }

    -- the values are those that stand in the sheet, the texts fill the rest
    texts_spelled : byte_at F nature_at s ≡ text_lists_nature → SpelledBy F s (text_lists (lists F s (text_in F s)))
    unfolding nature_bytes lists
    texts_spelled e =
        let g = group_count F s in
        let t = category_count F s in
        let fit = arrays_fit F s sizes fields e in
        let ok = lists_permitted_lem F s sizes fields e in
        let long = area_size_lem F s sizes fields e in
        let joined = lists_area F s sizes fields e in
        let values : Filling s (entries_at F g) (area_at F g t) (lists_bytes F as_bits (spots_from 0 (lists F s (text_in F s)))) =
        rw (lists_spots F s sizes fields e) (lists_fill F s fit ok as_bits as_bits small (λ at. refl)) in
        record {
          number = sym e;
          entries = list_from_length (λ j. list_at F s (text_in F s) g t j t 0) (list_count F s) 0;
          values = lists_total F s fit ok (text_in F s);
          area = ap length joined ∙ long;
          bytes = values then fill_part (area_size F s) (joined ∙ sym (take_all (area_size F s) (drop (area_at F g t) s) (omega (arith, long)))) (sym (area_ends (passed F s sizes) (rw e)));
        }

    spelled_by : (k : ℕ) → byte_at F nature_at s ≡ k → k ≤ last_nature → SpelledBy F s (nature_in F s)
    unfolding nature_bytes
    spelled_by zero e h = rw (nature_absent F s e) (absent_spelled e)
    spelled_by (suc zero) e h =
        rw (nature_whole_range F s e)
        (range_spelled e (no_area e refl) whole_bits as_whole (size e refl) (permits e) (λ i l. (λ _. whole_bits_copied s small _, λ _. whole_bits_copied s small _)))
    spelled_by (suc (suc zero)) e h =
        rw (nature_float_range F s e)
        (range_spelled e (no_area e refl) float_bits as_float (size e refl) (permits e) (floats_kept (not-false _ (sym (rw e at (range_fails F s (rw e))) ∙ bound))))
    spelled_by (suc (suc (suc zero))) e h =
        rw (nature_whole_lists F s e) (lists_spelled e (no_area e refl) whole_bits as_whole (size e refl) (lists_fit sized (rw e)) (permits e) (whole_bits_copied s small))
    spelled_by (suc (suc (suc (suc zero)))) e h =
        rw (nature_bool_lists F s e) (lists_spelled e (no_area e refl) as_bits as_bits (size e refl) (lists_fit sized (rw e)) (permits e) (λ at. refl))
    spelled_by (suc (suc (suc (suc (suc zero))))) e h =
        rw (nature_float_lists F s e) (lists_spelled e (no_area e refl) as_bits as_bits (size e refl) (lists_fit sized (rw e)) (permits e) (λ at. refl))
    spelled_by (suc (suc (suc (suc (suc (suc zero)))))) e h = rw (nature_text_lists F s e) (texts_spelled e)
    spelled_by (suc (suc (suc (suc (suc (suc (suc k))))))) e h = absurd (omega arith)

    pub nature_spelled : byte_at F nature_at s ≤ last_nature → SpelledBy F s (nature_in F s)
    nature_spelled = spelled_by (byte_at F nature_at s) refl
