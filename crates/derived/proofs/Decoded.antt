-- Bytes that pass 3 and 4 decode to a sheet that keeps to the form's limits and whose numbers fit their places.
--     decoded_held    for any stored form that is laid out properly
--     read_gives      what is read has passed 3 to 5 and is what is decoded
-- Assumes nothing.
use mathlib.Core.Path.{◌≡◌, refl, ap}
use mathlib.Core.Bool.{Bool, true, false, cond}
use mathlib.Core.List.{List, [], ◌∷◌}
use mathlib.Core.Option
use mathlib.Core.Option.{Option, none, some}
use Prim.Native.Nat.{ℕ, zero, suc, ◌+◌, ◌≤◌}
use native.Mathlib.Omega.{arith}
use lib.Dec.{eqb}
use lib.Ieee.{binary64}
use lib.Ieee.Bits.{of_bits-fits}
use lib.ListN.{length, get_or, drop}
use mir.Syntax.{w64}
use mir.Facts.{sfits_to_z}
use Rattle.octets.specs.Le.{le_at}
use Rattle.octets.proofs.Reread.{AllBytes, le_at_below}
use Rattle.numbers.specs.Result.{ok}
use Rattle.utilities.proofs.Built.{list_from_length}
use Rattle.base.specs.Form.{Form, Laid, nature_at, byte_at, group_count, list_count, category_count, whole_range_nature, float_range_nature, whole_lists_nature, bool_lists_nature, float_lists_nature, text_lists_nature, area_at}
use Rattle.base.specs.Sheet.{Nature, absent, whole_range, float_range, whole_lists, bool_lists, float_lists, text_lists}
use Rattle.base.specs.Decode.{as_whole, as_float, as_bits, start_in, length_in, option_at, prepended, group_at, span_at, list_number, category_at, list_at, entries, lists, text_in, nature_in, fields_in, groups_in, decode}
use Rattle.base.specs.Encode.{entry_count}
use Rattle.base.specs.Checks.{sheet_checks, read}
use Rattle.base.specs.Code.{code_of}
use Rattle.base.proofs.Groups.{groups_length}
use Rattle.base.proofs.Passed.{Passed, passed, passed_all}
use Rattle.base.proofs.Permitted.{permitted, columns_within_lem}
use Rattle.lending.specs.Code.{Read}
use Rattle.round_trip.specs.WellFormed.{Each, Present, Whole, Double, Bits, Byte, FieldsFit, GroupFits, SpanFits, CategoriesFit, NatureFits}
use Rattle.derived.specs.Held.{Held}
use Rattle.derived.proofs.Gives.{Gives, gives_more, gives_checked}
use Rattle.derived.proofs.Each.{each_from, each_take, each_drop}
use Rattle.derived.proofs.Allowed.{decoded_allowed}

bytes_each : (s : List ℕ) → AllBytes s → Each Byte s
bytes_each [] h = tt
bytes_each (x ∷ s) h = (h 0, bytes_each s (λ i. h (suc i)))

module _ {F : Form} (laid : Laid F) (s : List ℕ) (small : AllBytes s) where
  read_whole : (at : ℕ) → Whole (as_whole (le_at 8 at s))
  read_whole at = sfits_to_z {w = w64} (record { fits = le_at_below s small 8 at })

  read_double : (at : ℕ) → Double (as_float (le_at 8 at s))
  read_double at = of_bits-fits binary64 (le_at 8 at s)

  read_bits : (at : ℕ) → Bits (as_bits (le_at 8 at s))
  read_bits at = le_at_below s small 8 at

  -- a text is a part of the sheet
  read_text : (at : ℕ) → Each Byte (text_in F s (le_at 8 at s))
  unfolding text_in
  read_text at =
      let v = le_at 8 at s in
      let from = area_at F (group_count F s) (category_count F s) + start_in v in
      each_take Byte (length_in v) (drop from s) (each_drop Byte from s (bytes_each s small))

  module _ {X : Type 0} (P : X → Type 0) (read : ℕ → X) (fit : (at : ℕ) → P (read (le_at 8 at s))) where
    option_fits : (mark at : ℕ) → Present P (option_at read mark at s)
    unfolding option_at
    option_fits mark at = go (eqb (get_or s mark 0) 0)
      where
        go : (t : Bool) → Present P (cond t none (some (read (le_at 8 at s))))
        go true = tt
        go false = fit at

    entries_fit : Each (SpanFits P) (entries F s read)
    unfolding entries
    entries_fit =
        each_from (SpanFits P) (span_at F s read (group_count F s) (list_count F s))
        (λ i. record { lower = option_fits _ _; upper = option_fits _ _ }) (list_count F s) 0

    list_fits : (g t j k i : ℕ) → Each P (list_at F s read g t j k i)
    unfolding list_at
    list_fits g t j zero i = tt
    list_fits g t j (suc k) i = go (eqb (list_number F s g i) j) (list_fits g t j k (i + 1))
      where
        go : (b : Bool) → Each P (list_at F s read g t j k (i + 1)) → Each P (prepended b (read (category_at F s g t i)) (list_at F s read g t j k (i + 1)))
        go true h = (fit _, h)
        go false h = h

    lists_length : length (lists F s read) ≡ list_count F s
    unfolding lists
    lists_length = list_from_length (λ j. list_at F s read (group_count F s) (category_count F s) j (category_count F s) 0) (list_count F s) 0

    entries_length : length (entries F s read) ≡ list_count F s
    unfolding entries
    entries_length = list_from_length (span_at F s read (group_count F s) (list_count F s)) (list_count F s) 0

    lists_fit : list_count F s ≤ F.list_limit → CategoriesFit F P (lists F s read)
    unfolding lists
    lists_fit h =
        let n = lists_length in
        record {
          numbers = omega (arith, laid.lists_numbered);
          values = each_from (Each P) (λ j. list_at F s read (group_count F s) (category_count F s) j (category_count F s) 0)
              (λ j. list_fits (group_count F s) (category_count F s) j (category_count F s) 0) (list_count F s) 0;
        }

  abbrev Fine : Nature → Type 0
  Fine k = (entry_count k ≤ F.list_limit) × NatureFits F k

  nature_fine : list_count F s ≤ F.list_limit → Fine (nature_in F s)
  unfolding nature_in
  nature_fine h =
      let k = byte_at F nature_at s in
      go (eqb k whole_range_nature) (eqb k float_range_nature) (eqb k whole_lists_nature) (eqb k bool_lists_nature) (eqb k float_lists_nature) (eqb k text_lists_nature)
    where
      go : (a b c d e x : Bool)
          → Fine (cond a (whole_range (entries F s as_whole)) (cond b (float_range (entries F s as_float)) (cond c (whole_lists (lists F s as_whole))
          (cond d (bool_lists (lists F s as_bits)) (cond e (float_lists (lists F s as_bits)) (cond x (text_lists (lists F s (text_in F s))) absent))))))
      go true b c d e x = let n = entries_length Whole as_whole read_whole in (omega arith, entries_fit Whole as_whole read_whole)
      go false true c d e x = let n = entries_length Double as_float read_double in (omega arith, entries_fit Double as_float read_double)
      go false false true d e x = let n = lists_length Whole as_whole read_whole in (omega arith, lists_fit Whole as_whole read_whole h)
      go false false false true e x = let n = lists_length Bits as_bits read_bits in (omega arith, lists_fit Bits as_bits read_bits h)
      go false false false false true x = let n = lists_length Bits as_bits read_bits in (omega arith, lists_fit Bits as_bits read_bits h)
      go false false false false false true = let n = lists_length (Each Byte) (text_in F s) read_text in (omega arith, lists_fit (Each Byte) (text_in F s) read_text h)
      go false false false false false false = (omega arith, tt)

  fields_fit : FieldsFit (fields_in F s)
  unfolding fields_in
  fields_fit = record {
    data_type = small _;
    c_stability = le_at_below s small 4 _;
    aggregator = le_at_below s small 4 _;
    rows = option_fits Whole as_whole read_whole _ _;
    columns = option_fits Bits as_bits read_bits _ _;
    dataset = option_fits Whole as_whole read_whole _ _;
    dimensionality = option_fits Whole as_whole read_whole _ _;
    sample = option_fits Bits as_bits read_bits _ _;
  }

  groups_fit : Each GroupFits (groups_in F s)
  unfolding groups_in
  groups_fit =
      each_from GroupFits (group_at F s (group_count F s))
      (λ i. record { partition = le_at_below s small 4 _; kind = small _; index = read_whole _ }) (group_count F s) 0

  pub decoded_held : Read F s → Held F (decode F s)
  unfolding decode
  decoded_held p =
      let z = passed F s p.sizes in
      let n = nature_fine z.lists_within in
      let g = groups_length F s in
      record {
        groups_within = omega (arith, z.groups_within);
        entries_within = n.0;
        columns_within = columns (fields_in F s).columns refl;
        fields = fields_fit;
        node = read_whole _;
        groups = groups_fit;
        nature = n.1;
        allowed = decoded_allowed F s small p.fields;
      }
    where
      columns : (o : Option ℕ) → (fields_in F s).columns ≡ o → Option.get_or o 0 ≤ F.column_limit
      columns none e = omega arith
      columns (some c) e = (columns_within_lem F s (permitted F s p.fields) e).1

pub read_gives : (F : Form) (s : List ℕ) → Gives (λ x. Passed F s × (x ≡ decode F s)) (read F s)
unfolding read
read_gives F s =
    gives_more (λ x. x ≡ decode F s) (λ x. Passed F s × (x ≡ decode F s)) (read F s)
    (gives_checked (λ x. x ≡ decode F s) (sheet_checks F s) (ok (decode F s)) refl refl)
    (λ x e h. (passed_all F s (ap code_of e), h))
