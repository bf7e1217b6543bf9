-- The sheet that a component derives keeps to the form of its operands, for any stored form that is laid out properly: to the limits of its sizes, its
-- text and its columns, and its numbers fit their places.
--     derived_sound, numbered_sound    of operands that are `Held`
--     numbered_rest                    the call's node number changes neither fields nor nature
--     sound_formed, sound_length       so that its bytes read back, and are no more than the longest sheet's
-- Assumes nothing.
use mathlib.Core.Path.{◌≡◌, refl, subst}
use mathlib.Core.Bool.{Bool, true, false, cond, not, ◌||◌}
use mathlib.Core.List.{List}
use mathlib.Core.Option.{Option, none, some, get_or}
use Prim.Native.Nat.{ℕ, ◌+◌, ◌*◌, ◌^◌, ◌≤◌, ◌<◌}
use native.Mathlib.Nat.{mul-le-mul_left}
use native.Mathlib.Omega.{arith}
use lib.Dec.{T}
use lib.IntN.{ℤ, pos, ◌+ℤ◌}
use lib.ListN.{length}
use lib.Signed.{lt_z}
use Rattle.numbers.specs.Result.{ok}
use Rattle.numbers.specs.Checked.{checked_of}
use Rattle.numbers.specs.Kind.{fitting}
use Rattle.base.specs.Form.{Form, Laid, longest, last_type, is_range_nature}
use Rattle.base.specs.Sheet.{Group, Fields, Sheet}
use Rattle.base.specs.Bounds.{is_present}
use Rattle.base.specs.Encode.{encode, nature_number, entry_count, value_count}
use Rattle.base.specs.Components.{family_of}
use Rattle.base.specs.declared.Component.{Component}
use Rattle.base.specs.declared.Family.{Family}
use Rattle.base.specs.declared.Family.TheVariants as Fam
use Rattle.base.proofs.Flags.{or_no}
use Rattle.shape.specs.Shape.{columns_of, columns_absent, widest, groups_of, greater_z, greater_option, greater_present, rows_agree, rows_of, rows_sum}
use Rattle.orders.specs.Orders.{unary_checks, pair_checks, copy_checks, last_checks, pool_checks}
use Rattle.shape.specs.Fields.{adds_nullity, pair_fields, copy_fields, pool_fields, pair_sheet, copy_sheet, pool_sheet, unary_sheet, numbered}
use Rattle.orders.proofs.Orders.{copy_numbered}
use Rattle.category_lists.specs.Categories.{kept}
use Rattle.calls.specs.Natures.{binary_nature, pool_nature, unary_nature}
use Rattle.calls.specs.Derive.{derive_unary, derive_pair, derive_copy, derive_pool, derive_by, derive}
use Rattle.round_trip.specs.WellFormed.{Each, Present, Whole, Bits, FieldsFit, GroupFits, WellFormed}
use Rattle.round_trip.proofs.Table.{sheet_length}
use Rattle.round_trip.proofs.Natures.{arrays_length}
use Rattle.derived.specs.Held.{KeyAllowed, Held, Sound}
use Rattle.derived.proofs.Gives.{Gives, all_counted, gives_then, gives_passed, gives_checked}
use Rattle.derived.proofs.Fitted.{fitting_fits}
use Rattle.derived.proofs.Made.{Made, Kept, made_kept, pool_made, binary_kept, unary_kept}

-- ---- fields

greater_whole : (a b : ℤ) → Whole a → Whole b → Whole (greater_z a b)
greater_whole a b p q = go (lt_z a b)
  where
    go : (t : Bool) → Whole (cond t b a)
    go true = q
    go false = p

option_whole : (x y : Option ℤ) → Present Whole x → Present Whole y → Present Whole (greater_option x y)
option_whole none y p q = q
option_whole (some a) none p q = p
option_whole (some a) (some b) p q = greater_whole a b p q

present_whole : (x y : Option ℤ) → Present Whole x → Present Whole y → Present Whole (greater_present x y)
present_whole none y p q = tt
present_whole (some a) none p q = tt
present_whole (some a) (some b) p q = greater_whole a b p q

rows_whole : (x y : Fields) → FieldsFit x → FieldsFit y → Present Whole (rows_of x y)
rows_whole x y p q = go (rows_agree x y)
  where
    go : (t : Bool) → Present Whole (cond t (greater_present x.rows y.rows) none)
    go true = present_whole x.rows y.rows p.rows q.rows
    go false = tt

columns_fit : (o : Option ℕ) → Present Bits o → Bits (get_or o 0)
columns_fit none p = omega arith
columns_fit (some n) p = p

columns_some : (o : Option ℕ) → not (is_present o) ≡ false → Present (λ n. 0 < n) o → 0 < get_or o 0
columns_some none e p = absurd (subst T e tt)
columns_some (some n) e p = p

pair_fields_lem : (more : Bool) (x y : Fields) → FieldsFit x → FieldsFit y → FieldsFit (pair_fields more x y)
unfolding pair_fields
pair_fields_lem more x y p q =
    let a = p.c_stability in
    let b = q.c_stability in
    let m = columns_fit x.columns p.columns in
    let n = columns_fit y.columns q.columns in
    record {
      data_type = p.data_type;
      c_stability = omega arith;
      aggregator = omega arith;
      rows = rows_whole x y p q;
      columns = omega arith;
      dataset = p.dataset;
      dimensionality = option_whole x.dimensionality y.dimensionality p.dimensionality q.dimensionality;
      sample = p.sample;
    }

-- the sum of two row counts leaves 64 bits with 24
sum_whole : (x y : Option ℤ) → Gives (Present Whole) (rows_sum x y)
unfolding rows_sum
sum_whole none y = tt
sum_whole (some a) none = tt
sum_whole (some a) (some b) = gives_then Whole (Present Whole) (fitting (checked_of (a +ℤ b))) _ (fitting_fits (a +ℤ b)) (λ n p. p)

pool_fields_lem : (rows : Option ℤ) (x y : Fields) → Present Whole rows → FieldsFit x → FieldsFit y → FieldsFit (pool_fields rows x y)
unfolding pool_fields
pool_fields_lem rows x y w p q =
    let a = p.c_stability in
    let b = q.c_stability in
    let m = columns_fit x.columns p.columns in
    let n = columns_fit y.columns q.columns in
    record {
      data_type = p.data_type;
      c_stability = omega arith;
      aggregator = omega arith;
      rows = w;
      columns = omega arith;
      dataset = tt;
      dimensionality = option_whole x.dimensionality y.dimensionality p.dimensionality q.dimensionality;
      sample = tt;
    }

copy_fields_lem : (x y : Fields) → FieldsFit x → FieldsFit y → FieldsFit (copy_fields x y)
unfolding copy_fields
copy_fields_lem x y p q = record {
  data_type = p.data_type;
  c_stability = p.c_stability;
  aggregator = p.aggregator;
  rows = p.rows;
  columns = p.columns;
  dataset = p.dataset;
  dimensionality = option_whole x.dimensionality y.dimensionality p.dimensionality q.dimensionality;
  sample = p.sample;
}

-- whatever the call's node number
pub numbered_rest : (f : Family) (node : ℕ) (s : Sheet) → ((numbered f node s).fields ≡ s.fields) × ((numbered f node s).nature ≡ s.nature)
unfolding numbered
numbered_rest Fam.Unary node s = (refl, refl)
numbered_rest Fam.Pair node s = (refl, refl)
numbered_rest Fam.Copy node s = (refl, refl)
numbered_rest Fam.Pool node s = (refl, refl)

-- ---- the sheet

module _ {F : Form} (laid : Laid F) where
  abbrev GroupsHeld : List Group → Type 0
  GroupsHeld gs = (length gs ≤ F.group_limit) × Each GroupFits gs × Each KeyAllowed gs

  groups_held : (l r : Sheet) → Held F l → Held F r → GroupsHeld (groups_of l r)
  groups_held l r p q = go l.fields.releasable
    where
      go : (t : Bool) → GroupsHeld (cond t r.groups l.groups)
      go true = (q.groups_within, q.groups, q.allowed.groups)
      go false = (p.groups_within, p.groups, p.allowed.groups)

  held_made : (s : Sheet) → Held F s → Made F s.nature
  held_made s p = record { entries = p.entries_within; fits = p.nature; allowed = p.allowed.values }

  sheet_sound : (s : Sheet) → columns_of s.fields ≤ F.column_limit → FieldsFit s.fields → s.fields.data_type ≤ last_type
      → Present (λ n. 0 < n) s.fields.columns → Whole s.node → GroupsHeld s.groups → Kept F s.nature → Sound F s
  sheet_sound s w f t n z g m = record {
    held = record {
      groups_within = g.0;
      entries_within = m.made.entries;
      columns_within = w;
      fields = f;
      node = z;
      groups = g.1;
      nature = m.made.fits;
      allowed = record { data_type = t; columns = n; groups = g.2; values = m.made.allowed };
    };
    values = m.values;
    text = m.text;
  }

  -- the greater of two column counts, of which left's is present
  module _ (l r : Sheet) (p : Held F l) (q : Held F r) where
    widest_within : widest l.fields r.fields ≤ F.column_limit
    widest_within = let a = p.columns_within in let b = q.columns_within in omega arith

    widest_some : (columns_absent l.fields || columns_absent r.fields) ≡ false → 0 < widest l.fields r.fields
    widest_some e =
        let present = or_no (columns_absent l.fields) (columns_absent r.fields) e in
        let some_column = columns_some l.fields.columns present.0 p.allowed.columns in
        omega arith

  pair_sound : (c : Component) (l r : Sheet) → Held F l → Held F r → Gives (Sound F) (derive_pair F c l r)
  unfolding derive_pair pair_fields
  pair_sound c l r p q =
      gives_passed (Sound F) (pair_checks l r) _ refl
      (λ passing.
      gives_then (Kept F) (Sound F) (binary_nature F c l.fields.data_type (widest l.fields r.fields) l.nature r.nature) _
      (binary_kept laid (widest l.fields r.fields) (widest_within l r p q) c l.fields.data_type l.nature r.nature (held_made l p) (held_made r q))
      (λ k m.
      sheet_sound (pair_sheet c l r k) (widest_within l r p q) (pair_fields_lem (adds_nullity c r.nature) l.fields r.fields p.fields q.fields)
      p.allowed.data_type (widest_some l r p q passing.1.1.1.1.1.1.1.0) p.node (groups_held l r p q) m))

  pool_sound : (c : Component) (l r : Sheet) → Held F l → Held F r → Gives (Sound F) (derive_pool F c l r)
  unfolding derive_pool pool_fields
  pool_sound c l r p q =
      gives_passed (Sound F) (pool_checks l r) _ refl
      (λ passing.
      gives_then (Made F) (Sound F) (pool_nature c l.fields.data_type (widest l.fields r.fields) l.nature r.nature) _
      (pool_made laid (widest l.fields r.fields) (widest_within l r p q) c l.fields.data_type l.nature r.nature (held_made l p) (held_made r q))
      (λ k m. gives_then (Present Whole) (Sound F) (rows_sum l.fields.rows r.fields.rows) _ (sum_whole l.fields.rows r.fields.rows)
      (λ rows w. gives_then (Kept F) (Sound F) (kept F k) _ (made_kept laid k m)
      (λ k' m'.
      sheet_sound (pool_sheet rows l r k') (widest_within l r p q) (pool_fields_lem rows l.fields r.fields w p.fields q.fields)
      p.allowed.data_type (widest_some l r p q passing.1.1.1.1.1.0) p.node (groups_held l r p q) m'))))

  copy_sound : (c : Component) (l r : Sheet) → Held F l → Held F r → Gives (Sound F) (derive_copy F c l r)
  unfolding derive_copy copy_fields
  copy_sound c l r p q =
      gives_checked (Sound F) (copy_checks c l r) _ (all_counted (copy_checks c l r) (copy_numbered l r c))
      (gives_then (Kept F) (Sound F) (binary_nature F c l.fields.data_type (columns_of l.fields) l.nature r.nature) _
      (binary_kept laid (columns_of l.fields) p.columns_within c l.fields.data_type l.nature r.nature (held_made l p) (held_made r q))
      (λ k m. gives_checked (Sound F) (last_checks l r) (ok (copy_sheet l r k)) refl
      (sheet_sound (copy_sheet l r k) p.columns_within (copy_fields_lem l.fields r.fields p.fields q.fields)
      p.allowed.data_type p.allowed.columns p.node (groups_held l r p q) m)))

  unary_sound : (c : Component) (l : Sheet) → Held F l → Gives (Sound F) (derive_unary F c l)
  unfolding derive_unary
  unary_sound c l p =
      gives_checked (Sound F) (unary_checks l.fields) _ refl
      (gives_then (Kept F) (Sound F) (unary_nature F.category_limit c l.fields.data_type (columns_of l.fields) l.nature) _
      (unary_kept laid (columns_of l.fields) p.columns_within c l.fields.data_type l.nature (held_made l p))
      (λ k m. sheet_sound (unary_sheet l k) p.columns_within p.fields p.allowed.data_type p.allowed.columns p.node (p.groups_within, p.groups, p.allowed.groups) m))

  pub derived_sound : (c : Component) (l r : Sheet) → Held F l → Held F r → Gives (Sound F) (derive F c l r)
  unfolding derive
  derived_sound c l r p q = go (family_of c)
    where
      go : (f : Family) → Gives (Sound F) (derive_by F c f l r)
      go Fam.Unary = unary_sound c l p
      go Fam.Pair = pair_sound c l r p q
      go Fam.Copy = copy_sound c l r p q
      go Fam.Pool = pool_sound c l r p q

  -- ---- with the call's node number

  with_node_lem : (s : Sheet) (z : ℤ) → Whole z → Sound F s → Sound F (record { fields = s.fields; node = z; groups = s.groups; nature = s.nature })
  with_node_lem s z w p =
      let h = p.held in
      record {
        held = record {
          groups_within = h.groups_within;
          entries_within = h.entries_within;
          columns_within = h.columns_within;
          fields = h.fields;
          node = w;
          groups = h.groups;
          nature = h.nature;
          allowed = record { data_type = h.allowed.data_type; columns = h.allowed.columns; groups = h.allowed.groups; values = h.allowed.values };
        };
        values = p.values;
        text = p.text;
      }

  pub numbered_sound : (f : Family) (node : ℕ) (s : Sheet) → node < 2 ^ 32 → Sound F s → Sound F (numbered f node s)
  unfolding numbered
  numbered_sound Fam.Unary node s h p = p
  numbered_sound Fam.Pair node s h p = with_node_lem s (pos node) (record { sfits = omega arith }) p
  numbered_sound Fam.Copy node s h p = p
  numbered_sound Fam.Pool node s h p = with_node_lem s (pos node) (record { sfits = omega arith }) p

  -- ---- its bytes

  pub sound_formed : (s : Sheet) → Sound F s → WellFormed F s
  sound_formed s p =
      let h = p.held in
      let g = h.groups_within in
      let n = h.entries_within in
      let t = p.values in
      let x = p.text in
      record {
        groups_counted = omega (arith, laid.groups_counted);
        entries_counted = omega (arith, laid.lists_counted);
        values_counted = omega (arith, laid.categories_counted);
        text_counted = omega (arith, laid.area_counted);
        fields = h.fields;
        node = h.node;
        groups = h.groups;
        nature = h.nature;
      }

  pub sound_length : (s : Sheet) → Sound F s → length (encode F s) ≤ longest F
  sound_length s p =
      let h = p.held in
      let g = h.groups_within in
      let n = h.entries_within in
      let t = p.values in
      let x = p.text in
      let a = go (is_range_nature (nature_number s.nature)) n t in
      omega (arith, sheet_length F s, arrays_length F s.nature)
    where
      go : (b : Bool) → entry_count s.nature ≤ F.list_limit → value_count s.nature ≤ F.category_limit
          → cond b (18 * entry_count s.nature) ((F.number_width + 8) * value_count s.nature) ≤ (F.number_width + 8) * F.category_limit
      go true n t = omega (arith, laid.ranges_shorter)
      go false n t = mul-le-mul_left (F.number_width + 8) t
