-- The range derived of two sheets' bytes, in writing, by its columns, for any form. Assumes nothing.
use mathlib.Core.Path.{◌≡◌, refl, ap, ap₂, ◌∙◌}
use mathlib.Core.Bool.{Bool, true, false, cond, not}
use mathlib.Core.List.{List, [], ◌∷◌}
use mathlib.Core.Option.{Option, none, some}
use Prim.Native.Nat.{ℕ}
use lib.IntN.{ℤ}
use lib.Ieee as Ieee
use lib.ListN.{length}
use Rattle.numbers.specs.Result.{Result, ok, refused, and_then, Check, check, checked}
use Rattle.numbers.specs.Kind as K
use Rattle.numbers.specs.Kind.{Span, span_of}
use Rattle.utilities.specs.Lists.{list_from, repeated}
use Rattle.utilities.specs.Columns.{spreads, each_pair}
use Rattle.base.specs.Form.{Form, whole_range_nature, float_range_nature, group_count, list_count, lower_at, upper_at}
use Rattle.base.specs.Sheet.{whole_range, float_range}
use Rattle.base.specs.Decode.{as_whole, as_float, span_at, entries}
use Rattle.base.specs.Encode.{end_bytes, whole_bits, float_bits}
use Rattle.base.specs.Code.{of_whole, of_float, bound_bytes}
use Rattle.base.specs.declared.Bound.{Bound}
use Rattle.base.specs.declared.Component.{Component}
use Rattle.base.proofs.Ends.{whole_end_lem, float_end_lem}
use Rattle.ends.specs.Ends.{end_rule}
use Rattle.ends.specs.Code.{whole_span, float_span, ends_of}
use Rattle.writer.specs.Written.{Written, written_of, in_writing}
use Rattle.ends.specs.Ranges.{whole_rule, range_pair, range_nature}
use Rattle.ranges.specs.Chained.{entry_of, range_at, column_ends, column_at, range_number, columns_from}
use Rattle.ranges.proofs.Spread.{spreads_from, repeated_from}
use Rattle.ranges.proofs.Chain.{in_kind, chain_is}
use Rattle.ends.specs.declared.Range.{Range}

-- ---- the two kinds

pub whole_bytes : (e : Option ℤ) → bound_bytes (of_whole e) ≡ end_bytes whole_bits e
unfolding bound_bytes
whole_bytes none = refl
whole_bytes (some z) = refl

pub float_bytes : (e : Option Ieee.Float) → bound_bytes (of_float e) ≡ end_bytes float_bits e
unfolding bound_bytes end_bytes
float_bytes none = refl
float_bytes (some x) = refl

module _ (F : Form) (s : List ℕ) (i : ℕ) where
  pub whole_entry : whole_span (range_at F false s i) ≡ span_at F s as_whole (group_count F s) (list_count F s) i
  unfolding range_at
  whole_entry =
      ap₂ span_of (whole_end_lem (lower_at F (group_count F s) i) s refl refl)
      (whole_end_lem (upper_at F (group_count F s) (list_count F s) i) s refl refl)

  pub float_entry : float_span (range_at F true s i) ≡ span_at F s as_float (group_count F s) (list_count F s) i
  unfolding range_at
  float_entry =
      ap₂ span_of (float_end_lem (lower_at F (group_count F s) i) s refl refl)
      (float_end_lem (upper_at F (group_count F s) (list_count F s) i) s refl refl)

-- ---- one kind, over the end

-- a value put into writing by two steps is put into writing by one
two_steps : {X Y Z : Type 0} (h : X → Y) (w : Y → Z) (g : Result X) → and_then (and_then g (λ x. ok (h x))) (λ y. ok (w y)) ≡ and_then g (λ x. ok (w (h x)))
two_steps h w (ok x) = refl
two_steps h w (refused k) = refl

-- the entry of a sheet that column j takes
abbrev column_in : {E : Type 0} → Form → (ℕ → E) → List ℕ → ℕ → Span E
column_in F read s j = span_at F s read (group_count F s) (list_count F s) (entry_of (list_count F s) j)

module _ (F : Form) {E : Type 0} (read : ℕ → E) (columns : ℕ) (s : List ℕ) where
  count_is : spreads columns (length (entries F s read)) ≡ spreads columns (list_count F s)
  unfolding entries
  count_is = spreads_from columns (span_at F s read (group_count F s) (list_count F s)) (list_count F s)

  spread_is : spreads columns (list_count F s) ≡ true → repeated columns (entries F s read) ≡ list_from columns 0 (column_in F read s)
  unfolding entries
  spread_is h = repeated_from columns (span_at F s read (group_count F s) (list_count F s)) (list_count F s) h

-- 18, left's list first
abbrev pub evenness : Form → ℕ → List ℕ → List ℕ → List Check
evenness F columns l r =
    check 18 (not (spreads columns (list_count F l))) ∷ check 18 (not (spreads columns (list_count F r))) ∷ []

module _ (F : Form) {E : Type 0} (read : ℕ → E) (bits : E → ℕ) (nature : ℕ) (bound : Option E → Bound) (same : (e : Option E) → bound_bytes (bound e) ≡ end_bytes bits e) where
  module _ (rule : Span E → Span E → Result (Span E)) (columns : ℕ) (l r : List ℕ) (f : ℕ → Result Range) (by : (j : ℕ) → f j ≡ ends_of bound (rule (column_in F read l j) (column_in F read r j))) where
    abbrev in_bytes : Result (List (Span E)) → Result Written
    in_bytes g = and_then g (λ zs. ok (in_kind bits nature zs))

    kind_is : in_bytes (range_pair rule columns (entries F l read) (entries F r read)) ≡ checked (evenness F columns l r) (columns_from nature f columns 0)
    unfolding range_pair checked
    kind_is =
        rw (count_is F read columns l, count_is F read columns r)
        (go (spreads columns (list_count F l)) refl (spreads columns (list_count F r)) refl)
      where
        pairs : Result (List (Span E))
        pairs = each_pair rule (repeated columns (entries F l read)) (repeated columns (entries F r read))

        go :
            (t : Bool) → spreads columns (list_count F l) ≡ t → (u : Bool) → spreads columns (list_count F r) ≡ u
            → in_bytes (cond (not t) (refused 18) (cond (not u) (refused 18) pairs))
            ≡ cond (not t) (refused 18) (cond (not u) (refused 18) (columns_from nature f columns 0))
        go false hl u hr = refl
        go true hl false hr = refl
        go true hl true hr = rw (spread_is F read columns l hl, spread_is F read columns r hr) (chain_is bits nature bound same rule (column_in F read l) (column_in F read r) f by columns 0)

-- ---- both kinds: the code's columns are the rule's

module _ (F : Form) (c : Component) (type : ℕ) (l r : List ℕ) (j : ℕ) where
  whole_column : column_at F false c type l r j ≡ ends_of of_whole (whole_rule c type (column_in F as_whole l j) (column_in F as_whole r j))
  unfolding column_at column_ends
  whole_column =
      ap (ends_of of_whole) (ap₂ (whole_rule c type) (whole_entry F l (entry_of (list_count F l) j)) (whole_entry F r (entry_of (list_count F r) j)))

  float_column : column_at F true c type l r j ≡ ends_of of_float (end_rule K.float c (column_in F as_float l j) (column_in F as_float r j))
  unfolding column_at column_ends
  float_column =
      ap (ends_of of_float) (ap₂ (end_rule K.float c) (float_entry F l (entry_of (list_count F l) j)) (float_entry F r (entry_of (list_count F r) j)))

-- the range of two sheets in writing: 18, and then the chain of its columns
pub derived_is : (F : Form) (float : Bool) (c : Component) (type columns : ℕ) (l r : List ℕ)
    → in_writing F (range_nature F float c type columns l r)
    ≡ checked (evenness F columns l r) (columns_from (range_number float) (column_at F float c type l r) columns 0)
unfolding range_nature
derived_is F true c type columns l r =
    two_steps float_range (written_of F) (range_pair (end_rule K.float c) columns (entries F l as_float) (entries F r as_float))
    ∙ kind_is F as_float float_bits float_range_nature of_float float_bytes (end_rule K.float c) columns l r (column_at F true c type l r) (float_column F c type l r)
derived_is F false c type columns l r =
    two_steps whole_range (written_of F) (range_pair (whole_rule c type) columns (entries F l as_whole) (entries F r as_whole))
    ∙ kind_is F as_whole whole_bits whole_range_nature of_whole whole_bytes (whole_rule c type) columns l r (column_at F false c type l r) (whole_column F c type l r)
