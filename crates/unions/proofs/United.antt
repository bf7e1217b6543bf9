-- What the code unites is what Pool's lists are: whole lists as they are, and bool lists by their values as whole numbers.
--     united_is       the columns united, from the first on
--     united_natures  the same, as the nature that is derived and written
-- Assumes nothing.
use mathlib.Core.Path.{◌≡◌, refl, sym, ap, ap₂, ◌∙◌}
use mathlib.Core.Bool.{Bool, false, cond}
use mathlib.Core.Logic.{⊎_elim}
use mathlib.Core.List.{List, map}
use Prim.Native.Nat.{ℕ, ◌≤◌, ◌<◌}
use native.Mathlib.Omega.{arith}
use lib.IntN.{ℤ, pos}
use lib.ListN.{length, length-map}
use lib.Dec.{eqb, ltb}
use mir.Syntax.{w64}
use mir.Facts.{to_z_pos}
use Rattle.numbers.specs.Result.{Result, ok, refused, and_then}
use Rattle.numbers.specs.Kind.{eq_z}
use Rattle.base.specs.Form.{Form, group_count, list_count, category_count, byte_at, nature_at, whole_lists_nature, bool_lists_nature}
use Rattle.base.specs.Sheet.{Nature, whole_lists, bool_lists}
use Rattle.base.specs.Decode.{as_whole, as_bits, category_at, lists, nature_in}
use Rattle.base.specs.Checks.{fields_fail}
use Rattle.base.specs.Encode.{whole_bits}
use Rattle.base.proofs.Natures.{nature_whole_lists, nature_bool_lists}
use Rattle.base.proofs.Permitted.{permitted, lists_tested, bool_small}
use Rattle.base.proofs.Lists.{lists_map, total_map}
use Rattle.writer.specs.Written.{in_writing}
use Rattle.category_lists.specs.Categories.{union, united, kept_to}
use Rattle.category_lists.specs.Columnwise.{each_from, spread_of, lesser_of}
use Rattle.category_lists.specs.Answers.{lists_written}
use Rattle.category_lists.proofs.Operands.{lists_length}
use Rattle.category_lists.proofs.Columnwise.{pairs_are}
use Rattle.category_lists.proofs.Gathering.{kept_written}
use Rattle.calls.specs.Natures.{united_nature}
use Rattle.unions.specs.Code.{Uniting, union_of}
use Rattle.unions.proofs.Mapped.{united_map, numbers_map, values_map}

united_is : {X : Type 0} (same : X → X → Bool) (columns : ℕ) (ls ms : List (List X)) (n : ℕ) → n ≡ lesser_of (spread_of columns (length ls)) (spread_of columns (length ms))
    → each_from (union_of same ls ms) n 0 ≡ united same columns ls ms
unfolding united
united_is same columns ls ms n e = pairs_are same (union same) columns ls ms n e

-- ---- bool lists

module _ (F : Form) (s : List ℕ) (fields : fields_fail F s ≡ false) (bools : byte_at F nature_at s ≡ bool_lists_nature) where
  bools_whole : lists F s as_whole ≡ map (map pos) (lists F s as_bits)
  bools_whole = lists_map F s as_bits as_whole pos (λ k h. let low = small k h in to_z_pos w64 (omega arith))
    where
      small : (k : ℕ) → k < category_count F s → category_at F s (group_count F s) (category_count F s) k ≤ 1
      small = bool_small F s (lists_tested F s (permitted F s fields).nature (rw bools) (rw bools)) bools

-- ---- the nature derived, in writing

module _ (F : Form) where
  whole_written : (g : Result (List (List ℤ))) → lists_written F whole_lists_nature g ≡ in_writing F (and_then (and_then g (λ ns. ok (whole_lists ns))) (kept_to F.category_limit))
  whole_written (ok ns) = kept_written F (whole_lists ns)
  whole_written (refused k) = refl

  bools_written : (g : Result (List (List ℕ)))
      → lists_written F bool_lists_nature (and_then g (λ ns. ok (map (map pos) ns))) ≡ in_writing F (and_then (and_then g (λ ns. ok (bool_lists ns))) (kept_to F.category_limit))
  bools_written (ok ns) =
      (λ i. cond (ltb F.category_limit (total_map pos ns i)) (refused 26)
      (ok (record {
        nature = bool_lists_nature;
        entries = length-map ns (map pos) i;
        values = total_map pos ns i;
        text = 0;
        first = numbers_map pos F 0 ns i;
        second = values_map pos whole_bits ns i;
      })))
      ∙ kept_written F (bool_lists ns)
  bools_written (refused k) = refl

module _ {F : Form} {left right : List ℕ} (u : Uniting F left right) (columns n : ℕ) (size : n ≡ lesser_of (spread_of columns (list_count F left)) (spread_of columns (list_count F right))) where
  -- by the whole numbers that the code reads
  read : each_from (union_of eq_z (lists F left as_whole) (lists F right as_whole)) n 0 ≡ united eq_z columns (lists F left as_whole) (lists F right as_whole)
  read =
      united_is eq_z columns (lists F left as_whole) (lists F right as_whole) n
      (size ∙ ap₂ (λ (l r : ℕ). lesser_of (spread_of columns l) (spread_of columns r)) (sym (lists_length F left as_whole)) (sym (lists_length F right as_whole)))

  abbrev Goal : ℕ → Nature → Nature → Type 0
  Goal nature l r =
      lists_written F nature (each_from (union_of eq_z (lists F left as_whole) (lists F right as_whole)) n 0)
      ≡ in_writing F (and_then (united_nature columns l r) (kept_to F.category_limit))

  pub united_natures : Goal (byte_at F nature_at left) (nature_in F left) (nature_in F right)
  united_natures = ⊎_elim wholes bools u.joins
    where
      wholes : byte_at F nature_at left ≡ whole_lists_nature → Goal (byte_at F nature_at left) (nature_in F left) (nature_in F right)
      wholes e =
          rw (nature_whole_lists F left e, nature_whole_lists F right (sym u.same ∙ e), e)
          (ap (lists_written F whole_lists_nature) read ∙ whole_written F (united eq_z columns (lists F left as_whole) (lists F right as_whole)))

      bools : byte_at F nature_at left ≡ bool_lists_nature → Goal (byte_at F nature_at left) (nature_in F left) (nature_in F right)
      bools e =
          let f = sym u.same ∙ e in
          let ls = lists F left as_bits in
          let ms = lists F right as_bits in
          rw (nature_bool_lists F left e, nature_bool_lists F right f, e)
          (ap (lists_written F bool_lists_nature)
          (read
          ∙ ap₂ (united eq_z columns) (bools_whole F left u.left_fields e) (bools_whole F right u.right_fields f)
          ∙ united_map eqb eq_z pos (λ a b. refl) columns ls ms)
          ∙ bools_written F (united eqb columns ls ms))
