-- The nature that a sheet's byte names, and check 5 of a range. Assumes nothing.
use mathlib.Core.Path.{◌≡◌, refl, sym, subst, ap}
use mathlib.Core.Bool.{Bool, true, false, cond, not, ◌||◌}
use mathlib.Core.List.{List}
use Prim.Native.Nat.{ℕ}
use native.Mathlib.Omega.{arith}
use lib.Dec.{T, eqb}
use borrow.Author.Tests.{eqb-true}
use Rattle.base.specs.Form.{Form, nature_at, byte_at, group_count, list_count, absent_nature, whole_range_nature, float_range_nature, whole_lists_nature, bool_lists_nature, float_lists_nature, text_lists_nature, is_range_nature}
use Rattle.base.specs.Sheet.{Nature, absent, whole_range, float_range, whole_lists, bool_lists, float_lists, text_lists}
use Rattle.base.specs.Decode.{as_whole, as_float, as_bits, span_at, entries, lists, text_in, nature_in}
use Rattle.base.specs.Checks.{holds_from, bounds_fail, whole_holds, float_holds}
use Rattle.base.specs.Entries.{entry_holds}
use Rattle.base.proofs.Flags.{or_no}
use Rattle.base.proofs.Holding.{every_from}

module _ (F : Form) (s : List ℕ) where
  -- by the byte
  pub nature_whole_range : byte_at F nature_at s ≡ whole_range_nature → nature_in F s ≡ whole_range (entries F s as_whole)
  unfolding nature_in
  nature_whole_range e = rw e

  pub nature_float_range : byte_at F nature_at s ≡ float_range_nature → nature_in F s ≡ float_range (entries F s as_float)
  unfolding nature_in
  nature_float_range e = rw e

  pub nature_whole_lists : byte_at F nature_at s ≡ whole_lists_nature → nature_in F s ≡ whole_lists (lists F s as_whole)
  unfolding nature_in
  nature_whole_lists e = rw e

  pub nature_bool_lists : byte_at F nature_at s ≡ bool_lists_nature → nature_in F s ≡ bool_lists (lists F s as_bits)
  unfolding nature_in
  nature_bool_lists e = rw e

  pub nature_float_lists : byte_at F nature_at s ≡ float_lists_nature → nature_in F s ≡ float_lists (lists F s as_bits)
  unfolding nature_in
  nature_float_lists e = rw e

  pub nature_text_lists : byte_at F nature_at s ≡ text_lists_nature → nature_in F s ≡ text_lists (lists F s (text_in F s))
  unfolding nature_in
  nature_text_lists e = rw e

  pub nature_absent : byte_at F nature_at s ≡ absent_nature → nature_in F s ≡ absent
  unfolding nature_in
  nature_absent e = rw e

  -- check 5 of a range is a test of its entries, number by number
  range_fails_by : (a b : Bool) (rest : Nature) → eqb (byte_at F nature_at s) whole_range_nature ≡ a → eqb (byte_at F nature_at s) float_range_nature ≡ b → (a || b) ≡ true
      → bounds_fail (cond a (whole_range (entries F s as_whole)) (cond b (float_range (entries F s as_float)) rest)) ≡ not (holds_from (list_count F s) 0 (entry_holds F b s))
  unfolding bounds_fail entries
  range_fails_by true true rest x y h =
      let one = eqb-true (byte_at F nature_at s) whole_range_nature x in
      let two = eqb-true (byte_at F nature_at s) float_range_nature y in
      absurd (omega arith)
  range_fails_by true false rest x y h = ap not (every_from whole_holds (span_at F s as_whole (group_count F s) (list_count F s)) (list_count F s) 0)
  range_fails_by false true rest x y h = ap not (every_from float_holds (span_at F s as_float (group_count F s) (list_count F s)) (list_count F s) 0)
  range_fails_by false false rest x y h = absurd (subst T (sym h) tt)

  pub range_fails : is_range_nature (byte_at F nature_at s) ≡ true
      → bounds_fail (nature_in F s) ≡ not (holds_from (list_count F s) 0 (entry_holds F (eqb (byte_at F nature_at s) float_range_nature) s))
  unfolding nature_in
  range_fails h =
      let k = byte_at F nature_at s in
      range_fails_by (eqb k whole_range_nature) (eqb k float_range_nature) _ refl refl h

  -- what is no range passes
  pub no_range_passes : is_range_nature (byte_at F nature_at s) ≡ false → bounds_fail (nature_in F s) ≡ false
  unfolding nature_in bounds_fail
  no_range_passes h =
      let k = byte_at F nature_at s in
      let no = or_no (eqb k whole_range_nature) (eqb k float_range_nature) h in
      rw (no.0, no.1) (go (eqb k whole_lists_nature) (eqb k bool_lists_nature) (eqb k float_lists_nature) (eqb k text_lists_nature))
    where
      go : (a b c d : Bool)
          → bounds_fail (cond a (whole_lists (lists F s as_whole)) (cond b (bool_lists (lists F s as_bits)) (cond c (float_lists (lists F s as_bits)) (cond d (text_lists (lists F s (text_in F s))) absent)))) ≡ false
      go true b c d = refl
      go false true c d = refl
      go false false true d = refl
      go false false false true = refl
      go false false false false = refl
