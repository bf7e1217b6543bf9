-- What every entry is asked, number by number. Assumes nothing.
use mathlib.Core.Path.{◌≡◌, refl}
use mathlib.Core.Bool.{Bool, true, false, cond}
use mathlib.Core.List.{List}
use Prim.Native.Nat.{ℕ}
use lib.Dec.{eqb}
use borrow.Author.Tests.{ne_eqb}
use Rattle.numbers.specs.Kind.{whole, float}
use Rattle.base.specs.Form.{Form, nature_at, byte_at, group_count, list_count}
use Rattle.base.specs.Sheet.{absent, whole_range, float_range, whole_lists, bool_lists, float_lists, text_lists, is_whole_range}
use Rattle.base.specs.Decode.{as_whole, as_float, as_bits, span_at, entries, lists, text_in, nature_in}
use Rattle.base.specs.Bounds.{every_entry}
use Rattle.base.specs.Checks.{holds_from}
use Rattle.base.proofs.Holding.{every_from}
use Rattle.bounds.specs.declared.Ask.{Ask}
use Rattle.bounds.specs.Asked.{asked, entry_asked}

module _ (F : Form) (s : List ℕ) (ask : Ask) where
  pub every_whole : every_entry (asked whole ask) (asked float ask) (whole_range (entries F s as_whole)) ≡ holds_from (list_count F s) 0 (entry_asked F ask false s)
  unfolding every_entry entries
  every_whole = every_from (asked whole ask) (span_at F s as_whole (group_count F s) (list_count F s)) (list_count F s) 0

  pub every_float : every_entry (asked whole ask) (asked float ask) (float_range (entries F s as_float)) ≡ holds_from (list_count F s) 0 (entry_asked F ask true s)
  unfolding every_entry entries
  every_float = every_from (asked float ask) (span_at F s as_float (group_count F s) (list_count F s)) (list_count F s) 0

  -- what is no range passes nothing
  pub no_range_asked : (byte_at F nature_at s ≡ 1 → ⊥) → (byte_at F nature_at s ≡ 2 → ⊥) → every_entry (asked whole ask) (asked float ask) (nature_in F s) ≡ false
  unfolding nature_in every_entry
  no_range_asked x y =
      let k = byte_at F nature_at s in
      rw (ne_eqb k 1 x, ne_eqb k 2 y) (go (eqb k 3) (eqb k 4) (eqb k 5) (eqb k 6))
    where
      go : (a b c d : Bool)
          → every_entry (asked whole ask) (asked float ask) (cond a (whole_lists (lists F s as_whole)) (cond b (bool_lists (lists F s as_bits)) (cond c (float_lists (lists F s as_bits)) (cond d (text_lists (lists F s (text_in F s))) absent))))
          ≡ false
      go true b c d = refl
      go false true c d = refl
      go false false true d = refl
      go false false false true = refl
      go false false false false = refl

module _ (F : Form) (s : List ℕ) where
  pub whole_range_is : is_whole_range (nature_in F s) ≡ eqb (byte_at F nature_at s) 1
  unfolding nature_in
  whole_range_is = let k = byte_at F nature_at s in go (eqb k 1) (eqb k 2) (eqb k 3) (eqb k 4) (eqb k 5) (eqb k 6)
    where
      go : (a b c d e f : Bool)
          → is_whole_range (cond a (whole_range (entries F s as_whole)) (cond b (float_range (entries F s as_float)) (cond c (whole_lists (lists F s as_whole)) (cond d (bool_lists (lists F s as_bits)) (cond e (float_lists (lists F s as_bits)) (cond f (text_lists (lists F s (text_in F s))) absent))))))
          ≡ a
      go true b c d e f = refl
      go false true c d e f = refl
      go false false true d e f = refl
      go false false false true e f = refl
      go false false false false true f = refl
      go false false false false false true = refl
      go false false false false false false = refl
