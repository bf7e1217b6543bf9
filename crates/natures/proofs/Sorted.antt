-- What two natures make, by their numbers.
--     both_sorts             two that are alike ranges or none
--     absent_left, absent_right, ranges_apart, unequal_ranges, both_ranges, both_lists    of two natures
--     alone_absent, alone_range, alone_lists    of one
-- Assumes nothing.
use mathlib.Core.Path.{◌≡◌, refl, sym, ap, ◌∙◌}
use mathlib.Core.Bool.{Bool, true, false, not, beq, ◌||◌}
use mathlib.Core.List.{List}
use Prim.Native.Nat.{ℕ}
use native.Mathlib.Omega.{arith}
use lib.IntN.{ℤ}
use lib.Ieee.{Float}
use lib.Dec.{eqb}
use borrow.Author.Tests.{eqb-true}
use Rattle.numbers.specs.Result.{Result, ok, refused}
use Rattle.numbers.specs.Kind.{Span, whole, float}
use Rattle.base.specs.Form.{Form, byte_at, nature_at, is_range_nature}
use Rattle.base.specs.Sheet.{Nature, absent, whole_range, float_range, whole_lists, bool_lists, float_lists, text_lists}
use Rattle.base.specs.Decode.{as_whole, as_float, nature_in, entries}
use Rattle.base.specs.Encode.{nature_number}
use Rattle.base.specs.Components.{family_of}
use Rattle.base.specs.declared.Component.{Component}
use Rattle.base.specs.declared.Component.TheVariants as C
use Rattle.base.proofs.Natures.{nature_whole_range, nature_float_range}
use Rattle.ends.specs.Ends.{end_rule}
use Rattle.ends.specs.Ranges.{whole_rule, range_nature}
use Rattle.ranges.proofs.Alone.{alone_is}
use Rattle.calls.specs.Natures.{lists_alone, whole_range_with, float_range_with, lists_with, two_natures, unary_nature}
use Rattle.list_codes.specs.Code.{has_rule}
use Rattle.list_codes.proofs.Numbers.{yes_no}

-- both are ranges, or neither is
pub both_sorts : (a b : Bool) → not (beq a b) ≡ false → b ≡ a
both_sorts true true e = refl
both_sorts true false e = absurd (yes_no e)
both_sorts false true e = absurd (yes_no e)
both_sorts false false e = refl

-- a range that is not float is whole
range_whole : (k : ℕ) → is_range_nature k ≡ true → eqb k 2 ≡ false → k ≡ 1
range_whole k y e = go (eqb k 1) refl (rw e at y)
  where
    go : (a : Bool) → eqb k 1 ≡ a → (a || false) ≡ true → k ≡ 1
    go true e h = eqb-true k 1 e
    go false e h = absurd (yes_no (sym h))

-- ---- by numbers alone

is_absent : (k : Nature) → nature_number k ≡ 0 → k ≡ absent
is_absent absent e = refl
is_absent (whole_range rs) e = absurd (omega arith)
is_absent (float_range rs) e = absurd (omega arith)
is_absent (whole_lists ls) e = absurd (omega arith)
is_absent (bool_lists ls) e = absurd (omega arith)
is_absent (float_lists ls) e = absurd (omega arith)
is_absent (text_lists ls) e = absurd (omega arith)

module _ (c : Component) (type columns : ℕ) (together : Nature → Nature → Result Nature) where
  pub absent_left : (l r : Nature) → nature_number l ≡ 0 → two_natures c type columns together l r ≡ ok absent
  unfolding two_natures
  absent_left l r e = ap (λ (k : Nature). two_natures c type columns together k r) (is_absent l e)

  with_absent : (l : Nature) → two_natures c type columns together l absent ≡ ok absent
  unfolding two_natures whole_range_with float_range_with lists_with
  with_absent absent = refl
  with_absent (whole_range rs) = refl
  with_absent (float_range rs) = refl
  with_absent (whole_lists ls) = refl
  with_absent (bool_lists ls) = refl
  with_absent (float_lists ls) = refl
  with_absent (text_lists ls) = refl

  pub absent_right : (l r : Nature) → nature_number r ≡ 0 → two_natures c type columns together l r ≡ ok absent
  absent_right l r e = ap (λ (k : Nature). two_natures c type columns together l k) (is_absent r e) ∙ with_absent l

  -- a range with what is no range
  whole_without : (xs : List (Span ℤ)) (r : Nature) → is_range_nature (nature_number r) ≡ false → whole_range_with c type columns together xs r ≡ ok absent
  unfolding whole_range_with
  whole_without xs absent e = refl
  whole_without xs (whole_range rs) e = absurd (yes_no e)
  whole_without xs (float_range rs) e = absurd (yes_no e)
  whole_without xs (whole_lists ls) e = refl
  whole_without xs (bool_lists ls) e = refl
  whole_without xs (float_lists ls) e = refl
  whole_without xs (text_lists ls) e = refl

  float_without : (xs : List (Span Float)) (r : Nature) → is_range_nature (nature_number r) ≡ false → float_range_with c type columns together xs r ≡ ok absent
  unfolding float_range_with
  float_without xs absent e = refl
  float_without xs (whole_range rs) e = absurd (yes_no e)
  float_without xs (float_range rs) e = absurd (yes_no e)
  float_without xs (whole_lists ls) e = refl
  float_without xs (bool_lists ls) e = refl
  float_without xs (float_lists ls) e = refl
  float_without xs (text_lists ls) e = refl

  range_with_lists : (l r : Nature) → is_range_nature (nature_number l) ≡ true → is_range_nature (nature_number r) ≡ false → two_natures c type columns together l r ≡ ok absent
  unfolding two_natures
  range_with_lists absent r y n = refl
  range_with_lists (whole_range xs) r y n = whole_without xs r n
  range_with_lists (float_range xs) r y n = float_without xs r n
  range_with_lists (whole_lists ls) r y n = absurd (yes_no (sym y))
  range_with_lists (bool_lists ls) r y n = absurd (yes_no (sym y))
  range_with_lists (float_lists ls) r y n = absurd (yes_no (sym y))
  range_with_lists (text_lists ls) r y n = absurd (yes_no (sym y))

  -- lists with a range, and with lists
  lists_ranged : (l r : Nature) → is_range_nature (nature_number r) ≡ true → lists_with c type columns together l r ≡ ok absent
  unfolding lists_with
  lists_ranged l absent e = refl
  lists_ranged l (whole_range rs) e = refl
  lists_ranged l (float_range rs) e = refl
  lists_ranged l (whole_lists ls) e = absurd (yes_no (sym e))
  lists_ranged l (bool_lists ls) e = absurd (yes_no (sym e))
  lists_ranged l (float_lists ls) e = absurd (yes_no (sym e))
  lists_ranged l (text_lists ls) e = absurd (yes_no (sym e))

  lists_with_range : (l r : Nature) → is_range_nature (nature_number l) ≡ false → is_range_nature (nature_number r) ≡ true → two_natures c type columns together l r ≡ ok absent
  unfolding two_natures
  lists_with_range absent r n y = refl
  lists_with_range (whole_range xs) r n y = absurd (yes_no n)
  lists_with_range (float_range xs) r n y = absurd (yes_no n)
  lists_with_range (whole_lists ls) r n y = lists_ranged (whole_lists ls) r y
  lists_with_range (bool_lists ls) r n y = lists_ranged (bool_lists ls) r y
  lists_with_range (float_lists ls) r n y = lists_ranged (float_lists ls) r y
  lists_with_range (text_lists ls) r n y = lists_ranged (text_lists ls) r y

  pub ranges_apart : (l r : Nature) (a b : Bool) → is_range_nature (nature_number l) ≡ a → is_range_nature (nature_number r) ≡ b → not (beq a b) ≡ true → two_natures c type columns together l r ≡ ok absent
  ranges_apart l r true true x y d = absurd (yes_no (sym d))
  ranges_apart l r true false x y d = range_with_lists l r x y
  ranges_apart l r false true x y d = lists_with_range l r x y
  ranges_apart l r false false x y d = absurd (yes_no (sym d))

  lists_listed : (l r : Nature) → (nature_number r ≡ 0 → ⊥) → is_range_nature (nature_number r) ≡ false → lists_with c type columns together l r ≡ together l r
  unfolding lists_with
  lists_listed l absent p n = absurd (p refl)
  lists_listed l (whole_range rs) p n = absurd (yes_no n)
  lists_listed l (float_range rs) p n = absurd (yes_no n)
  lists_listed l (whole_lists ls) p n = refl
  lists_listed l (bool_lists ls) p n = refl
  lists_listed l (float_lists ls) p n = refl
  lists_listed l (text_lists ls) p n = refl

  pub both_lists : (l r : Nature) → (nature_number l ≡ 0 → ⊥) → is_range_nature (nature_number l) ≡ false → (nature_number r ≡ 0 → ⊥) → is_range_nature (nature_number r) ≡ false
      → two_natures c type columns together l r ≡ together l r
  unfolding two_natures
  both_lists absent r p n q m = absurd (p refl)
  both_lists (whole_range xs) r p n q m = absurd (yes_no n)
  both_lists (float_range xs) r p n q m = absurd (yes_no n)
  both_lists (whole_lists ls) r p n q m = lists_listed (whole_lists ls) r q m
  both_lists (bool_lists ls) r p n q m = lists_listed (bool_lists ls) r q m
  both_lists (float_lists ls) r p n q m = lists_listed (float_lists ls) r q m
  both_lists (text_lists ls) r p n q m = lists_listed (text_lists ls) r q m

  -- one range whole, the other float
  whole_other : (xs : List (Span ℤ)) (r : Nature) → is_range_nature (nature_number r) ≡ true → (1 ≡ nature_number r → ⊥) → whole_range_with c type columns together xs r ≡ refused 17
  unfolding whole_range_with
  whole_other xs absent y d = absurd (yes_no (sym y))
  whole_other xs (whole_range rs) y d = absurd (d refl)
  whole_other xs (float_range rs) y d = refl
  whole_other xs (whole_lists ls) y d = absurd (yes_no (sym y))
  whole_other xs (bool_lists ls) y d = absurd (yes_no (sym y))
  whole_other xs (float_lists ls) y d = absurd (yes_no (sym y))
  whole_other xs (text_lists ls) y d = absurd (yes_no (sym y))

  float_other : (xs : List (Span Float)) (r : Nature) → is_range_nature (nature_number r) ≡ true → (2 ≡ nature_number r → ⊥) → float_range_with c type columns together xs r ≡ refused 17
  unfolding float_range_with
  float_other xs absent y d = absurd (yes_no (sym y))
  float_other xs (whole_range rs) y d = refl
  float_other xs (float_range rs) y d = absurd (d refl)
  float_other xs (whole_lists ls) y d = absurd (yes_no (sym y))
  float_other xs (bool_lists ls) y d = absurd (yes_no (sym y))
  float_other xs (float_lists ls) y d = absurd (yes_no (sym y))
  float_other xs (text_lists ls) y d = absurd (yes_no (sym y))

  pub unequal_ranges : (l r : Nature) → is_range_nature (nature_number l) ≡ true → is_range_nature (nature_number r) ≡ true → (nature_number l ≡ nature_number r → ⊥)
      → two_natures c type columns together l r ≡ refused 17
  unfolding two_natures
  unequal_ranges absent r x y d = absurd (yes_no (sym x))
  unequal_ranges (whole_range xs) r x y d = whole_other xs r y d
  unequal_ranges (float_range xs) r x y d = float_other xs r y d
  unequal_ranges (whole_lists ls) r x y d = absurd (yes_no (sym x))
  unequal_ranges (bool_lists ls) r x y d = absurd (yes_no (sym x))
  unequal_ranges (float_lists ls) r x y d = absurd (yes_no (sym x))
  unequal_ranges (text_lists ls) r x y d = absurd (yes_no (sym x))

  -- two ranges of one kind, of two sheets
  module _ (F : Form) (left right : List ℕ) where
    both_whole : byte_at F nature_at left ≡ 1 → byte_at F nature_at right ≡ 1
        → two_natures c type columns together (nature_in F left) (nature_in F right) ≡ range_nature F false c type columns left right
    unfolding two_natures whole_range_with range_nature
    both_whole e h = rw (nature_whole_range F left e, nature_whole_range F right h)

    both_float : byte_at F nature_at left ≡ 2 → byte_at F nature_at right ≡ 2
        → two_natures c type columns together (nature_in F left) (nature_in F right) ≡ range_nature F true c type columns left right
    unfolding two_natures float_range_with range_nature
    both_float e h = rw (nature_float_range F left e, nature_float_range F right h)

    pub both_ranges : is_range_nature (byte_at F nature_at left) ≡ true → byte_at F nature_at left ≡ byte_at F nature_at right
        → two_natures c type columns together (nature_in F left) (nature_in F right)
        ≡ range_nature F (eqb (byte_at F nature_at left) 2) c type columns left right
    both_ranges y same = go (eqb k 2) refl
      where
        k : ℕ
        k = byte_at F nature_at left

        go : (b : Bool) → eqb k 2 ≡ b → two_natures c type columns together (nature_in F left) (nature_in F right) ≡ range_nature F b c type columns left right
        go true e = let two = eqb-true k 2 e in both_float two (sym same ∙ two)
        go false e = let one = range_whole k y e in both_whole one (sym same ∙ one)

-- ---- one nature

module _ (limit : ℕ) (c : Component) (type columns : ℕ) where
  pub alone_absent : (k : Nature) → nature_number k ≡ 0 → unary_nature limit c type columns k ≡ ok absent
  unfolding unary_nature
  alone_absent k e = ap (unary_nature limit c type columns) (is_absent k e)

  pub alone_lists : (k : Nature) → (nature_number k ≡ 0 → ⊥) → is_range_nature (nature_number k) ≡ false → unary_nature limit c type columns k ≡ lists_alone limit c type columns k
  unfolding unary_nature
  alone_lists absent p n = absurd (p refl)
  alone_lists (whole_range rs) p n = absurd (yes_no n)
  alone_lists (float_range rs) p n = absurd (yes_no n)
  alone_lists (whole_lists ls) p n = refl
  alone_lists (bool_lists ls) p n = refl
  alone_lists (float_lists ls) p n = refl
  alone_lists (text_lists ls) p n = refl

-- Modulo alone has another rule for whole ranges than its end rule
ruled_whole : (c : Component) (type : ℕ) → has_rule (family_of c) ≡ true → whole_rule c type ≡ end_rule whole c
unfolding whole_rule
ruled_whole C.Abs type h = refl
ruled_whole C.Add type h = refl
ruled_whole C.Subtract type h = refl
ruled_whole C.Multiply type h = refl
ruled_whole C.Divide type h = refl
ruled_whole C.Modulo type h = absurd (yes_no (sym h))
ruled_whole C.Log type h = absurd (yes_no (sym h))
ruled_whole C.Power type h = absurd (yes_no (sym h))
ruled_whole C.Negative type h = refl
ruled_whole C.Pool type h = absurd (yes_no (sym h))

module _ (limit : ℕ) (c : Component) (type columns : ℕ) (has : has_rule (family_of c) ≡ true) (F : Form) (s : List ℕ) where
  alone_whole : byte_at F nature_at s ≡ 1 → unary_nature limit c type columns (nature_in F s) ≡ range_nature F false c type columns s s
  unfolding unary_nature range_nature
  alone_whole e = rw (nature_whole_range F s e, ruled_whole c type has, alone_is (end_rule whole c) columns (entries F s as_whole))

  alone_float : byte_at F nature_at s ≡ 2 → unary_nature limit c type columns (nature_in F s) ≡ range_nature F true c type columns s s
  unfolding unary_nature range_nature
  alone_float e = rw (nature_float_range F s e, alone_is (end_rule float c) columns (entries F s as_float))

  pub alone_range : is_range_nature (byte_at F nature_at s) ≡ true
      → unary_nature limit c type columns (nature_in F s) ≡ range_nature F (eqb (byte_at F nature_at s) 2) c type columns s s
  alone_range y = go (eqb k 2) refl
    where
      k : ℕ
      k = byte_at F nature_at s

      go : (b : Bool) → eqb k 2 ≡ b → unary_nature limit c type columns (nature_in F s) ≡ range_nature F b c type columns s s
      go true e = alone_float (eqb-true k 2 e)
      go false e = alone_whole (range_whole k y e)
