-- What operands that passed their checks are known to be.
--     unary_columns, pair_columns, copy_columns    the output columns are within their limits
--     reached                                      15 has kept categories on the right from Modulo and Int Power
-- Assumes nothing.
use mathlib.Core.Path.{◌≡◌, refl, sym, subst}
use mathlib.Core.Bool.{Bool, true, false, cond}
use mathlib.Core.List.{List, [], ◌∷◌}
use mathlib.Core.Logic.{◌⊎◌, inl, inr, ⊎_elim}
use Prim.Native.Nat.{ℕ}
use lib.Dec.{T, eqb}
use Rattle.numbers.specs.Result.{check, first_failing}
use Rattle.base.specs.Form.{Form, byte_at, nature_at, is_range_nature}
use Rattle.base.specs.Sheet.{Fields, Nature, absent, whole_range, float_range, whole_lists, bool_lists, float_lists, text_lists}
use Rattle.base.specs.Decode.{as_float, as_whole, as_bits, entries, lists, text_in, fields_in, nature_in, decode}
use Rattle.base.specs.Checks.{fields_fail}
use Rattle.base.specs.Bounds.{whole_lowers_present}
use Rattle.base.specs.declared.Component.{Component}
use Rattle.shape.specs.Shape.{columns_of, columns_absent, widest}
use Rattle.deliveries.proofs.Columns.{Limited, columns_limited, widest_limited}
use Rattle.orders.specs.Orders.{unary_checks, pair_checks, bound_checks, copy_checks}
use Rattle.orders.proofs.Orders.{unary_numbered, pair_numbered, copy_numbered}
use Rattle.orders.proofs.Passing.{Passing, all_pass, pass_parts, bounds_int}
use Rattle.list_natures.specs.Code.{Reached}

-- ---- columns

pub unary_columns :
    (F : Form) (s : List ℕ) → fields_fail F s ≡ false → {x : Fields} {columns : ℕ} → x ≡ fields_in F s → columns ≡ columns_of x
    → first_failing (unary_checks x) ≡ 0 → Limited F columns
unary_columns F s h head width e =
    let passes : first_failing (unary_checks (fields_in F s)) ≡ 0 = rw head at e in
    rw (width, head) (columns_limited F s h (all_pass (unary_checks (fields_in F s)) (unary_numbered (fields_in F s)) passes).1.0)

module _ (F : Form) (left right : List ℕ) where
  pub pair_columns :
      fields_fail F left ≡ false → fields_fail F right ≡ false → first_failing (pair_checks (decode F left) (decode F right)) ≡ 0
      → {x y : Fields} {columns : ℕ} → x ≡ fields_in F left → y ≡ fields_in F right → columns ≡ widest x y → Limited F columns
  unfolding decode
  pair_columns h k e lh rh width =
      let l = decode F left in
      let r = decode F right in
      widest_limited F left right h k (all_pass (pair_checks l r) (pair_numbered l r) e).1.1.1.1.1.1.1.0 lh rh width

  module _ (c : Component) (e : first_failing (copy_checks c (decode F left) (decode F right)) ≡ 0) where
    copy_passes : Passing (bound_checks c (decode F left) (decode F right)) × Passing (check 11 (columns_absent (fields_in F left)) ∷ [])
    unfolding decode
    copy_passes =
        let l = decode F left in
        let r = decode F right in
        pass_parts (bound_checks c l r) (check 11 (columns_absent (fields_in F left)) ∷ [])
        (all_pass (copy_checks c l r) (copy_numbered l r c) e).1.1.1.1

    pub copy_columns : fields_fail F left ≡ false → {x : Fields} {columns : ℕ} → x ≡ fields_in F left → columns ≡ columns_of x → Limited F columns
    copy_columns h head width = rw (width, head) (columns_limited F left h copy_passes.1.0)

-- ---- 15 of Modulo and Int Power

-- `lower_int` gives a list only of a whole range
whole_is_range : (F : Form) (s : List ℕ) → whole_lowers_present (nature_in F s) ≡ true → is_range_nature (byte_at F nature_at s) ≡ true
unfolding nature_in whole_lowers_present
whole_is_range F s e = let k = byte_at F nature_at s in go (eqb k 1) (eqb k 2) (eqb k 3) (eqb k 4) (eqb k 5) (eqb k 6) (whole_range (entries F s as_whole)) refl e
  where
    go : (a b c d f g : Bool) (whole : Nature) → eqb (byte_at F nature_at s) 1 ≡ a
        → whole_lowers_present
        (cond a whole
        (cond b (float_range (entries F s as_float)) (cond c (whole_lists (lists F s as_whole)) (cond d (bool_lists (lists F s as_bits)) (cond f (float_lists (lists F s as_bits)) (cond g (text_lists (lists F s (text_in F s))) absent))))))
        ≡ true
        → is_range_nature (byte_at F nature_at s) ≡ true
    go true b c d f g whole h e = rw h
    go false true c d f g whole h e = absurd (subst T (sym e) tt)
    go false false true d f g whole h e = absurd (subst T (sym e) tt)
    go false false false true f g whole h e = absurd (subst T (sym e) tt)
    go false false false false true g whole h e = absurd (subst T (sym e) tt)
    go false false false false false true whole h e = absurd (subst T (sym e) tt)
    go false false false false false false whole h e = absurd (subst T (sym e) tt)

pub reached :
    (F : Form) (left right : List ℕ) (c : Component) {x : Fields} → x ≡ fields_in F left
    → first_failing (copy_checks c (decode F left) (decode F right)) ≡ 0
    → Reached F c x.data_type right
unfolding decode
reached F left right c h e =
    rw h
    (⊎_elim
    (λ x. inl x)
    (λ x. inr (whole_is_range F right x))
    (bounds_int (decode F left) (decode F right) c (copy_passes F left right c e).0))
