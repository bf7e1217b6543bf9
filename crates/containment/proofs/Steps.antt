-- One step on sheets: good operands of a step that is accepted make a good node. Assumes nothing.
use mathlib.Core.Path.{◌≡◌, refl, sym, ap, subst, ◌∙◌}
use mathlib.Core.Logic.{◌⊎◌, inl, inr, ⊎_elim}
use mathlib.Core.Option.{Option, some}
use Prim.Native.Nat.{ℕ, max, ◌≤◌, ◌<◌}
use native.Mathlib.Omega.{arith}
use lib.IntN.{ℤ}
use lib.ListN.{length}
use Rattle.numbers.specs.Kind.{Span}
use Rattle.numbers.specs.Result.{ok, checked}
use Rattle.numbers.proofs.Results.{ok_same, then_ok_inv}
use Rattle.base.specs.Form.{Form}
use Rattle.base.specs.Sheet.{Sheet, Nature}
use Rattle.base.specs.declared.Component.{Component}
use Rattle.base.specs.declared.Component.TheVariants as C
use Rattle.std.specs.declared.option.Option.TheVariants as N
use Rattle.shape.specs.Shape.{columns_of, widest, rows_sum}
use Rattle.orders.specs.Orders.{unary_checks, pair_checks, bound_checks, copy_checks, last_checks, pool_checks}
use Rattle.shape.specs.Fields.{pair_fields, copy_fields, pool_fields, pair_sheet, copy_sheet, pool_sheet, unary_sheet}
use Rattle.calls.specs.Natures.{binary_nature, pool_nature, unary_nature}
use Rattle.category_lists.specs.Categories.{kept}
use Rattle.calls.specs.Derive.{derive_unary, derive_pair, derive_copy, derive_pool, derive}
use Rattle.derived.proofs.Answers.{some_same, checked_rest}
use Rattle.containment.specs.Exact.{Side, Results, exact}
use Rattle.containment.specs.Demand.{ColumnsMatch, Suits, OffZero}
use Rattle.containment.specs.Asks.{Asks}
use Rattle.containment.specs.Good.{Fitting, Spread, Admitted, Good, step_of}
use Rattle.containment.proofs.Lists.{kept_ok}
use Rattle.containment.proofs.Natures.{Derived, binary_derived, unary_derived, pool_derived}
use Rattle.containment.proofs.Nodes.{Reaches, Serves, off_any, serves_reaches, serves_spread, columns_are, good_step}
use Rattle.containment.proofs.Passed.{bounds_passed, modulo_spread, modulo_says, power_spread, power_says, log_never}

-- ---- column counts that match

abbrev Matching : ℕ → ℕ → Type 0
Matching m n = (m ≡ n) ⊎ ((m ≡ 1) ⊎ (n ≡ 1))

by_match : {m n : ℕ} {A : Type 0} → Matching m n → (m ≡ n → A) → (m ≡ 1 → A) → (n ≡ 1 → A) → A
by_match {A} w f g h = ⊎_elim f (λ v. ⊎_elim {C = A} g h v) w

serves_left : {m n k : ℕ} → Matching m n → 1 ≤ m → 1 ≤ n → k ≡ max m n → Serves m k
serves_left w o p e = by_match w (λ h. inl (omega arith)) (λ h. inr h) (λ h. inl (omega arith))

serves_right : {m n k : ℕ} → Matching m n → 1 ≤ m → 1 ≤ n → k ≡ max m n → Serves n k
serves_right w o p e = by_match w (λ h. inl (omega arith)) (λ h. inl (omega arith)) (λ h. inr h)

-- where the left's columns are the node's
reaches_right : {m n : ℕ} (j : ℕ) → Matching m n → 1 ≤ n → j < m → Reaches n j
reaches_right j w p i = by_match w (λ h. inl (omega arith)) (λ h. inl (omega arith)) (λ h. inr h)

module _ (side : Side) (F : Form) (c : Component) (l r s : Sheet) (xs ys : Results) (g : Good l xs) (h : Good r ys) (w : ColumnsMatch l r) where
  matching : Matching (length xs) (length ys)
  matching =
      ⊎_elim
      (λ (e : l.fields.columns ≡ r.fields.columns). inl (some_same (sym g.columns ∙ e ∙ h.columns)))
      (λ v.
      inr
      (⊎_elim
      (λ (e : l.fields.columns ≡ some 1). inl (some_same (sym g.columns ∙ e)))
      (λ (e : r.fields.columns ≡ some 1). inr (some_same (sym h.columns ∙ e)))
      v))
      w

  -- ---- 2 to 5, and 10: the greater column count

  wide : ℕ
  wide = widest l.fields r.fields

  wide_good : (t : Sheet) → t.fields.columns ≡ some wide
      → (Spread l.nature wide → Spread r.nature wide → Derived side c wide l.nature r.nature t.nature)
      → ((j : ℕ) → Reaches (length ys) j → Admitted c r.nature j) → Good t (step_of side c t xs ys)
  unfolding wide
  wide_good t is d k =
      let p = columns_are g in
      let q = columns_are h in
      let o = g.at_least_one in
      let u = h.at_least_one in
      let n : wide ≡ max (length xs) (length ys) = ap (λ (m : ℕ). max m (columns_of r.fields)) p ∙ ap (λ (m : ℕ). max (length xs) m) q in
      let a = serves_left matching o u n in
      let b = serves_right matching o u n in
      good_step side c l r t xs ys wide g h is (omega arith)
      (d (serves_spread l.nature a g.fits) (serves_spread r.nature b h.fits))
      (λ j i. serves_reaches j a i) (λ j i. serves_reaches j b i) (λ j i. k j (serves_reaches j b i))

  pair_good : derive_pair F c l r ≡ ok s → ((j : ℕ) → Reaches (length ys) j → Admitted c r.nature j) → Good s (step_of side c s xs ys)
  unfolding derive_pair pair_fields wide
  pair_good e k =
      let t = then_ok_inv (binary_nature F c l.fields.data_type wide l.nature r.nature) _ (checked_rest (pair_checks l r) _ e) in
      subst (λ (s : Sheet). Good s (step_of side c s xs ys)) (ok_same t.after)
      (wide_good (pair_sheet c l r t.value) refl
      (λ a b. binary_derived side c l.fields.data_type wide F l.nature r.nature a b t.is) k)

  -- ---- 6 to 8, and 1 and 9: the left's columns

  reach_left : (j : ℕ) → j < columns_of l.fields → Reaches (length xs) j
  reach_left j i = let p = columns_are g in inl (omega arith)

  reach_right : (j : ℕ) → j < columns_of l.fields → Reaches (length ys) j
  reach_right j i = let p = columns_are g in reaches_right j matching h.at_least_one (omega arith)

  left_columns : l.fields.columns ≡ some (columns_of l.fields)
  left_columns = g.columns ∙ ap some (sym (columns_are g))

  left_one : 1 ≤ columns_of l.fields
  left_one = let p = columns_are g in let o = g.at_least_one in omega arith

  left_spread : Spread l.nature (columns_of l.fields)
  left_spread = serves_spread l.nature (inl (sym (columns_are g))) g.fits

  copy_good : derive_copy F c l r ≡ ok s → Spread r.nature (columns_of l.fields)
      → ((j : ℕ) → Reaches (length ys) j → Admitted c r.nature j) → Good s (step_of side c s xs ys)
  unfolding derive_copy copy_fields
  copy_good e p k =
      let n = binary_nature F c l.fields.data_type (columns_of l.fields) l.nature r.nature in
      let t = then_ok_inv n _ (checked_rest (copy_checks c l r) _ e) in
      subst (λ (s : Sheet). Good s (step_of side c s xs ys)) (ok_same (checked_rest (last_checks l r) (ok (copy_sheet l r t.value)) t.after))
      (good_step side c l r (copy_sheet l r t.value) xs ys (columns_of l.fields) g h left_columns left_one
      (binary_derived side c l.fields.data_type (columns_of l.fields) F l.nature r.nature left_spread p t.is)
      reach_left reach_right (λ j i. k j (reach_right j i)))

  unary_good : derive_unary F c l ≡ ok s → ((o : Option (Span ℤ)) → Asks c o) → ((a b : ℤ) → exact side c a a ≡ exact side c a b)
      → ((j : ℕ) → Admitted c r.nature j) → Good s (step_of side c s xs ys)
  unfolding derive_unary
  unary_good e asks left k =
      let t = then_ok_inv (unary_nature F.category_limit c l.fields.data_type (columns_of l.fields) l.nature) _ (checked_rest (unary_checks l.fields) _ e) in
      subst (λ (s : Sheet). Good s (step_of side c s xs ys)) (ok_same t.after)
      (good_step side c l r (unary_sheet l t.value) xs ys (columns_of l.fields) g h left_columns left_one
      (unary_derived side c l.fields.data_type (columns_of l.fields) F.category_limit r.nature asks left l.nature left_spread t.is)
      reach_left reach_right (λ j i. k j))

-- ---- 10: the side that the row takes

pool_good : (side : Side) (F : Form) (l r s : Sheet) (xs ys : Results) → Good l xs → Good r ys → ColumnsMatch l r
    → derive_pool F C.Pool l r ≡ ok s → Good s (step_of side C.Pool s xs ys)
unfolding derive_pool pool_fields wide
pool_good side F l r s xs ys g h w e =
    let n = widest l.fields r.fields in
    let t = then_ok_inv (pool_nature C.Pool l.fields.data_type n l.nature r.nature) _ (checked_rest (pool_checks l r) _ e) in
    let rows = then_ok_inv (rows_sum l.fields.rows r.fields.rows) _ t.after in
    let k = then_ok_inv (kept F t.value) _ rows.after in
    subst (λ (s : Sheet). Good s (step_of side C.Pool s xs ys)) (ok_same k.after)
    (wide_good side F C.Pool l r s xs ys g h w (pool_sheet rows.value l r k.value) refl
    (λ a b.
    subst (λ (m : Nature). Derived side C.Pool n l.nature r.nature m) (kept_ok F t.value k.is)
    (pool_derived side l.fields.data_type n l.nature r.nature a b t.is))
    (λ j i. tt))

-- ---- every component

-- the checks of a component's own, passed
copy_passed : (F : Form) (c : Component) (l r s : Sheet) → derive_copy F c l r ≡ ok s → checked (bound_checks c l r) (ok s) ≡ ok s
unfolding derive_copy
copy_passed F c l r s e = bounds_passed c l r _ e

-- demand 3's premise on the divisor, at any column that the divisor's node reaches
divisor_off : (r : Sheet) (ys : Results) → Good r ys → ((j : ℕ) → j < columns_of r.fields → OffZero r.nature j)
    → (j : ℕ) → Reaches (length ys) j → OffZero r.nature j
divisor_off r ys h u j w =
    let q = columns_are h in
    ⊎_elim
    (λ (i : j < length ys). u j (omega arith))
    (λ (i : length ys ≡ 1). off_any r.nature 0 j (subst (λ (n : ℕ). Fitting r.nature n) i h.fits) (u 0 (omega arith)))
    w

-- every column of the step has an exact result, and it keeps to what the derived sheet states
pub step_good : (side : Side) (F : Form) (c : Component) (l r s : Sheet) (xs ys : Results) → derive F c l r ≡ ok s
    → Good l xs → Good r ys → ColumnsMatch l r → Suits (N.Some c) l r → Good s (step_of side c s xs ys)
unfolding derive exact
step_good side F C.Abs l r s xs ys e g h w u = unary_good side F C.Abs l r s xs ys g h w e (λ o. tt) (λ a b. refl) (λ j. tt)
step_good side F C.Add l r s xs ys e g h w u = pair_good side F C.Add l r s xs ys g h w e (λ j i. tt)
step_good side F C.Subtract l r s xs ys e g h w u = pair_good side F C.Subtract l r s xs ys g h w e (λ j i. tt)
step_good side F C.Multiply l r s xs ys e g h w u = pair_good side F C.Multiply l r s xs ys g h w e (λ j i. tt)
step_good side F C.Divide l r s xs ys e g h w u = pair_good side F C.Divide l r s xs ys g h w e (divisor_off r ys h u)
step_good side F C.Modulo l r s xs ys e g h w u =
    let p = copy_passed F C.Modulo l r s e in
    copy_good side F C.Modulo l r s xs ys g h w e
    (modulo_spread l r (length ys) h.fits (columns_of l.fields) p)
    (λ j i. modulo_says l r (length ys) h.fits j i p)
step_good side F C.Log l r s xs ys e g h w u =
    absurd (log_never l r (length ys) h.fits (length xs) g.fits (copy_passed F C.Log l r s e))
step_good side F C.Power l r s xs ys e g h w u =
    let p = copy_passed F C.Power l r s e in
    copy_good side F C.Power l r s xs ys g h w e
    (power_spread l r (length ys) h.fits u.0 u.1 (columns_of l.fields) p)
    (λ j i. power_says l r (length ys) h.fits u.0 u.1 j i p)
step_good side F C.Negative l r s xs ys e g h w u = unary_good side F C.Negative l r s xs ys g h w e (λ o. tt) (λ a b. refl) (λ j. tt)
step_good side F C.Pool l r s xs ys e g h w u = pool_good side F l r s xs ys g h w e
