-- Categories under Modulo, Log and Power.
--     categories_unreached    on the right of Modulo, Log and Int Power they are refused with 6, 7, 14 or 15, before any rule
--     rules_unasked           so that no rule for two of them has a part in what these derive
--     rules_never_25          nor in a refusal with 25
--     float_power_refused     two category operands of any other Power are refused without a rule
-- Assumes nothing.
use mathlib.Core.Path.{◌≡◌, refl, sym, ap, subst, ◌∙◌}
use mathlib.Core.Bool.{Bool, true, false, cond, not, ◌&&◌, ◌||◌}
use mathlib.Core.List.{List, [], ◌∷◌, ◌++◌}
use mathlib.Core.Logic.{◌⊎◌, inl, inr, ⊎_elim}
use Prim.Native.Nat.{ℕ}
use lib.IntN.{ℤ}
use lib.Ieee.{Float}
use lib.Dec.{T, eqb}
use borrow.Author.Tests.{not-true, eqb-true}
use Rattle.numbers.specs.Result.{Result, ok, refused, and_then, Check, check, checked}
use Rattle.numbers.specs.Kind.{Span}
use Rattle.numbers.proofs.Results.{then_refused}
use Rattle.utilities.specs.Lists.{every, has}
use Rattle.utilities.proofs.Built.{both_hold}
use Rattle.base.specs.Form.{Form, int_type, float_type}
use Rattle.base.specs.Sheet.{Sheet, Nature, absent, whole_range, float_range, whole_lists, bool_lists, float_lists, text_lists, is_whole_range, is_lists}
use Rattle.base.specs.Bounds.{every_entry, lowers_present, whole_lowers_present}
use Rattle.base.specs.Components.{family_of}
use Rattle.base.specs.declared.Component.{Component}
use Rattle.base.specs.declared.Component.TheVariants as C
use Rattle.base.specs.declared.Family.TheVariants as Fam
use Rattle.category_lists.specs.Categories.{category_rule}
use Rattle.shape.specs.Shape.{columns_of, columns_absent}
use Rattle.shape.specs.Fields.{copy_sheet}
use Rattle.orders.specs.Orders.{both_of, bound_checks, copy_checks, last_checks}
use Rattle.calls.specs.Natures.{both_list_checks, combined_nature, lists_pair, whole_range_with, float_range_with, lists_with, two_natures, binary_nature}
use Rattle.calls.specs.Derive.{derive_copy, derive}
use Rattle.step_laws.specs.Unreached.{RefusedWith, reads_right, copied_by}
use Rattle.step_laws.proofs.Clear.{clear_refused}
use Rattle.step_laws.proofs.Never.{and_no, derive_clear}

-- ---- checks in a row that refuse

-- checks in a row whose first failure has a listed number, and one of which fails
abbrev Stops : List ℕ → List Check → Type 0
Stops ks [] = ⊥
Stops ks (c ∷ cs) = (has eqb c.number ks ≡ true) × ((c.fails ≡ true) ⊎ Stops ks cs)

module _ {X : Type 0} (ks : List ℕ) (rest : Result X) where
  -- the first of some checks, and what the others come to
  first_refused : (c : Check) (g : Result X) → has eqb c.number ks ≡ true → (c.fails ≡ true) ⊎ RefusedWith ks g
      → RefusedWith ks (cond c.fails (refused c.number) g)
  first_refused c g h w = go c.fails w
    where
      go : (t : Bool) → (t ≡ true) ⊎ RefusedWith ks g → RefusedWith ks (cond t (refused c.number) g)
      go true w = record { number = c.number; among = h; is = refl }
      go false (inl e) = absurd (subst T (sym e) tt)
      go false (inr w) = w

  stopped : (cs : List Check) → Stops ks cs → RefusedWith ks (checked cs rest)
  unfolding checked
  stopped [] s = absurd s
  stopped (c ∷ cs) s = first_refused c (checked cs rest) s.0 (⊎_elim (λ e. inl e) (λ w. inr (stopped cs w)) s.1)

  -- before a refusal, checks with listed numbers and checks that do not fail
  refused_after : (cs : List Check) → every (λ c. has eqb c.number ks || not c.fails) cs ≡ true → RefusedWith ks rest → RefusedWith ks (checked cs rest)
  unfolding checked every
  refused_after [] h w = w
  refused_after (c ∷ cs) h w =
      let b = both_hold (has eqb c.number ks || not c.fails) (every (λ c. has eqb c.number ks || not c.fails) cs) h in
      go (has eqb c.number ks) refl b.0 (refused_after cs b.1 w)
    where
      go : (t : Bool) → has eqb c.number ks ≡ t → (t || not c.fails) ≡ true → RefusedWith ks (checked cs rest) → RefusedWith ks (cond c.fails (refused c.number) (checked cs rest))
      go true e p w = first_refused c (checked cs rest) e (inr w)
      go false e p w = rw (not-true c.fails p) w

stops_longer : (ks : List ℕ) (cs ds : List Check) → Stops ks cs → Stops ks (cs ++ ds)
stops_longer ks [] ds s = absurd s
stops_longer ks (c ∷ cs) ds s = (s.0, ⊎_elim (λ e. inl e) (λ w. inr (stops_longer ks cs ds w)) s.1)

-- ---- 14 and 15 of Modulo, Log and Int Power

-- no bound is read of categories
lists_no_entry : (p : Span ℤ → Bool) (q : Span Float → Bool) (k : Nature) → is_lists k ≡ true → every_entry p q k ≡ false
unfolding every_entry
lists_no_entry p q absent e = absurd (subst T (sym e) tt)
lists_no_entry p q (whole_range rs) e = absurd (subst T (sym e) tt)
lists_no_entry p q (float_range rs) e = absurd (subst T (sym e) tt)
lists_no_entry p q (whole_lists ls) e = refl
lists_no_entry p q (bool_lists ls) e = refl
lists_no_entry p q (float_lists ls) e = refl
lists_no_entry p q (text_lists ls) e = refl

no_lowers : (k : Nature) → is_lists k ≡ true → lowers_present k ≡ false
unfolding lowers_present
no_lowers k e = lists_no_entry _ _ k e

no_whole_lowers : (k : Nature) → is_lists k ≡ true → whole_lowers_present k ≡ false
unfolding whole_lowers_present
no_whole_lowers k e = and_no (is_whole_range k) (lowers_present k) (no_lowers k e)

abbrev early : List ℕ
early = 6 ∷ 7 ∷ 14 ∷ 15 ∷ []

int_no_float : (a b : ℕ) → eqb a int_type ≡ true → (eqb a float_type && eqb b float_type) ≡ false
int_no_float a b e = rw (eqb-true a int_type e)

-- 15 of Modulo; 14 or 15 of Int Power
modulo_stop : (t : Bool) {w v : Bool} → w ≡ false → v ≡ false → not (cond t w v) ≡ true
modulo_stop true x y = ap not x
modulo_stop false x y = ap not y

power_stop : (t : Bool) {u w : Bool} {S : Type 0} → u ≡ false → w ≡ false → (not (t || u) ≡ true) ⊎ ((has eqb 15 early ≡ true) × (((t && not w) ≡ true) ⊎ S))
unfolding has
power_stop true x y = inr (refl, inl (ap not y))
power_stop false x y = inl (ap not x)

-- where the component reads right's bounds, 14 or 15 fails
bounds_stop : (c : Component) (l r : Sheet) → reads_right c l.fields.data_type ≡ true → is_lists r.nature ≡ true → Stops early (bound_checks c l r)
unfolding has
bounds_stop C.Abs l r e h = absurd (subst T (sym e) tt)
bounds_stop C.Add l r e h = absurd (subst T (sym e) tt)
bounds_stop C.Subtract l r e h = absurd (subst T (sym e) tt)
bounds_stop C.Multiply l r e h = absurd (subst T (sym e) tt)
bounds_stop C.Divide l r e h = absurd (subst T (sym e) tt)
bounds_stop C.Modulo l r e h = (refl, inr (refl, inl (modulo_stop (both_of l r int_type) (no_whole_lowers r.nature h) (no_lowers r.nature h))))
bounds_stop C.Log l r e h = (refl, inr (refl, inl (rw (no_lowers r.nature h))))
bounds_stop C.Power l r e h =
    (refl, power_stop (both_of l r int_type) (int_no_float l.fields.data_type r.fields.data_type e) (no_whole_lowers r.nature h))
bounds_stop C.Negative l r e h = absurd (subst T (sym e) tt)
bounds_stop C.Pool l r e h = absurd (subst T (sym e) tt)

-- a component that reads right's bounds copies left
reads_copy : (c : Component) (type : ℕ) → reads_right c type ≡ true → family_of c ≡ Fam.Copy
reads_copy C.Abs type e = absurd (subst T (sym e) tt)
reads_copy C.Add type e = absurd (subst T (sym e) tt)
reads_copy C.Subtract type e = absurd (subst T (sym e) tt)
reads_copy C.Multiply type e = absurd (subst T (sym e) tt)
reads_copy C.Divide type e = absurd (subst T (sym e) tt)
reads_copy C.Modulo type e = refl
reads_copy C.Log type e = refl
reads_copy C.Power type e = refl
reads_copy C.Negative type e = absurd (subst T (sym e) tt)
reads_copy C.Pool type e = absurd (subst T (sym e) tt)

copy_stop : (c : Component) (l r : Sheet) → reads_right c l.fields.data_type ≡ true → is_lists r.nature ≡ true → Stops early (copy_checks c l r)
unfolding has
copy_stop c l r e h =
    (refl, inr (refl, inr (refl, inr (refl, inr (stops_longer early (bound_checks c l r) (check 11 (columns_absent l.fields) ∷ []) (bounds_stop c l r e h))))))

-- the component reads right's bounds, and categories have none: no rule for categories is reached, whatever left is
pub categories_unreached :
    (F : Form) (c : Component) (l r : Sheet) → reads_right c l.fields.data_type ≡ true → is_lists r.nature ≡ true
    → RefusedWith (6 ∷ 7 ∷ 14 ∷ 15 ∷ []) (derive F c l r)
unfolding derive derive_copy
categories_unreached F c l r e h = rw (reads_copy c l.fields.data_type e) (stopped early _ (copy_checks c l r) (copy_stop c l r e h))

-- ---- any rule for two operands of categories

-- what follows checks of which one fails is not asked
stopped_alike : {X : Type 0} (ks : List ℕ) (cs : List Check) → Stops ks cs → (g h : Result X) → checked cs g ≡ checked cs h
unfolding checked
stopped_alike ks [] s g h = absurd s
stopped_alike {X} ks (c ∷ cs) s g h = go c.fails (⊎_elim (λ e. inl e) (λ w. inr (stopped_alike ks cs w g h)) s.1)
  where
    go : (t : Bool) → (t ≡ true) ⊎ (checked cs g ≡ checked cs h) → cond t (refused c.number) (checked cs g) ≡ cond t (refused c.number) (checked cs h)
    go true w = refl
    go false (inl e) = absurd (subst T (sym e) tt)
    go false (inr e) = e

module _ (c : Component) (type columns : ℕ) (t u : Nature → Nature → Result Nature) where
  beside_lists : (l r : Nature) → is_lists r ≡ false → lists_with c type columns t l r ≡ lists_with c type columns u l r
  unfolding lists_with
  beside_lists l absent h = refl
  beside_lists l (whole_range ys) h = refl
  beside_lists l (float_range ys) h = refl
  beside_lists l (whole_lists ms) h = absurd (subst T h tt)
  beside_lists l (bool_lists ms) h = absurd (subst T h tt)
  beside_lists l (float_lists ms) h = absurd (subst T h tt)
  beside_lists l (text_lists ms) h = absurd (subst T h tt)

  -- right is no category operand
  natures_alike : (l r : Nature) → is_lists r ≡ false → two_natures c type columns t l r ≡ two_natures c type columns u l r
  unfolding two_natures whole_range_with float_range_with
  natures_alike absent r h = refl
  natures_alike (whole_range xs) r h = beside_whole xs r
    where
      beside_whole : (xs : List (Span ℤ)) (r : Nature) → whole_range_with c type columns t xs r ≡ whole_range_with c type columns u xs r
      beside_whole xs absent = refl
      beside_whole xs (whole_range ys) = refl
      beside_whole xs (float_range ys) = refl
      beside_whole xs (whole_lists ms) = refl
      beside_whole xs (bool_lists ms) = refl
      beside_whole xs (float_lists ms) = refl
      beside_whole xs (text_lists ms) = refl
  natures_alike (float_range xs) r h = beside_float xs r
    where
      beside_float : (xs : List (Span Float)) (r : Nature) → float_range_with c type columns t xs r ≡ float_range_with c type columns u xs r
      beside_float xs absent = refl
      beside_float xs (whole_range ys) = refl
      beside_float xs (float_range ys) = refl
      beside_float xs (whole_lists ms) = refl
      beside_float xs (bool_lists ms) = refl
      beside_float xs (float_lists ms) = refl
      beside_float xs (text_lists ms) = refl
  natures_alike (whole_lists ls) r h = beside_lists (whole_lists ls) r h
  natures_alike (bool_lists ls) r h = beside_lists (bool_lists ls) r h
  natures_alike (float_lists ls) r h = beside_lists (float_lists ls) r h
  natures_alike (text_lists ls) r h = beside_lists (text_lists ls) r h

-- 02, S-8: "whole-number Power demands a range on its right": whatever two operands of categories were to make under Modulo, Log and Int Power, the answer
-- would be the same
pub rules_unasked : (F : Form) (c : Component) (l r : Sheet) (together : Nature → Nature → Result Nature) → reads_right c l.fields.data_type ≡ true
    → derive F c l r ≡ copied_by together c l r
unfolding derive derive_copy
rules_unasked F c l r together e = rw (reads_copy c l.fields.data_type e) (go (is_lists r.nature) refl)
  where
    type : ℕ
    type = l.fields.data_type

    columns : ℕ
    columns = columns_of l.fields

    rest : (Nature → Nature → Result Nature) → Result Sheet
    rest t = and_then (two_natures c type columns t l.nature r.nature) (λ k. checked (last_checks l r) (ok (copy_sheet l r k)))

    go : (t : Bool) → is_lists r.nature ≡ t → checked (copy_checks c l r) (rest (lists_pair F c type columns)) ≡ checked (copy_checks c l r) (rest together)
    go true h = stopped_alike early (copy_checks c l r) (copy_stop c l r e h) _ _
    go false h =
        ap (λ (k : Result Nature). checked (copy_checks c l r) (and_then k (λ n. checked (last_checks l r) (ok (copy_sheet l r n)))))
        (natures_alike c type columns (lists_pair F c type columns) together l.nature r.nature h)

-- 25 is none then, also by a rule that gave it, as 01 had one for Int Power
pub rules_never_25 : (F : Form) (c : Component) (l r : Sheet) (together : Nature → Nature → Result Nature) → reads_right c l.fields.data_type ≡ true
    → copied_by together c l r ≡ refused 25 → ⊥
rules_never_25 F c l r together e q = subst T (sym (clear_refused 25 (derive_clear F c l r) (rules_unasked F c l r together e ∙ q))) tt

-- ---- Power of other types

abbrev unruled : List ℕ
unruled = 6 ∷ 7 ∷ 11 ∷ 14 ∷ 19 ∷ 20 ∷ 29 ∷ 21 ∷ 22 ∷ []

module _ (F : Form) (type columns : ℕ) (e : eqb type int_type ≡ false) where
  no_power_rule : (l r : Nature) → combined_nature F C.Power type columns l r ≡ refused 22
  unfolding category_rule
  no_power_rule absent r = refl
  no_power_rule (whole_range rs) r = refl
  no_power_rule (float_range rs) r = refl
  no_power_rule (whole_lists ls) r = rw e
  no_power_rule (bool_lists ls) r = refl
  no_power_rule (float_lists ls) r = refl
  no_power_rule (text_lists ls) r = refl

  lists_refused : (l r : Nature) → RefusedWith unruled (lists_pair F C.Power type columns l r)
  unfolding lists_pair every has
  lists_refused l r =
      refused_after unruled _ (both_list_checks columns l r) refl
      (record { number = 22; among = refl; is = no_power_rule l r })

  with_refused : (l r : Nature) → is_lists r ≡ true → RefusedWith unruled (lists_with C.Power type columns (lists_pair F C.Power type columns) l r)
  unfolding lists_with
  with_refused l absent h = absurd (subst T (sym h) tt)
  with_refused l (whole_range rs) h = absurd (subst T (sym h) tt)
  with_refused l (float_range rs) h = absurd (subst T (sym h) tt)
  with_refused l (whole_lists ls) h = lists_refused l (whole_lists ls)
  with_refused l (bool_lists ls) h = lists_refused l (bool_lists ls)
  with_refused l (float_lists ls) h = lists_refused l (float_lists ls)
  with_refused l (text_lists ls) h = lists_refused l (text_lists ls)

  nature_refused : (l r : Nature) → is_lists l ≡ true → is_lists r ≡ true → RefusedWith unruled (binary_nature F C.Power type columns l r)
  unfolding two_natures
  nature_refused absent r g h = absurd (subst T (sym g) tt)
  nature_refused (whole_range rs) r g h = absurd (subst T (sym g) tt)
  nature_refused (float_range rs) r g h = absurd (subst T (sym g) tt)
  nature_refused (whole_lists ls) r g h = with_refused (whole_lists ls) r h
  nature_refused (bool_lists ls) r g h = with_refused (bool_lists ls) r h
  nature_refused (float_lists ls) r g h = with_refused (float_lists ls) r h
  nature_refused (text_lists ls) r g h = with_refused (text_lists ls) r h

-- 01: "Float Power has none": two category operands of a Power that is not of type Int
pub float_power_refused :
    (F : Form) (l r : Sheet) → eqb l.fields.data_type int_type ≡ false → is_lists l.nature ≡ true → is_lists r.nature ≡ true
    → RefusedWith (6 ∷ 7 ∷ 11 ∷ 14 ∷ 19 ∷ 20 ∷ 29 ∷ 21 ∷ 22 ∷ []) (derive F C.Power l r)
unfolding derive derive_copy every has
float_power_refused F l r e g h =
    let w = nature_refused F l.fields.data_type (columns_of l.fields) e l.nature r.nature g h in
    refused_after unruled _ (copy_checks C.Power l r) (rw e)
    (record { number = w.number; among = w.among; is = then_refused _ w.is })
