-- The numbers that the single call replies with, in any stored form.
--     single_given    they are below 30, and not 25
--     read_given      so are those that a sheet is refused with
--     never_25        25 is none: 15 keeps categories from Int Power, whose rule alone gives it
--     never_30        30 is none: it is a node's (02, S-7), not a step's
-- Assumes nothing.
use mathlib.Core.Path.{◌≡◌, refl, sym, ap, ◌∙◌}
use mathlib.Core.Bool.{Bool, true, false, cond, ◌&&◌}
use mathlib.Core.List.{List, [], ◌∷◌, ◌++◌}
use mathlib.Core.Option.{Option, none, some}
use mathlib.Core.Logic.{⊎_elim}
use Prim.Native.Nat.{ℕ}
use lib.IntN.{ℤ}
use lib.Ieee.{Float}
use lib.ListN.{length}
use lib.Dec.{eqb, leb}
use Rattle.numbers.specs.Result.{Result, ok, refused, Check, check}
use Rattle.numbers.specs.Kind.{Span, whole, float, eq_z}
use Rattle.utilities.specs.Lists.{every}
use Rattle.base.specs.Form.{Form}
use Rattle.base.specs.Sheet.{Sheet, Nature, absent, whole_range, float_range, whole_lists, bool_lists, float_lists, text_lists, is_lists}
use Rattle.base.specs.Bounds.{whole_lowers_present}
use Rattle.base.specs.Checks.{read, sheet_checks}
use Rattle.base.specs.Components.{component_of, family_of, is_unary}
use Rattle.base.specs.declared.Component.{Component}
use Rattle.base.specs.declared.Family.{Family}
use Rattle.base.specs.declared.Family.TheVariants as Fam
use Rattle.std.specs.declared.option.Option as Rust
use Rattle.std.specs.declared.option.Option.TheVariants as N
use Rattle.ends.specs.Ends.{end_rule}
use Rattle.ends.specs.Ranges.{whole_rule}
use Rattle.category_lists.specs.Categories.{category_rule, text_rule, same_text, ruled}
use Rattle.shape.specs.Shape.{columns_of, columns_absent, widest}
use Rattle.orders.specs.Orders.{unary_checks, pair_checks, bound_checks, copy_checks, last_checks, pool_checks}
use Rattle.orders.specs.Parts.{is_int_copy}
use Rattle.orders.proofs.Orders.{bounds_every}
use Rattle.orders.proofs.Passing.{Passing, pass_parts, bounds_int}
use Rattle.calls.specs.Natures.{rule_for, whole_lists_of, bool_lists_of, text_lists_of, list_checks, both_list_checks, united_nature, lists_united, combined_nature, lists_pair, lists_alone, whole_range_with, float_range_with, lists_with, two_natures, binary_nature, pool_nature, unary_nature}
use Rattle.calls.specs.Derive.{derive_unary, derive_pair, derive_copy, derive_pool, derive_by, derive}
use Rattle.calls.specs.Single.{Outcome, step_sheet, step, delivery, single_of, single}
use Rattle.step_laws.proofs.Clear.{given, not_given, chosen_given, Clear, value, other, then_clear, cond_clear, others, checked_clear, whole_clear, float_clear, rows_clear, rule_clear, whole_rule_clear, range_pair_clear, range_alone_clear, combined_clear, mapped_clear, united_clear, kept_clear, limited_clear, ClearRule, no_rule, by_rule, category_clear, text_rule_clear}

-- ---- natures

ruled_clear :
    {X E : Type 0} (o : Option (E → E → Result E)) (rest : (E → E → Result E) → Result X) → ClearRule o
    → ((rule : E → E → Result E) → ((a b : E) → Clear (rule a b)) → Clear (rest rule)) → Clear (ruled o rest)
ruled_clear none rest no_rule f = other refl
ruled_clear (some rule) rest (by_rule r) f = f rule r

-- two natures, of which two categories are clear together
module _ (c : Component) (type columns : ℕ) (together : Nature → Nature → Result Nature) where
  lists_clear : (l r : Nature) → (is_lists r ≡ true → Clear (together l r)) → Clear (lists_with c type columns together l r)
  unfolding lists_with
  lists_clear l absent f = value
  lists_clear l (whole_range ys) f = value
  lists_clear l (float_range ys) f = value
  lists_clear l (whole_lists ms) f = f refl
  lists_clear l (bool_lists ms) f = f refl
  lists_clear l (float_lists ms) f = f refl
  lists_clear l (text_lists ms) f = f refl

  whole_with_clear : (xs : List (Span ℤ)) (r : Nature) → Clear (whole_range_with c type columns together xs r)
  unfolding whole_range_with
  whole_with_clear xs absent = value
  whole_with_clear xs (whole_range ys) = then_clear _ (range_pair_clear (whole_rule c type) (whole_rule_clear c type) columns xs ys) (λ zs. value)
  whole_with_clear xs (float_range ys) = other refl
  whole_with_clear xs (whole_lists ms) = value
  whole_with_clear xs (bool_lists ms) = value
  whole_with_clear xs (float_lists ms) = value
  whole_with_clear xs (text_lists ms) = value

  float_with_clear : (xs : List (Span Float)) (r : Nature) → Clear (float_range_with c type columns together xs r)
  unfolding float_range_with
  float_with_clear xs absent = value
  float_with_clear xs (whole_range ys) = other refl
  float_with_clear xs (float_range ys) = then_clear _ (range_pair_clear (end_rule float c) (rule_clear float_clear c) columns xs ys) (λ zs. value)
  float_with_clear xs (whole_lists ms) = value
  float_with_clear xs (bool_lists ms) = value
  float_with_clear xs (float_lists ms) = value
  float_with_clear xs (text_lists ms) = value

  natures_clear : (l r : Nature) → (is_lists r ≡ true → Clear (together l r)) → Clear (two_natures c type columns together l r)
  unfolding two_natures
  natures_clear absent r f = value
  natures_clear (whole_range xs) r f = whole_with_clear xs r
  natures_clear (float_range xs) r f = float_with_clear xs r
  natures_clear (whole_lists ls) r f = lists_clear (whole_lists ls) r f
  natures_clear (bool_lists ls) r f = lists_clear (bool_lists ls) r f
  natures_clear (float_lists ls) r f = lists_clear (float_lists ls) r f
  natures_clear (text_lists ls) r f = lists_clear (text_lists ls) r f

united_nature_clear : (columns : ℕ) (l r : Nature) → Clear (united_nature columns l r)
united_nature_clear columns absent r = value
united_nature_clear columns (whole_range xs) r = value
united_nature_clear columns (float_range xs) r = value
united_nature_clear columns (whole_lists ls) r = then_clear _ (united_clear eq_z columns ls (whole_lists_of r)) (λ ns. value)
united_nature_clear columns (bool_lists ls) r = then_clear _ (united_clear eqb columns ls (bool_lists_of r)) (λ ns. value)
united_nature_clear columns (float_lists ls) r = value
united_nature_clear columns (text_lists ls) r = then_clear _ (united_clear same_text columns ls (text_lists_of r)) (λ ns. value)

pool_clear : (c : Component) (type columns : ℕ) (l r : Nature) → Clear (pool_nature c type columns l r)
unfolding lists_united every
pool_clear c type columns l r =
    natures_clear c type columns (lists_united columns) l r (λ h. checked_clear (both_list_checks columns l r) refl (λ p. united_nature_clear columns l r))

-- two operands
module _ (F : Form) (c : Component) (type columns : ℕ) where
  combined_nature_clear : is_int_copy (family_of c) type ≡ false → (l r : Nature) → Clear (combined_nature F c type columns l r)
  combined_nature_clear e absent r = other refl
  combined_nature_clear e (whole_range rs) r = other refl
  combined_nature_clear e (float_range rs) r = other refl
  combined_nature_clear e (whole_lists ls) r =
      ruled_clear (category_rule c type) _ (category_clear c type e)
      (λ rule f. limited_clear F.category_limit (combined_clear eq_z rule f columns ls (whole_lists_of r)))
  combined_nature_clear e (bool_lists ls) r = other refl
  combined_nature_clear e (float_lists ls) r = other refl
  combined_nature_clear e (text_lists ls) r =
      ruled_clear (text_rule c) _ (text_rule_clear c)
      (λ rule f. then_clear _ (combined_clear same_text rule f columns ls (text_lists_of r)) (λ ns. kept_clear F (text_lists ns)))

  pair_clear : is_int_copy (family_of c) type ≡ false → (l r : Nature) → Clear (lists_pair F c type columns l r)
  unfolding lists_pair every
  pair_clear e l r = checked_clear (both_list_checks columns l r) refl (λ p. combined_nature_clear e l r)

  -- a pair of categories meets no rule of Modulo, Log and Power on Int
  abbrev Apart : Nature → Type 0
  Apart r = (is_int_copy (family_of c) type && is_lists r) ≡ false

  apart_rule : (t : Bool) {u : Bool} → (t && u) ≡ false → u ≡ true → t ≡ false
  apart_rule true e h = sym h ∙ e
  apart_rule false e h = refl

  binary_clear : (l r : Nature) → Apart r → Clear (binary_nature F c type columns l r)
  binary_clear l r e = natures_clear c type columns (lists_pair F c type columns) l r (λ h. pair_clear (apart_rule (is_int_copy (family_of c) type) e h) l r)

-- one operand
module _ (limit : ℕ) (c : Component) (type columns : ℕ) where
  rule_for_clear : is_int_copy (family_of c) type ≡ false → (l : Nature) → ClearRule (rule_for c type l)
  rule_for_clear e absent = no_rule
  rule_for_clear e (whole_range rs) = no_rule
  rule_for_clear e (float_range rs) = no_rule
  rule_for_clear e (whole_lists ls) = category_clear c type e
  rule_for_clear e (bool_lists ls) = no_rule
  rule_for_clear e (float_lists ls) = no_rule
  rule_for_clear e (text_lists ls) = no_rule

  alone_clear : is_int_copy (family_of c) type ≡ false → (l : Nature) → Clear (lists_alone limit c type columns l)
  unfolding lists_alone every
  alone_clear e l =
      checked_clear (list_checks columns l) refl
      (λ p. ruled_clear (rule_for c type l) _ (rule_for_clear e l) (λ rule f. limited_clear limit (mapped_clear eq_z rule f columns (whole_lists_of l))))

  unary_clear : is_int_copy (family_of c) type ≡ false → (l : Nature) → Clear (unary_nature limit c type columns l)
  unfolding unary_nature
  unary_clear e absent = value
  unary_clear e (whole_range xs) = then_clear _ (range_alone_clear (end_rule whole c) (rule_clear whole_clear c) columns xs) (λ zs. value)
  unary_clear e (float_range xs) = then_clear _ (range_alone_clear (end_rule float c) (rule_clear float_clear c) columns xs) (λ zs. value)
  unary_clear e (whole_lists ls) = alone_clear e (whole_lists ls)
  unary_clear e (bool_lists ls) = alone_clear e (bool_lists ls)
  unary_clear e (float_lists ls) = alone_clear e (float_lists ls)
  unary_clear e (text_lists ls) = alone_clear e (text_lists ls)

-- ---- the orders of the checks

others_then : (bs : List Check) (t : Bool) → others bs ≡ true → others (bs ++ (check 11 t ∷ [])) ≡ true
unfolding every
others_then [] t e = refl
others_then (b ∷ bs) t e = go (given b.number) e (others_then bs t)
  where
    go : (p : Bool) → cond p (others bs) false ≡ true → (others bs ≡ true → others (bs ++ (check 11 t ∷ [])) ≡ true)
        → cond p (others (bs ++ (check 11 t ∷ []))) false ≡ true
    go true e f = f e
    go false e f = e

-- `lower_int` gives no list of categories
whole_no_lists : (k : Nature) → whole_lowers_present k ≡ true → is_lists k ≡ false
unfolding whole_lowers_present
whole_no_lists absent e = refl
whole_no_lists (whole_range rs) e = refl
whole_no_lists (float_range rs) e = refl
whole_no_lists (whole_lists ls) e = sym e
whole_no_lists (bool_lists ls) e = sym e
whole_no_lists (float_lists ls) e = sym e
whole_no_lists (text_lists ls) e = sym e

pub and_no : (t u : Bool) → u ≡ false → (t && u) ≡ false
and_no true u e = e
and_no false u e = refl

-- 15 keeps categories from Int Power
bounds_apart : (l r : Sheet) (c : Component) → Passing (bound_checks c l r) → (is_int_copy (family_of c) l.fields.data_type && is_lists r.nature) ≡ false
bounds_apart l r c p =
    let int = is_int_copy (family_of c) l.fields.data_type in
    ⊎_elim
    (λ (h : int ≡ false). rw h)
    (λ (h : whole_lowers_present r.nature ≡ true). and_no int (is_lists r.nature) (whole_no_lists r.nature h))
    (bounds_int l r c p)

-- ---- the derivation

module _ (F : Form) (c : Component) where
  derive_unary_clear : ((type : ℕ) → is_int_copy (family_of c) type ≡ false) → (s : Sheet) → Clear (derive_unary F c s)
  unfolding derive_unary every
  derive_unary_clear e s =
      checked_clear (unary_checks s.fields) refl
      (λ p. then_clear _ (unary_clear F.category_limit c s.fields.data_type (columns_of s.fields) (e s.fields.data_type) s.nature) (λ k. value))

  derive_pair_clear : ((type : ℕ) → is_int_copy (family_of c) type ≡ false) → (l r : Sheet) → Clear (derive_pair F c l r)
  unfolding derive_pair every
  derive_pair_clear e l r =
      let type = l.fields.data_type in
      let apart : (is_int_copy (family_of c) type && is_lists r.nature) ≡ false = rw (e type) in
      checked_clear (pair_checks l r) refl
      (λ p. then_clear _ (binary_clear F c type (widest l.fields r.fields) l.nature r.nature apart) (λ k. value))

  derive_copy_clear : (l r : Sheet) → Clear (derive_copy F c l r)
  unfolding derive_copy every
  derive_copy_clear l r =
      let bounds = bound_checks c l r in
      let absent = columns_absent l.fields in
      checked_clear (copy_checks c l r) (others_then bounds absent (bounds_every l r given refl refl refl c))
      (λ p.
      then_clear _
      (binary_clear F c l.fields.data_type (columns_of l.fields) l.nature r.nature
      (bounds_apart l r c (pass_parts bounds (check 11 absent ∷ []) p.1.1.1.1).0))
      (λ k. checked_clear (last_checks l r) refl (λ q. value)))

  derive_pool_clear : (l r : Sheet) → Clear (derive_pool F c l r)
  unfolding derive_pool every
  derive_pool_clear l r =
      checked_clear (pool_checks l r) refl
      (λ p.
      then_clear _ (pool_clear c l.fields.data_type (widest l.fields r.fields) l.nature r.nature)
      (λ k. then_clear _ (rows_clear l.fields.rows r.fields.rows) (λ rows. then_clear _ (kept_clear F k) (λ k'. value))))

  pub derive_clear : (l r : Sheet) → Clear (derive F c l r)
  unfolding derive
  derive_clear l r = go (family_of c) refl
    where
      go : (f : Family) → family_of c ≡ f → Clear (derive_by F c f l r)
      go Fam.Unary e = derive_unary_clear (λ type. ap (λ (f : Family). is_int_copy f type) e) l
      go Fam.Pair e = derive_pair_clear (λ type. ap (λ (f : Family). is_int_copy f type) e) l r
      go Fam.Copy e = derive_copy_clear l r
      go Fam.Pool e = derive_pool_clear l r

-- ---- the single call

pub read_given : (F : Form) (s : List ℕ) → Clear (read F s)
unfolding read every
read_given F s = checked_clear (sheet_checks F s) refl (λ p. value)

step_clear : (F : Form) (c : Component) (node : ℕ) (left right : List ℕ) → Clear (step F c node left right)
unfolding step step_sheet
step_clear F c node left right =
    then_clear _
    (then_clear _ (read_given F left)
    (λ l. cond_clear (is_unary (family_of c)) (derive_clear F c l l) (then_clear _ (read_given F right) (λ r. derive_clear F c l r))))
    (λ s. value)

delivery_code : (g : Result (List ℕ)) (out : List ℕ) → Clear g → given (delivery g out).code ≡ true
unfolding delivery
delivery_code (ok vs) out value = chosen_given (λ (o : Outcome). o.code) (leb (length vs) (length out)) _ _ refl refl
delivery_code (refused k) out (other h) = h

-- a code of the single call, 0 among them
pub single_given : (F : Form) (number : Rust.Option Component) (node : ℕ) (left right out : List ℕ) → given (single_of F number node left right out).code ≡ true
unfolding single_of
single_given F N.None node left right out = refl
single_given F (N.Some c) node left right out = delivery_code (step F c node left right) out (step_clear F c node left right)

-- 25: no component, operands and output give it
pub never_25 : (F : Form) (number node : ℕ) (left right out : List ℕ) → (single F number node left right out).code ≡ 25 → ⊥
unfolding single
never_25 F number node left right out = not_given 25 refl (single_given F (component_of number) node left right out)

-- 30: nor this
pub never_30 : (F : Form) (number node : ℕ) (left right out : List ℕ) → (single F number node left right out).code ≡ 30 → ⊥
unfolding single
never_30 F number node left right out = not_given 30 refl (single_given F (component_of number) node left right out)
