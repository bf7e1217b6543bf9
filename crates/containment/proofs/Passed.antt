-- What the checks 14 to 16 of Modulo, Log and Power leave of the operands' natures. Assumes nothing.
use mathlib.Core.Path.{◌≡◌, refl, sym, subst, ◌∙◌}
use mathlib.Core.Bool.{Bool, true, false, not, ◌&&◌}
use mathlib.Core.List.{List, [], ◌∷◌, ◌++◌}
use mathlib.Core.Logic.{⊎_elim}
use mathlib.Core.Option.{Option, none, some}
use Prim.Native.Nat.{ℕ, zero, suc, ◌<◌}
use native.Mathlib.Omega.{arith}
use lib.Dec.{T}
use lib.Ieee.{Float}
use lib.IntN.{ℤ}
use lib.ListN.{length, get_or, get_elem?}
use borrow.Author.Tests.{eq-eqb, not-false}
use Rattle.numbers.specs.Result.{Result, ok, Check, check, checked}
use Rattle.numbers.specs.Kind.{Span, span_of}
use Rattle.numbers.proofs.Results.{checked_passed}
use Rattle.utilities.specs.Lists.{every}
use Rattle.utilities.proofs.Built.{every_at}
use Rattle.base.specs.Bounds.{every_entry, lowers_present, uppers_present, lowers_positive, lowers_non_negative}
use Rattle.base.specs.Form.{int_type}
use Rattle.base.specs.Sheet.{Sheet, Nature, absent, whole_range, float_range, whole_lists, bool_lists, float_lists, text_lists, is_whole_range}
use Rattle.base.specs.declared.Component.{Component}
use Rattle.base.proofs.Flags.{and_both}
use Rattle.orders.specs.Orders.{operand_checks, both_of, modulo_checks, log_checks, power_checks, bound_checks, copy_checks}
use Rattle.shape.specs.Shape.{columns_absent}
use Rattle.derived.proofs.Answers.{checked_after, checked_before}
use Rattle.containment.specs.Demand.{entry_for, OneOrPerColumn}
use Rattle.containment.specs.Asks.{LowerAboveZero, LowerNotNegative}
use Rattle.containment.specs.Good.{Fitting, Spread, OfRange}
use Rattle.containment.proofs.Columns.{entry_full, entry_one}
use Rattle.containment.proofs.Nodes.{Reaches}

-- the checks between those of the operands and 11
pub bounds_passed : {X : Type 0} {x : X} (c : Component) (l r : Sheet) (rest : Result X)
    → checked (copy_checks c l r) rest ≡ ok x → checked (bound_checks c l r) (ok x) ≡ ok x
bounds_passed c l r rest e =
    let columns = check 11 (columns_absent l.fields) ∷ [] in
    checked_before columns rest (bound_checks c l r)
    (checked_after (bound_checks c l r ++ columns) rest (operand_checks l.fields ++ operand_checks r.fields) e)

-- the third of three checks
third : {X : Type 0} {x : X} (b c d : Check) → checked (b ∷ c ∷ d ∷ []) (ok x) ≡ ok x → d.fails ≡ false
third {x} b c d e = (checked_passed d [] (ok x) (checked_passed c (d ∷ []) (ok x) (checked_passed b (c ∷ d ∷ []) (ok x) e).1).1).0

modulo_passed : {X : Type 0} {x : X} (l r : Sheet) → checked (modulo_checks l r) (ok x) ≡ ok x → lowers_positive r.nature ≡ true
modulo_passed l r e = not-false (lowers_positive r.nature) (third _ _ (check 16 (not (lowers_positive r.nature))) e)

-- of Int operands
power_passed : {X : Type 0} {x : X} (l r : Sheet) → l.fields.data_type ≡ int_type → r.fields.data_type ≡ int_type
    → checked (power_checks l r) (ok x) ≡ ok x → lowers_non_negative r.nature ≡ true
power_passed l r p q e =
    let b = lowers_non_negative r.nature in
    not-false b (rw (eq-eqb l.fields.data_type int_type p, eq-eqb r.fields.data_type int_type q) at (third _ _ (check 16 (both_of l r int_type && not b)) e))

-- ---- a range whose every entry passed

module _ (p : Span ℤ → Bool) (q : Span Float → Bool) where
  range_spread : (k : Nature) (m n : ℕ) → every_entry p q k ≡ true → Fitting k m → Spread k n
  unfolding every_entry
  range_spread absent m n e f = tt
  range_spread (whole_range rs) m n e f = tt
  range_spread (float_range rs) m n e f = f
  range_spread (whole_lists ls) m n e f = absurd (subst T (sym e) tt)
  range_spread (bool_lists ls) m n e f = f
  range_spread (float_lists ls) m n e f = f
  range_spread (text_lists ls) m n e f = f

  range_whole : (k : Nature) (m : ℕ) → every_entry p q k ≡ true → Fitting k m → is_whole_range k ≡ true
  unfolding every_entry
  range_whole absent m e f = e
  range_whole (whole_range rs) m e f = refl
  range_whole (float_range rs) m e f = absurd f
  range_whole (whole_lists ls) m e f = e
  range_whole (bool_lists ls) m e f = absurd f
  range_whole (float_lists ls) m e f = absurd f
  range_whole (text_lists ls) m e f = absurd f

elem_is {ℓ} : {X : Type ℓ} (xs : List X) (j : ℕ) (d : X) → j < length xs → get_elem? xs j ≡ some (get_or xs j d)
elem_is [] j d h = absurd (omega arith)
elem_is (x ∷ xs) zero d h = refl
elem_is (x ∷ xs) (suc j) d h = elem_is xs j d (omega arith)

module _ (p : Span ℤ → Bool) (P : Option (Span ℤ) → Type 0) (says : (y : Span ℤ) → p y ≡ true → P (some y)) where
  entry_says : (rs : List (Span ℤ)) (j : ℕ) → j < length rs → every p rs ≡ true → P (entry_for rs j)
  entry_says rs j h e =
      subst P (sym (entry_full rs j h ∙ elem_is rs j (span_of none none) h)) (says (get_or rs j (span_of none none)) (every_at p rs j (span_of none none) h e))

  any_says : (rs : List (Span ℤ)) (m j : ℕ) → OneOrPerColumn rs m → Reaches m j → every p rs ≡ true → P (entry_for rs j)
  any_says rs m j o w e =
      ⊎_elim
      (λ (h : length rs ≡ 1). one h)
      (λ (h : length rs ≡ m). ⊎_elim {C = P (entry_for rs j)} (λ (i : j < m). entry_says rs j (omega arith) e) (λ (i : m ≡ 1). one (h ∙ i)) w)
      o
    where
      one : length rs ≡ 1 → P (entry_for rs j)
      one h = subst P (entry_one rs 0 j h) (entry_says rs 0 (omega arith) e)

  range_says : (q : Span Float → Bool) (k : Nature) (m j : ℕ) → every_entry p q k ≡ true → Fitting k m → Reaches m j → OfRange P k j
  unfolding every_entry
  range_says q absent m j e f w = subst T (sym e) tt
  range_says q (whole_range rs) m j e f w = any_says rs m j f w e
  range_says q (float_range rs) m j e f w = f
  range_says q (whole_lists ls) m j e f w = subst T (sym e) tt
  range_says q (bool_lists ls) m j e f w = f
  range_says q (float_lists ls) m j e f w = f
  range_says q (text_lists ls) m j e f w = f

-- ---- Modulo, Power and Log

module _ {X : Type 0} {x : X} (l r : Sheet) (m : ℕ) (f : Fitting r.nature m) where
  pub modulo_spread : (n : ℕ) → checked (modulo_checks l r) (ok x) ≡ ok x → Spread r.nature n
  unfolding lowers_positive
  modulo_spread n e = range_spread _ _ r.nature m n (modulo_passed l r e) f

  pub modulo_says : (j : ℕ) → Reaches m j → checked (modulo_checks l r) (ok x) ≡ ok x → OfRange LowerAboveZero r.nature j
  unfolding lowers_positive
  modulo_says j w e = range_says _ LowerAboveZero (λ y h. h) _ r.nature m j (modulo_passed l r e) f w

  module _ (p : l.fields.data_type ≡ int_type) (q : r.fields.data_type ≡ int_type) where
    pub power_spread : (n : ℕ) → checked (power_checks l r) (ok x) ≡ ok x → Spread r.nature n
    unfolding lowers_non_negative
    power_spread n e = range_spread _ _ r.nature m n (power_passed l r p q e) f

    pub power_says : (j : ℕ) → Reaches m j → checked (power_checks l r) (ok x) ≡ ok x → OfRange LowerNotNegative r.nature j
    unfolding lowers_non_negative
    power_says j w e = range_says _ LowerNotNegative (λ y h. h) _ r.nature m j (power_passed l r p q e) f w

  -- 15 keeps Log out of whole natures
  pub log_never : (n : ℕ) → Fitting l.nature n → checked (log_checks l r) (ok x) ≡ ok x → ⊥
  unfolding lowers_present
  log_never n g e =
      let d₂ = checked_passed _ _ (ok x) e in
      let d₃ = checked_passed _ _ (ok x) d₂.1 in
      let d₄ = checked_passed _ _ (ok x) d₃.1 in
      let d₅ = checked_passed _ _ (ok x) d₄.1 in
      let d₆ = checked_passed _ _ (ok x) d₅.1 in
      let base = (and_both (lowers_present r.nature) (uppers_present r.nature) (not-false _ d₃.0)).0 in
      let data' = not-false (lowers_present l.nature) d₅.0 in
      let right = range_whole _ _ r.nature m base f in
      let left = range_whole _ _ l.nature n data' g in
      clash (is_whole_range l.nature) (is_whole_range r.nature) left right d₆.0
    where
      clash : (s t : Bool) → s ≡ true → t ≡ true → s && t ≡ false → ⊥
      clash true true p q e = subst T e tt
      clash true false p q e = subst T (sym q) tt
      clash false t p q e = subst T (sym p) tt
