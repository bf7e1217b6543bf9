-- Checks of which none fails, and what the operands are then known to be.
--     all_pass, pass_parts    no check fails where the code is 0, nor in either part
--     bounds_int              15 has kept Int's Modulo, Log and Power from a right that is no whole range
-- Assumes nothing.
use mathlib.Core.Path.{◌≡◌, refl, sym, subst, ◌∙◌}
use mathlib.Core.Bool.{Bool, true, false, cond, not, ◌&&◌, ◌||◌}
use mathlib.Core.List.{List, [], ◌∷◌, ◌++◌}
use mathlib.Core.Logic.{◌⊎◌, inl, inr, ⊎_elim}
use Prim.Native.Nat.{ℕ}
use native.Mathlib.Omega.{arith}
use lib.Dec.{T, eqb}
use borrow.Author.Tests.{not-false, eq-eqb, eqb-true}
use Rattle.numbers.specs.Result.{Check, first_failing}
use Rattle.base.specs.Form.{int_type, float_type}
use Rattle.base.specs.Sheet.{Sheet}
use Rattle.base.specs.Bounds.{lowers_present, whole_lowers_present}
use Rattle.base.specs.Components.{family_of}
use Rattle.base.specs.declared.Component.{Component}
use Rattle.base.specs.declared.Component.TheVariants as C
use Rattle.orders.specs.Orders.{bound_checks}
use Rattle.orders.specs.Parts.{is_int_copy}
use Rattle.orders.proofs.Refusals.{Numbered, head_numbered, tail_numbered}

abbrev pub Passing : List Check → Type 0
Passing [] = Unit {0}
Passing (c ∷ cs) = (c.fails ≡ false) × Passing cs

none_fails : (t : Bool) (k m : ℕ) → eqb k 0 ≡ false → cond t k m ≡ 0 → (t ≡ false) × (m ≡ 0)
none_fails true k m h e = absurd (subst T (sym (eq-eqb k 0 e) ∙ h) tt)
none_fails false k m h e = (refl, e)

pub all_pass : (cs : List Check) → Numbered cs → first_failing cs ≡ 0 → Passing cs
unfolding first_failing
all_pass [] z e = tt
all_pass (c ∷ cs) z e =
    let h = none_fails c.fails c.number (first_failing cs) (head_numbered c cs z) e in
    (h.0, all_pass cs (tail_numbered c cs z) h.1)

pub pass_parts : (cs ds : List Check) → Passing (cs ++ ds) → Passing cs × Passing ds
pass_parts [] ds p = (tt, p)
pass_parts (c ∷ cs) ds p = let r = pass_parts cs ds p.1 in ((p.0, r.0), r.1)

-- ---- 15 of Modulo and Int Power

-- 14 of Modulo and Power has passed
both_int : (a b : ℕ) → not ((eqb a int_type && eqb b int_type) || (eqb a float_type && eqb b float_type)) ≡ false → (eqb a int_type ≡ false) ⊎ ((eqb a int_type && eqb b int_type) ≡ true)
both_int a b p = go (eqb a int_type) (eqb b int_type) (eqb a float_type) refl refl p
  where
    go : (t u v : Bool) → eqb a int_type ≡ t → eqb a float_type ≡ v → not ((t && u) || (v && eqb b float_type)) ≡ false → (t ≡ false) ⊎ ((t && u) ≡ true)
    go false u v x y p = inl refl
    go true true v x y p = inr refl
    go true false true x y p = absurd (let i = eqb-true a int_type x in let j = eqb-true a float_type y in omega arith)
    go true false false x y p = absurd (subst T p tt)

-- and then 15 of the one, and of the other
modulo_whole : {t : Bool} (w v : Bool) → t ≡ true → not (cond t w v) ≡ false → w ≡ true
modulo_whole w v e p = not-false w (rw e at p)

power_whole_lem : {t : Bool} (w : Bool) → t ≡ true → (t && not w) ≡ false → w ≡ true
power_whole_lem w e p = not-false w (rw e at p)

-- on Int, right's bounds are whole
pub bounds_int : (l r : Sheet) (c : Component) → Passing (bound_checks c l r)
    → (is_int_copy (family_of c) l.fields.data_type ≡ false) ⊎ (whole_lowers_present r.nature ≡ true)
bounds_int l r C.Abs p = inl refl
bounds_int l r C.Add p = inl refl
bounds_int l r C.Subtract p = inl refl
bounds_int l r C.Multiply p = inl refl
bounds_int l r C.Divide p = inl refl
bounds_int l r C.Modulo p =
    ⊎_elim
    (λ x. inl x)
    (λ x. inr (modulo_whole (whole_lowers_present r.nature) (lowers_present r.nature) x p.1.0))
    (both_int l.fields.data_type r.fields.data_type p.0)
bounds_int l r C.Log p = inl (rw (eqb-true l.fields.data_type float_type (not-false (eqb l.fields.data_type float_type) p.0)))
bounds_int l r C.Power p =
    ⊎_elim
    (λ x. inl x)
    (λ x. inr (power_whole_lem (whole_lowers_present r.nature) x p.1.0))
    (both_int l.fields.data_type r.fields.data_type p.0)
bounds_int l r C.Negative p = inl refl
bounds_int l r C.Pool p = inl refl
