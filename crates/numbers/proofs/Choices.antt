-- Laws of the lesser and the greater, over any kind of number; and of equal whole numbers. Assumes nothing.
use mathlib.Core.Path.{◌≡◌, refl, sym, ap, subst, ◌∙◌}
use mathlib.Core.Bool.{Bool, true, false, cond}
use mathlib.Core.Logic.{◌⊎◌, inl, inr}
use lib.IntN.{ℤ, pos, negsuc}
use lib.Dec.{T}
use borrow.Author.Tests.{eq-eqb, ne_eqb, eqb-true}
use Rattle.numbers.specs.Kind.{Kind, lesser, greater, least, greatest, eq_z}

-- what holds of each of the results holds of the least and of the greatest
module _ {E : Type 0} (K : Kind E) (P : E → Type 0) where
  either : (t : Bool) {x y : E} → P x → P y → P (cond t x y)
  either true p q = p
  either false p q = q

  pub lesser_any : {x y : E} → P x → P y → P (lesser K x y)
  lesser_any {x} {y} p q = either (K.lt y x) q p

  pub greater_any : {x y : E} → P x → P y → P (greater K x y)
  greater_any {x} {y} p q = either (K.lt y x) p q

  pub least_any : {p q r s : E} → P p → P q → P r → P s → P (least K p q r s)
  least_any a b c d = lesser_any (lesser_any (lesser_any a b) c) d

  pub greatest_any : {p q r s : E} → P p → P q → P r → P s → P (greatest K p q r s)
  greatest_any a b c d = greater_any (greater_any (greater_any a b) c) d

-- x is one of the four
abbrev pub Among : {E : Type 0} → E → E → E → E → E → Type 0
Among p q r s x = (x ≡ p) ⊎ (x ≡ q) ⊎ (x ≡ r) ⊎ (x ≡ s)

module _ {E : Type 0} (K : Kind E) (p q r s : E) where
  pub least_among : Among p q r s (least K p q r s)
  least_among = least_any K (Among p q r s) {p = p} {q = q} {r = r} {s = s} (inl refl) (inr (inl refl)) (inr (inr (inl refl))) (inr (inr (inr refl)))

  pub greatest_among : Among p q r s (greatest K p q r s)
  greatest_among = greatest_any K (Among p q r s) {p = p} {q = q} {r = r} {s = s} (inl refl) (inr (inl refl)) (inr (inr (inl refl))) (inr (inr (inr refl)))

-- ---- equal whole numbers

pub eq_z_yes : (a b : ℤ) → a ≡ b → eq_z a b ≡ true
eq_z_yes a b e = ap (λ (z : ℤ). eq_z a z) (sym e) ∙ same a
  where
    same : (a : ℤ) → eq_z a a ≡ true
    same (pos n) = eq-eqb n n refl
    same (negsuc n) = eq-eqb n n refl

pub eq_z_no : (a b : ℤ) → (a ≡ b → ⊥) → eq_z a b ≡ false
eq_z_no (pos a) (pos b) h = ne_eqb a b (λ e. h (ap pos e))
eq_z_no (pos a) (negsuc b) h = refl
eq_z_no (negsuc a) (pos b) h = refl
eq_z_no (negsuc a) (negsuc b) h = ne_eqb a b (λ e. h (ap negsuc e))

pub eq_z_true : (a b : ℤ) → eq_z a b ≡ true → a ≡ b
eq_z_true (pos a) (pos b) e = ap pos (eqb-true a b e)
eq_z_true (pos a) (negsuc b) e = absurd (subst T (sym e) tt)
eq_z_true (negsuc a) (pos b) e = absurd (subst T (sym e) tt)
eq_z_true (negsuc a) (negsuc b) e = ap negsuc (eqb-true a b e)
