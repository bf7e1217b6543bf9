-- A value between two others, and a function of two arguments between its four corners. Assumes nothing.
use mathlib.Core.Logic.{◌⊎◌, inl, inr, ⊎_elim}
use native.Mathlib.Omega.{arith}
use lib.IntN.{ℤ, neg_ℤ}
use lib.Signed.{lt_z, ◌≤ℤ◌}
use Rattle.numbers.proofs.Parts.{parts_le, lt_true, lt_false}
use Rattle.numbers.specs.Kind.{whole, lesser, greater, least, greatest}
use Rattle.containment.specs.Within.{Within}
use Rattle.containment.proofs.Order.{≤-refl, ≤_trans, neg_mono, choose}

-- z lies between l and r, whichever of them is the lesser
abbrev pub Hull : ℤ → ℤ → ℤ → Type 0
Hull l r z = ((l ≤ℤ z) × (z ≤ℤ r)) ⊎ ((r ≤ℤ z) × (z ≤ℤ l))

pub hull_low : {m l r z : ℤ} → m ≤ℤ l → m ≤ℤ r → Hull l r z → m ≤ℤ z
hull_low h k = ⊎_elim (λ p. ≤_trans h p.0) (λ p. ≤_trans k p.0)

pub hull_high : {m l r z : ℤ} → l ≤ℤ m → r ≤ℤ m → Hull l r z → z ≤ℤ m
hull_high h k = ⊎_elim (λ p. ≤_trans p.1 k) (λ p. ≤_trans p.1 h)

pub hull_neg : {l r z : ℤ} → Hull l r z → Hull (neg_ℤ l) (neg_ℤ r) (neg_ℤ z)
hull_neg = ⊎_elim (λ p. inr (neg_mono p.1, neg_mono p.0)) (λ p. inl (neg_mono p.1, neg_mono p.0))

-- the lesser and the greater of two
pub lesser_left : (x y : ℤ) → lesser whole x y ≤ℤ x
lesser_left x y = choose (lt_z y x) (λ z. z ≤ℤ x) (λ t. parts_le y x (omega (arith, lt_true y x t))) (λ t. ≤-refl x)

pub lesser_right : (x y : ℤ) → lesser whole x y ≤ℤ y
lesser_right x y = choose (lt_z y x) (λ z. z ≤ℤ y) (λ t. ≤-refl y) (λ t. parts_le x y (omega (arith, lt_false y x t)))

pub greater_left : (x y : ℤ) → x ≤ℤ greater whole x y
greater_left x y = choose (lt_z y x) (λ z. x ≤ℤ z) (λ t. ≤-refl x) (λ t. parts_le x y (omega (arith, lt_false y x t)))

pub greater_right : (x y : ℤ) → y ≤ℤ greater whole x y
greater_right x y = choose (lt_z y x) (λ z. y ≤ℤ z) (λ t. parts_le y x (omega (arith, lt_true y x t))) (λ t. ≤-refl y)

-- the least and the greatest of four
module _ (p q r s : ℤ) where
  pub least_1 : least whole p q r s ≤ℤ p
  least_1 = ≤_trans (lesser_left _ s) (≤_trans (lesser_left _ r) (lesser_left p q))

  pub least_2 : least whole p q r s ≤ℤ q
  least_2 = ≤_trans (lesser_left _ s) (≤_trans (lesser_left _ r) (lesser_right p q))

  pub least_3 : least whole p q r s ≤ℤ r
  least_3 = ≤_trans (lesser_left _ s) (lesser_right _ r)

  pub least_4 : least whole p q r s ≤ℤ s
  least_4 = lesser_right _ s

  pub greatest_1 : p ≤ℤ greatest whole p q r s
  greatest_1 = ≤_trans (greater_left p q) (≤_trans (greater_left _ r) (greater_left _ s))

  pub greatest_2 : q ≤ℤ greatest whole p q r s
  greatest_2 = ≤_trans (greater_right p q) (≤_trans (greater_left _ r) (greater_left _ s))

  pub greatest_3 : r ≤ℤ greatest whole p q r s
  greatest_3 = ≤_trans (greater_right _ r) (greater_left _ s)

  pub greatest_4 : s ≤ℤ greatest whole p q r s
  greatest_4 = greater_right _ s

  -- between two values that lie between p and r, and between q and s
  pub inside : {u v z : ℤ} → Hull u v z → Hull p r u → Hull q s v → Within (least whole p q r s) z (greatest whole p q r s)
  inside h k l = record {
    low = hull_low (hull_low least_1 least_3 k) (hull_low least_2 least_4 l) h;
    high = hull_high (hull_high greatest_1 greatest_3 k) (hull_high greatest_2 greatest_4 l) h;
  }
