-- A finite float is a fraction with a sign, (plus_of - minus_of) / den, of which one of the two parts is 0, so that its order is a fact of naturals, which `omega` reads.
--     at_most                   x ≤ y, multiplied out
--     lt_through, through_lt    x < y ≤ z and x ≤ y < z
-- Assumes nothing.
use mathlib.Core.Path.{◌≡◌, refl, sym, ◌∙◌}
use mathlib.Core.Bool.{Bool, true, false, cond}
use Prim.Native.Nat.{ℕ, ◌+◌, ◌*◌, ◌≤◌, ◌<◌}
use native.Mathlib.Nat.{add-zero, zero-add, add_comm, mul-lt-mul_of_pos_right, lt_of_mul-lt-mul_right, mul-le-mul_right, zero-mul}
use native.Mathlib.Omega.{arith}
use lib.Dec.{T, ltb}
use lib.Ieee.{Float, nan, inf, fin, up, down, below, lt}
use lib.Ieee.Positive.{den, den_pos}
use lib.Ieee.Scale.{finite}
use borrow.Author.Tests.{ltb-true, ltb-false, lt-ltb, le-ltb}

abbrev pub Finite : Float → Type 0
Finite x = T (finite x)

-- ±a as plus - minus
abbrev pub plus : Bool → ℕ → ℕ
plus s a = cond s 0 a

abbrev pub minus : Bool → ℕ → ℕ
minus s a = cond s a 0

abbrev pub plus_of : Float → ℕ
plus_of nan = 0
plus_of (inf s) = 0
plus_of (fin s m e) = plus s (m * up e)

abbrev pub minus_of : Float → ℕ
minus_of nan = 0
minus_of (inf s) = 0
minus_of (fin s m e) = minus s (m * up e)

pub plus_mul : (s : Bool) (a d : ℕ) → plus s (a * d) ≡ plus s a * d
plus_mul true a d = sym (zero-mul d)
plus_mul false a d = refl

pub minus_mul : (s : Bool) (a d : ℕ) → minus s (a * d) ≡ minus s a * d
minus_mul true a d = refl
minus_mul false a d = sym (zero-mul d)

-- ---- the order

below_is : (s : Bool) (a : ℕ) (t : Bool) (b : ℕ) → below s a t b ≡ ltb (plus s a + minus t b) (plus t b + minus s a)
below_is false a false b = simp add-zero
below_is false a true b = sym (le-ltb (a + b) (0 + 0) (omega arith))
below_is true a false b = rw (add_comm a b)
below_is true a true b = simp zero-add

pub below_back : (s : Bool) (a : ℕ) (t : Bool) (b : ℕ) → below s a t b ≡ true → below t b s a ≡ false
below_back s a t b h =
    let k = ltb-true (plus s a + minus t b) (plus t b + minus s a) (sym (below_is s a t b) ∙ h) in
    below_is t b s a ∙ le-ltb (plus t b + minus s a) (plus s a + minus t b) (omega arith)

lt_is : (x y : Float) → Finite x → Finite y → lt x y ≡ ltb (plus_of x * den y + minus_of y * den x) (plus_of y * den x + minus_of x * den y)
unfolding lt
lt_is nan y p q = absurd p
lt_is (inf s) y p q = absurd p
lt_is (fin s m e) nan p q = absurd q
lt_is (fin s m e) (inf t) p q = absurd q
lt_is (fin s m e) (fin t n d) p q =
    below_is s (m * up e * down d) t (n * up d * down e)
    ∙ rw (plus_mul s (m * up e) (down d), plus_mul t (n * up d) (down e), minus_mul s (m * up e) (down d), minus_mul t (n * up d) (down e))

-- (p - q) / d ≤ (p' - q') / d', multiplied out, and <
abbrev pub AtMost : ℕ → ℕ → ℕ → ℕ → ℕ → ℕ → Type 0
AtMost p q d p' q' d' = p * d' + q' * d ≤ p' * d + q * d'

abbrev Less : ℕ → ℕ → ℕ → ℕ → ℕ → ℕ → Type 0
Less p q d p' q' d' = p * d' + q' * d < p' * d + q * d'

module _ (x y : Float) (p : Finite x) (q : Finite y) where
  less : lt x y ≡ true → Less (plus_of x) (minus_of x) (den x) (plus_of y) (minus_of y) (den y)
  less e = ltb-true _ _ (sym (lt_is x y p q) ∙ e)

  is_less : Less (plus_of x) (minus_of x) (den x) (plus_of y) (minus_of y) (den y) → lt x y ≡ true
  is_less h = lt_is x y p q ∙ lt-ltb _ _ h

  pub at_most : lt y x ≡ false → AtMost (plus_of x) (minus_of x) (den x) (plus_of y) (minus_of y) (den y)
  at_most e = ltb-false _ _ (sym (lt_is y x q p) ∙ e)

-- x < y ≤ z, and x ≤ y < z
less_through : (p q d p' q' d' p'' q'' d'' : ℕ) → 0 < d'' → Less p q d p' q' d' → AtMost p' q' d' p'' q'' d'' → Less p q d p'' q'' d''
less_through p q d p' q' d' p'' q'' d'' pos h k =
    let u = mul-lt-mul_of_pos_right h pos in
    let v = mul-le-mul_right d k in
    lt_of_mul-lt-mul_right d' (omega arith)

through_less : (p q d p' q' d' p'' q'' d'' : ℕ) → 0 < d → AtMost p q d p' q' d' → Less p' q' d' p'' q'' d'' → Less p q d p'' q'' d''
through_less p q d p' q' d' p'' q'' d'' pos h k =
    let u = mul-le-mul_right d'' h in
    let v = mul-lt-mul_of_pos_right k pos in
    lt_of_mul-lt-mul_right d' (omega arith)

module _ (x y z : Float) (p : Finite x) (q : Finite y) (r : Finite z) where
  pub lt_through : lt x y ≡ true → lt z y ≡ false → lt x z ≡ true
  lt_through h k =
      is_less x z p r
      (less_through (plus_of x) (minus_of x) (den x) (plus_of y) (minus_of y) (den y) (plus_of z) (minus_of z) (den z) (den_pos z) (less x y p q h) (at_most y z q r k))

  pub through_lt : lt y x ≡ false → lt y z ≡ true → lt x z ≡ true
  through_lt h k =
      is_less x z p r
      (through_less (plus_of x) (minus_of x) (den x) (plus_of y) (minus_of y) (den y) (plus_of z) (minus_of z) (den z) (den_pos x) (at_most x y p q h) (less y z q r k))
