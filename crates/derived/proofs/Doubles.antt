-- Finite doubles under the end rules.
--     double_numbers    no operation on them gives a NaN, unless it divides by zero
--     double_divides    Divide does not, of an entry whose lower does not exceed its upper
--     double_ordered    and their order is what the rules need
-- Assumes nothing.
use mathlib.Core.Path.{◌≡◌, refl, sym, subst, ◌∙◌}
use mathlib.Core.Bool.{Bool, true, false, cond, ◌&&◌, ◌||◌}
use Prim.Native.Nat.{ℕ, zero, suc, ◌+◌, ◌*◌, ◌%◌, ◌^◌, ◌<◌, ◌≤◌}
use native.Mathlib.Nat.{zero-mul, mul-le-mul_right, mul-pos}
use native.Mathlib.Omega.{arith}
use lib.Dec.{T, eqb, ltb, leb, leb→le}
use lib.Ieee.{Float, nan, inf, fin, binary64, up, down, neg, add, sub, mul, div, below, level, lt, eq, is_nan, fits}
use lib.Ieee.Fits.{up_pos}
use lib.IntN.{ℤ, pos, negsuc}
use borrow.Author.Tests.{ltb-true, le-ltb, ne_eqb, eqb-true}
use Rattle.numbers.specs.Kind.{Span, float, zero_float}
use Rattle.ends.specs.Signs.{Number}
use Rattle.round_trip.specs.WellFormed.{Double}
use Rattle.derived.proofs.Fitted.{KindFits, Divides}
use Rattle.derived.proofs.Fractions.{Finite, lt_through, through_lt}
use Rattle.derived.proofs.Rounded.{lt_same, lt_back, neg_lt, finite_number, neg_number, round_number, add_number, add_keeps}
use Rattle.derived.proofs.Ordered.{Entry, KindOrdered, refuted, entry_ends}
use Rattle.derived.proofs.Pooled.{float_along}

-- a double that is no NaN and not infinite
pub record FiniteDouble (x : Float) : Type 0 where
  pub finite : Finite x
  pub double : Double x

-- ---- no result is a NaN

neg_finite : (x : Float) → Finite x → Finite (neg x)
unfolding neg
neg_finite nan p = p
neg_finite (inf s) p = p
neg_finite (fin s m e) p = p

sub_number : (x y : Float) → Finite x → Finite y → Number (sub binary64 x y)
unfolding sub
sub_number x y p q = add_number x (neg y) p (neg_finite y q)

mul_number : (x y : Float) → Finite x → Finite y → Number (mul binary64 x y)
unfolding mul
mul_number nan y p q = absurd p
mul_number (inf s) y p q = absurd p
mul_number (fin s m e) nan p q = absurd q
mul_number (fin s m e) (inf t) p q = absurd q
mul_number (fin s m e) (fin t n d) p q = round_number binary64 _ (m * up e * (n * up d)) (down e * down d)

-- a divisor that is not zero
abbrev pub NotZero : Float → Type 0
NotZero x = eq x zero_float ≡ false

zero_equal : (t : Bool) (d : ℤ) → eq (fin t 0 d) zero_float ≡ true
unfolding eq
zero_equal true d = simp zero-mul
zero_equal false d = simp zero-mul

untaken : (t : Bool) (x y : Float) → (t ≡ true → ⊥) → Number y → Number (cond t x y)
untaken true x y h n = absurd (h refl)
untaken false x y h n = n

div_number : (x y : Float) → Finite x → Finite y → NotZero y → Number (div binary64 x y)
unfolding div
div_number nan y p q z = absurd p
div_number (inf s) y p q z = absurd p
div_number (fin s m e) nan p q z = absurd q
div_number (fin s m e) (inf t) p q z = absurd q
div_number (fin s m e) (fin t n d) p q z =
    untaken (eqb n 0) _ _ (λ h. subst T (sym (subst (λ (k : ℕ). eq (fin t k d) zero_float ≡ true) (sym (eqb-true n 0 h)) (zero_equal t d)) ∙ z) tt)
    (round_number binary64 _ (m * up e * down d) (n * up d * down e))

-- 0 < a, and a < 0
above_not : (t : Bool) (a b : ℕ) → below false b t a ≡ true → level t a false b ≡ false
above_not true a b h = absurd (subst T (sym h) tt)
above_not false a b h = let k = ltb-true b a h in rw (ne_eqb a b (λ e. omega arith))

under_not : (t : Bool) (a b : ℕ) → below t a false b ≡ true → level t a false b ≡ false
under_not true a b h = go (eqb a b) (eqb a 0) refl refl
  where
    go : (s u : Bool) → eqb a b ≡ s → eqb a 0 ≡ u → (s && u) ≡ false
    go true true e g =
        let i = eqb-true a b e in
        let j = eqb-true a 0 g in
        let k = ltb-true 0 (a + b) h in
        absurd (omega arith)
    go true false e g = refl
    go false u e g = refl
under_not false a b h = let k = ltb-true a b h in rw (ne_eqb a b (λ e. omega arith))

positive_not : (x : Float) → Finite x → lt zero_float x ≡ true → NotZero x
unfolding lt eq
positive_not nan p h = absurd p
positive_not (inf s) p h = absurd p
positive_not (fin t n d) p h = above_not t (n * up d * down (pos 0)) (0 * up (pos 0) * down d) h

negative_not : (x : Float) → Finite x → lt x zero_float ≡ true → NotZero x
unfolding lt eq
negative_not nan p h = absurd p
negative_not (inf s) p h = absurd p
negative_not (fin t n d) p h = under_not t (n * up d * down (pos 0)) (0 * up (pos 0) * down d) h

-- Divide divides by both ends where 0 < d ≤ f or d ≤ f < 0
either_side : (d f : Float) → Finite d → Finite f → lt f d ≡ false → (s t : Bool) → lt zero_float d ≡ s → lt f zero_float ≡ t → (s || t) ≡ true → NotZero d × NotZero f
either_side d f p q o true t e g h = (positive_not d p e, positive_not f q (lt_through zero_float d f tt p q e o))
either_side d f p q o false true e g h = (negative_not d p (through_lt d f zero_float p q tt o g), negative_not f q g)
either_side d f p q o false false e g h = absurd (subst T (sym h) tt)

pub double_divides : (y : Span Float) → Entry float FiniteDouble y → Divides float NotZero y
double_divides y q d f e g =
    let p = entry_ends float FiniteDouble y d f q e g in
    record {
      both = either_side d f p.lower.finite p.upper.finite p.ordered (lt zero_float d) (lt f zero_float) refl refl;
      upper = λ h. h;
      lower = λ h. h;
    }

pub double_numbers : KindFits float FiniteDouble Number NotZero
unfolding is_nan
double_numbers = record {
  keep = λ a p. finite_number a p.finite;
  zero = tt;
  neg = λ a p. neg_number a (finite_number a p.finite);
  add = λ a b p q. add_number a b p.finite q.finite;
  sub = λ a b p q. sub_number a b p.finite q.finite;
  mul = λ a b p q. mul_number a b p.finite q.finite;
  div = λ a b p q n. div_number a b p.finite q.finite n;
  last = λ a p. finite_number a p.finite;
}

-- ---- in order

sub_keeps : (a c d f : Float) → Finite a → Finite c → Finite d → Finite f → lt c a ≡ false → lt f d ≡ false → lt (sub binary64 c d) (sub binary64 a f) ≡ false
unfolding sub
sub_keeps a c d f pa pc pd pf h k = add_keeps a c (neg f) (neg d) pa pc (neg_finite f pf) (neg_finite d pd) h (neg_lt d f ∙ k)

mirror : (c : Float) → lt zero_float c ≡ true → lt c (neg c) ≡ false
unfolding lt neg
mirror nan h = refl
mirror (inf true) h = absurd (subst T (sym h) tt)
mirror (inf false) h = refl
mirror (fin true n d) h = absurd (subst T (sym h) tt)
mirror (fin false n d) h = refl

-- the smallest double above 0
unit : Float
unit = fin false 1 (negsuc 1073)

unit_least : (a d l : ℕ) → 0 < a → d ≤ l → 1 * 1 * d ≤ a * l
unit_least a d l p h = let k : 1 * l ≤ a * l = mul-le-mul_right l p in omega arith

third : (a b c d : Bool) → T (a && b && c && d) → T c
third true true true d h = tt
third true true false d h = h
third true false c d h = absurd h
third false b c d h = absurd h

tiny : (x : Float) → FiniteDouble x → lt zero_float x ≡ true → lt x unit ≡ false
unfolding lt unit fits
tiny nan p h = absurd p.finite
tiny (inf s) p h = absurd p.finite
tiny (fin true n d) p h = absurd (subst T (sym h) tt)
tiny (fin false zero d) p h = absurd (subst T (sym (simp zero-mul at h)) tt)
tiny (fin false (suc n) d) p h =
    le-ltb (suc n * up d * 2 ^ 1074) (1 * 1 * down d)
    (unit_least (suc n * up d) (down d) (2 ^ 1074) (mul-pos (omega arith) (up_pos d))
    (leb→le (down d) (2 ^ 1074)
    (third (eqb (suc n % 2) 1) (ltb (suc n) (2 ^ 53)) (leb (down d) (2 ^ 1074)) (ltb (suc n * up d) (2 ^ 1024 * down d)) p.double)))

above_unit : (s : Float) → Number s → lt s unit ≡ false → lt zero_float s ≡ true
unfolding lt unit is_nan
above_unit nan p h = absurd p
above_unit (inf true) p h = absurd (subst T h tt)
above_unit (inf false) p h = refl
above_unit (fin t n d) p h = lt_through zero_float (fin false 1 (negsuc 1073)) (fin t n d) tt tt tt refl h

unit_sum : add binary64 unit zero_float ≡ unit
unfolding add unit
unit_sum = refl

zero_sum : add binary64 zero_float zero_float ≡ zero_float
unfolding add
zero_sum = refl

follows : (s t : Bool) → (t ≡ false → s ≡ false) → s ≡ true → t ≡ true
follows s true h e = refl
follows s false h e = sym (h refl) ∙ e

module _ (a c : Float) (p : FiniteDouble a) (q : FiniteDouble c) (o : lt c a ≡ false) where
  -- 0 < a ≤ c
  above_both : lt zero_float a ≡ true → lt zero_float c ≡ true
  above_both h = lt_through zero_float a c tt p.finite q.finite h o

  sum_above : lt zero_float a ≡ true → lt zero_float (add binary64 a c) ≡ true
  unfolding unit
  sum_above h =
      above_unit (add binary64 a c) (add_number a c p.finite q.finite)
      (subst (λ (z : Float). lt (add binary64 a c) z ≡ false) unit_sum
      (add_keeps unit a zero_float c tt p.finite tt q.finite (tiny a p h) (lt_back zero_float c (above_both h))))

  sum_under : lt zero_float (add binary64 a c) ≡ true → lt zero_float c ≡ true
  sum_under =
      follows (lt zero_float (add binary64 a c)) (lt zero_float c)
      (λ e.
      subst (λ (z : Float). lt z (add binary64 a c) ≡ false) zero_sum
      (add_keeps a zero_float c zero_float p.finite tt q.finite tt (refuted (lt zero_float a) (lt zero_float c) above_both e) e))

pub double_ordered : KindOrdered float FiniteDouble
double_ordered = record {
  same = lt_same;
  back = lt_back;
  along = λ a b c p q r. float_along a b c p.finite q.finite r.finite;
  add = λ a c d f p q. add_keeps a c d f p.lower.finite p.upper.finite q.lower.finite q.upper.finite p.ordered q.ordered;
  sub = λ a c d f p q. sub_keeps a c d f p.lower.finite p.upper.finite q.lower.finite q.upper.finite p.ordered q.ordered;
  neg = λ a c p. neg_lt a c ∙ p.ordered;
  mirrored = λ c p. mirror c;
  sum = λ a c p. (sum_above a c p.lower p.upper p.ordered, sum_under a c p.lower p.upper p.ordered);
  last = λ d f p h. lt_back zero_float f (above_both d f p.lower p.upper p.ordered h);
}
