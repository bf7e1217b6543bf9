-- The order of floats, and the order that rounding keeps.
--     lt_same, lt_back, neg_lt    no float is below itself, nor below one that is below it; a negation turns the order round
--     round_number, add_number    what is rounded, and a sum of finite floats, is a number
--     add_keeps                   of finite floats, greater ones have a sum that is no less
-- Assumes nothing.
use mathlib.Core.Path.{◌≡◌, refl, sym, ap, subst, ◌∙◌}
use mathlib.Core.Bool.{Bool, true, false, cond, not, ◌&&◌, ◌||◌}
use Prim.Native.Nat.{ℕ, zero, suc, ◌+◌, ◌-◌, ◌*◌, ◌^◌, ◌≤◌, ◌<◌}
use native.Mathlib.Nat.{add_comm, add-mul, mul-le-mul_right, le_of_mul-le-mul_right, mul-pos}
use native.Mathlib.Omega.{arith}
use lib.Dec.{T, ltb, eqb}
use lib.Ieee.{Float, nan, inf, fin, Format, binary64, prec, emax, low, up, down, odd, units, round, neg, sum, add, below, lt, le, is_nan}
use lib.Ieee.Order.{round_mono}
use lib.Ieee.Positive.{den, den_pos}
use lib.Ieee.Scale.{round_same}
use borrow.Author.Tests.{ltb-true, ltb-false, eqb-true, le-ltb}
use Rattle.ends.specs.Signs.{Number}
use Rattle.derived.proofs.Fractions.{Finite, plus, minus, plus_of, minus_of, plus_mul, minus_mul, AtMost, below_back, at_most}

-- ---- the order

no_truth : {A : Type 0} → false ≡ true → A
no_truth e = absurd (subst T (sym e) tt)

pub lt_same : (x : Float) → lt x x ≡ false
unfolding lt
lt_same nan = refl
lt_same (inf true) = refl
lt_same (inf false) = refl
lt_same (fin true m e) = le-ltb (m * up e * down e) (m * up e * down e) (omega arith)
lt_same (fin false m e) = le-ltb (m * up e * down e) (m * up e * down e) (omega arith)

pub lt_back : (x y : Float) → lt x y ≡ true → lt y x ≡ false
unfolding lt
lt_back nan y h = no_truth h
lt_back (inf s) nan h = no_truth h
lt_back (inf true) (inf true) h = refl
lt_back (inf true) (inf false) h = refl
lt_back (inf false) (inf t) h = no_truth h
lt_back (inf true) (fin t n d) h = refl
lt_back (inf false) (fin t n d) h = no_truth h
lt_back (fin s m e) nan h = no_truth h
lt_back (fin s m e) (inf true) h = no_truth h
lt_back (fin s m e) (inf false) h = refl
lt_back (fin s m e) (fin t n d) h = below_back s (m * up e * down d) t (n * up d * down e) h

below_neg : (s : Bool) (a : ℕ) (t : Bool) (b : ℕ) → below (not s) a (not t) b ≡ below t b s a
below_neg false a false b = refl
below_neg false a true b = rw (add_comm a b)
below_neg true a false b = refl
below_neg true a true b = refl

pub neg_lt : (x y : Float) → lt (neg x) (neg y) ≡ lt y x
unfolding lt neg
neg_lt nan nan = refl
neg_lt nan (inf t) = refl
neg_lt nan (fin t n d) = refl
neg_lt (inf s) nan = refl
neg_lt (inf true) (inf true) = refl
neg_lt (inf true) (inf false) = refl
neg_lt (inf false) (inf true) = refl
neg_lt (inf false) (inf false) = refl
neg_lt (inf s) (fin t n d) = refl
neg_lt (fin s m e) nan = refl
neg_lt (fin s m e) (inf true) = refl
neg_lt (fin s m e) (inf false) = refl
neg_lt (fin s m e) (fin t n d) = below_neg s (m * up e * down d) t (n * up d * down e)

-- ---- a rounded fraction: not negative, or the negation of one that is not

abbrev Plus : Float → Type 0
Plus nan = ⊥
Plus (inf true) = ⊥
Plus (inf false) = Unit {0}
Plus (fin true m e) = ⊥
Plus (fin false m e) = Unit {0}

odd_plus : (d q k l : ℕ) → Plus (odd d false q k l)
unfolding odd
odd_plus d zero k l = tt
odd_plus d (suc q) k l = tt

odd_neg : (d q k l : ℕ) → odd d true q k l ≡ neg (odd d false q k l)
unfolding odd neg
odd_neg d zero k l = refl
odd_neg d (suc q) k l = refl

units_plus : (f : Format) (q k : ℕ) → Plus (units f false q k)
unfolding units
units_plus f q k = go (ltb (q * 2 ^ k) (2 ^ (low f + suc (emax f))))
  where
    go : (t : Bool) → Plus (cond t (odd (suc (prec f)) false q k (low f)) (inf false))
    go true = odd_plus (suc (prec f)) q k (low f)
    go false = tt

units_neg : (f : Format) (q k : ℕ) → units f true q k ≡ neg (units f false q k)
unfolding units neg
units_neg f q k = go (ltb (q * 2 ^ k) (2 ^ (low f + suc (emax f))))
  where
    go : (t : Bool) → cond t (odd (suc (prec f)) true q k (low f)) (inf true) ≡ neg (cond t (odd (suc (prec f)) false q k (low f)) (inf false))
    go true = odd_neg (suc (prec f)) q k (low f)
    go false = refl

module _ (f : Format) (a b : ℕ) where
  round_plus : Plus (round f false a b)
  unfolding round
  round_plus = units_plus f _ _

  round_neg : round f true a b ≡ neg (round f false a b)
  unfolding round
  round_neg = units_neg f _ _

pub finite_number : (x : Float) → Finite x → Number x
unfolding is_nan
finite_number nan p = absurd p
finite_number (inf s) p = tt
finite_number (fin s m e) p = tt

plus_number : (x : Float) → Plus x → Number x
unfolding is_nan
plus_number nan p = absurd p
plus_number (inf s) p = tt
plus_number (fin s m e) p = tt

pub neg_number : (x : Float) → Number x → Number (neg x)
unfolding is_nan neg
neg_number nan p = absurd p
neg_number (inf s) p = tt
neg_number (fin s m e) p = tt

pub round_number : (f : Format) (s : Bool) (a b : ℕ) → Number (round f s a b)
round_number f false a b = plus_number (round f false a b) (round_plus f a b)
round_number f true a b = rw (round_neg f a b) (neg_number (round f false a b) (plus_number (round f false a b) (round_plus f a b)))

-- ---- in order

plus_minus : (x y : Float) → Plus x → Plus y → lt x (neg y) ≡ false
unfolding lt neg
plus_minus nan y p q = absurd p
plus_minus (inf true) y p q = absurd p
plus_minus (inf false) nan p q = absurd q
plus_minus (inf false) (inf t) p q = refl
plus_minus (inf false) (fin t n d) p q = refl
plus_minus (fin true m e) y p q = absurd p
plus_minus (fin false m e) nan p q = absurd q
plus_minus (fin false m e) (inf true) p q = absurd q
plus_minus (fin false m e) (inf false) p q = refl
plus_minus (fin false m e) (fin true n d) p q = absurd q
plus_minus (fin false m e) (fin false n d) p q = refl

level_not : (a b : ℕ) → T (ltb a b || (eqb a b && true)) → ltb b a ≡ false
level_not a b h = go (ltb a b) (eqb a b) refl refl h
  where
    go : (s t : Bool) → ltb a b ≡ s → eqb a b ≡ t → T (s || (t && true)) → ltb b a ≡ false
    go true t e g h = le-ltb b a (omega (arith, ltb-true a b e))
    go false true e g h = le-ltb b a (omega (arith, eqb-true a b g))
    go false false e g h = absurd h

le_not : (x y : Float) → Plus x → Plus y → T (le x y) → lt y x ≡ false
unfolding lt le
le_not nan y p q h = absurd p
le_not (inf true) y p q h = absurd p
le_not (inf false) nan p q h = absurd q
le_not (inf false) (inf true) p q h = absurd q
le_not (inf false) (inf false) p q h = refl
le_not (inf false) (fin t n d) p q h = absurd h
le_not (fin true m e) y p q h = absurd p
le_not (fin false m e) nan p q h = absurd q
le_not (fin false m e) (inf true) p q h = absurd q
le_not (fin false m e) (inf false) p q h = refl
le_not (fin false m e) (fin true n d) p q h = absurd q
le_not (fin false m e) (fin false n d) p q h = level_not (m * up e * down d) (n * up d * down e) h

zeros : lt (round binary64 true 0 1) (round binary64 false 0 1) ≡ false
unfolding lt round
zeros = refl

nothing_of : (w c : ℕ) → 0 < c → w * c ≤ 0 → w ≡ 0
nothing_of w c p h =
    let i : w * c ≤ 0 * c = omega arith in
    let k : w ≤ 0 = le_of_mul-le-mul_right i p in
    omega arith

-- ±w / c ≤ ±w' / c'
pub round_keeps : (u u' : Bool) (w c w' c' : ℕ) → 0 < c → 0 < c' → AtMost (plus u w) (minus u w) c (plus u' w') (minus u' w') c'
    → lt (round binary64 u' w' c') (round binary64 u w c) ≡ false
round_keeps false false w c w' c' p q h =
    le_not _ _ (round_plus binary64 w c) (round_plus binary64 w' c') (round_mono binary64 w c w' c' p q (omega arith))
round_keeps false true w c w' c' p q h =
    let e = nothing_of w c' q (omega arith) in
    let e' = nothing_of w' c p (omega arith) in
    rw (round_same binary64 true w' c' 0 1 q (omega arith) (omega arith), round_same binary64 false w c 0 1 p (omega arith) (omega arith)) zeros
round_keeps true false w c w' c' p q h = rw (round_neg binary64 w c) (plus_minus _ _ (round_plus binary64 w' c') (round_plus binary64 w c))
round_keeps true true w c w' c' p q h =
    rw (round_neg binary64 w c, round_neg binary64 w' c')
    (neg_lt (round binary64 false w' c') (round binary64 false w c)
    ∙ le_not _ _ (round_plus binary64 w' c') (round_plus binary64 w c) (round_mono binary64 w' c' w c q p (omega arith)))

-- ---- a sum, rounded once

-- x is (p - q) / c, rounded
record Sum (x : Float) (p q c : ℕ) : Type 0 where
  sign : Bool
  size : ℕ
  is : x ≡ round binary64 sign size c
  balanced : p + minus sign size ≡ q + plus sign size

sum_is : (s : Bool) (a : ℕ) (t : Bool) (b c : ℕ) → Sum (sum binary64 s a t b c) (plus s a + plus t b) (minus s a + minus t b) c
unfolding sum
sum_is false a false b c = record { sign = false; size = a + b; is = refl; balanced = omega arith }
sum_is false a true b c = go (ltb a b) refl
  where
    go : (t : Bool) → ltb a b ≡ t → Sum (cond t (round binary64 true (b - a) c) (round binary64 false (a - b) c)) (a + 0) (0 + b) c
    go true e = let h = ltb-true a b e in record { sign = true; size = b - a; is = refl; balanced = omega arith }
    go false e = let h = ltb-false a b e in record { sign = false; size = a - b; is = refl; balanced = omega arith }
sum_is true a false b c = go (ltb a b) (ltb b a) refl refl
  where
    go : (t u : Bool) → ltb a b ≡ t → ltb b a ≡ u → Sum (cond t (round binary64 false (b - a) c) (round binary64 u (a - b) c)) (0 + b) (a + 0) c
    go true u e g = let h = ltb-true a b e in record { sign = false; size = b - a; is = refl; balanced = omega arith }
    go false true e g = let h = ltb-true b a g in record { sign = true; size = a - b; is = refl; balanced = omega arith }
    go false false e g =
        let h = ltb-false a b e in
        let k = ltb-false b a g in
        record { sign = false; size = a - b; is = refl; balanced = omega arith }
sum_is true a true b c = record { sign = true; size = a + b; is = refl; balanced = omega arith }

module _ (x y : Float) where
  -- over the product of the denominators
  abbrev plus_sum : ℕ
  plus_sum = plus_of x * den y + plus_of y * den x

  abbrev minus_sum : ℕ
  minus_sum = minus_of x * den y + minus_of y * den x

add_is : (x y : Float) → Finite x → Finite y → Sum (add binary64 x y) (plus_sum x y) (minus_sum x y) (den x * den y)
unfolding add
add_is nan y p q = absurd p
add_is (inf s) y p q = absurd p
add_is (fin s m e) nan p q = absurd q
add_is (fin s m e) (inf t) p q = absurd q
add_is (fin s m e) (fin t n d) p q =
    let r = sum_is s (m * up e * down d) t (n * up d * down e) (down e * down d) in
    record {
      sign = r.sign;
      size = r.size;
      is = r.is;
      balanced = omega (arith, r.balanced, plus_mul s (m * up e) (down d), plus_mul t (n * up d) (down e), minus_mul s (m * up e) (down d), minus_mul t (n * up d) (down e));
    }

pub add_number : (x y : Float) → Finite x → Finite y → Number (add binary64 x y)
add_number x y p q = let r = add_is x y p q in rw r.is (round_number binary64 r.sign r.size (den x * den y))

spread : (p e r d d' e' : ℕ) → (p * e + r * d) * (d' * e') ≡ p * d' * (e * e') + r * e' * (d * d')
spread p e r d d' e' = omega arith

spread' : (p e r d d' e' : ℕ) → (p * e + r * d) * (d' * e') ≡ p * d' * (e' * e) + r * e' * (d' * d)
spread' p e r d d' e' = omega arith

-- two fractions that are at most two others, added up
together : (p q d p' q' d' r s e r' s' e' : ℕ) → AtMost p q d p' q' d' → AtMost r s e r' s' e'
    → AtMost (p * e + r * d) (q * e + s * d) (d * e) (p' * e' + r' * d') (q' * e' + s' * d') (d' * e')
together p q d p' q' d' r s e r' s' e' h k =
    let u = simp add-mul at (mul-le-mul_right (e * e') h) in
    let v = simp add-mul at (mul-le-mul_right (d * d') k) in
    rw (spread p e r d d' e', spread' q' e' s' d' d e, spread' p' e' r' d' d e, spread q e s d d' e') (omega arith)

-- the same fractions by other parts
other_parts : (p q m n c p' q' m' n' c' : ℕ) → p + n ≡ q + m → p' + n' ≡ q' + m' → AtMost p q c p' q' c' → AtMost m n c m' n' c'
other_parts p q m n c p' q' m' n' c' e e' h =
    let u = ap (λ (z : ℕ). z * c') e in
    let v = ap (λ (z : ℕ). z * c) e' in
    omega arith

pub add_keeps : (a c d f : Float) → Finite a → Finite c → Finite d → Finite f → lt c a ≡ false → lt f d ≡ false
    → lt (add binary64 c f) (add binary64 a d) ≡ false
add_keeps a c d f pa pc pd pf h k =
    let r = add_is a d pa pd in
    let t = add_is c f pc pf in
    rw (r.is, t.is)
    (round_keeps r.sign t.sign r.size (den a * den d) t.size (den c * den f) (mul-pos (den_pos a) (den_pos d)) (mul-pos (den_pos c) (den_pos f))
    (other_parts (plus_sum a d) (minus_sum a d) (plus r.sign r.size) (minus r.sign r.size) (den a * den d)
    (plus_sum c f) (minus_sum c f) (plus t.sign t.size) (minus t.sign t.size) (den c * den f) r.balanced t.balanced
    (together (plus_of a) (minus_of a) (den a) (plus_of c) (minus_of c) (den c) (plus_of d) (minus_of d) (den d) (plus_of f) (minus_of f) (den f)
    (at_most a c pa pc h) (at_most d f pd pf k))))
