-- Of entries whose lower end does not exceed their upper, no end rule gives a lower that exceeds its upper: over the kind of number.
--     pool_ordered    Pool's rule, if the order is transitive
--     rule_ordered    the rule of every component, if the kind is `KindOrdered`: of Modulo where right's lower is above 0
-- Assumes nothing.
use mathlib.Core.Path.{◌≡◌, refl, sym, subst, ◌∙◌}
use mathlib.Core.Bool.{Bool, true, false, cond, not, ◌&&◌, ◌||◌}
use mathlib.Core.Option.{Option, none, some}
use lib.Dec.{T}
use Rattle.numbers.specs.Result.{Result, ok, refused, and_then}
use Rattle.numbers.specs.Kind.{Kind, Span, span_of, lesser, greater, least, greatest}
use Rattle.base.specs.Bounds.{positive}
use Rattle.base.specs.Checks.{crossed}
use Rattle.base.specs.declared.Component.{Component}
use Rattle.base.specs.declared.Component.TheVariants as C
use Rattle.ends.specs.Ends.{unknown, both, present, from_two, from_one, from_both, add_ends, sub_ends, neg_ends, abs_lower, abs_upper, abs_ends, corners, mul_corners, mul_ends, div_corners, div_upper, div_lower, div_present, div_by, div_ends, mod_ends, pool_ends, end_rule}
use Rattle.round_trip.specs.WellFormed.{Present, SpanFits}
use Rattle.derived.proofs.Values.{IfOk, value_both, value_more, value_then, value_either}

-- 5: "a lower bound exceeds its upper" is not so
abbrev pub Ordered : {E : Type 0} → Kind E → Span E → Type 0
Ordered K x = crossed K x.lower x.upper ≡ false

-- 16 of Modulo: "right lowers all above 0"; no other rule needs a check of its own
abbrev pub Asked : {E : Type 0} → Kind E → Component → Span E → Type 0
Asked K C.Abs y = Unit {0}
Asked K C.Add y = Unit {0}
Asked K C.Subtract y = Unit {0}
Asked K C.Multiply y = Unit {0}
Asked K C.Divide y = Unit {0}
Asked K C.Modulo y = positive K y.lower ≡ true
Asked K C.Log y = Unit {0}
Asked K C.Power y = Unit {0}
Asked K C.Negative y = Unit {0}
Asked K C.Pool y = Unit {0}

-- a test that holds would make one hold that does not
pub refuted : (s t : Bool) → (s ≡ true → t ≡ true) → t ≡ false → s ≡ false
refuted true t h e = sym (h refl) ∙ e
refuted false t h e = refl

module _ {E : Type 0} (K : Kind E) (P : E → Type 0) where
  -- an entry of the numbers in question
  pub record Entry (x : Span E) : Type 0 where
    pub ends : SpanFits P x
    pub ordered : Ordered K x

  -- its ends, where both are present
  pub record Ends (a c : E) : Type 0 where
    pub lower : P a
    pub upper : P c
    pub ordered : K.lt c a ≡ false

  -- a lower end and the upper that is derived after it
  abbrev pub Apart : Result E → Result E → Type 0
  Apart g h = IfOk (λ x. IfOk (λ y. K.lt y x ≡ false) h) g

  -- what the rules need of the order and of the operations
  pub record KindOrdered : Type 0 where
    pub same : (a : E) → K.lt a a ≡ false
    pub back : (a b : E) → K.lt a b ≡ true → K.lt b a ≡ false
    pub along : (a b c : E) → P a → P b → P c → K.lt a b ≡ true → K.lt b c ≡ true → K.lt a c ≡ true
    pub add : (a c d f : E) → Ends a c → Ends d f → Apart (K.add a d) (K.add c f)
    pub sub : (a c d f : E) → Ends a c → Ends d f → Apart (K.sub a f) (K.sub c d)
    pub neg : (a c : E) → Ends a c → Apart (K.neg c) (K.neg a)
    -- -c ≤ c for a c above 0
    pub mirrored : (c : E) → P c → IfOk (λ x. K.lt K.zero c ≡ true → K.lt c x ≡ false) (K.neg c)
    -- lower + upper is above 0 if the lower is, and only if the upper is
    pub sum : (a c : E) → Ends a c
        → IfOk (λ s. (K.lt K.zero a ≡ true → K.lt K.zero s ≡ true) × (K.lt K.zero s ≡ true → K.lt K.zero c ≡ true)) (K.add a c)
    pub last : (d f : E) → Ends d f → K.lt K.zero d ≡ true → IfOk (λ u. K.lt u K.zero ≡ false) (K.last f)

  pub entry_ends : (x : Span E) (a c : E) → Entry x → x.lower ≡ some a → x.upper ≡ some c → Ends a c
  unfolding crossed
  entry_ends x a c p e f = record {
    lower = subst (Present P) e p.ends.lower;
    upper = subst (Present P) f p.ends.upper;
    ordered = rw (e, f) at p.ordered;
  }

  -- ---- an end that is absent crosses none

  no_lower : (u : Result (Option E)) → IfOk (Ordered K) (both (ok none) u)
  unfolding crossed
  no_lower (ok y) = refl
  no_lower (refused k) = tt

  no_upper : (l : Result (Option E)) → IfOk (Ordered K) (both l (ok none))
  unfolding crossed
  no_upper (ok none) = refl
  no_upper (ok (some x)) = refl
  no_upper (refused k) = tt

  both_ordered : (g h : Result E) → Apart g h → IfOk (Ordered K) (both (present g) (present h))
  unfolding crossed
  both_ordered (ok x) (ok y) p = p
  both_ordered (ok x) (refused k) p = tt
  both_ordered (refused k) h p = tt

  two_ordered : (low high : E → E → Result E) (a d c f : Option E)
      → ((i j m n : E) → a ≡ some i → d ≡ some j → c ≡ some m → f ≡ some n → Apart (low i j) (high m n))
      → IfOk (Ordered K) (both (from_two low a d) (from_two high c f))
  unfolding from_two
  two_ordered low high none d c f h = no_lower (from_two high c f)
  two_ordered low high (some a) none c f h = no_lower (from_two high c f)
  two_ordered low high (some a) (some d) none f h = no_upper (present (low a d))
  two_ordered low high (some a) (some d) (some c) none h = no_upper (present (low a d))
  two_ordered low high (some a) (some d) (some c) (some f) h = both_ordered (low a d) (high c f) (h a d c f refl refl refl refl)

  one_ordered : (low high : E → Result E) (c a : Option E) → ((i j : E) → c ≡ some i → a ≡ some j → Apart (low i) (high j))
      → IfOk (Ordered K) (both (from_one low c) (from_one high a))
  unfolding from_one
  one_ordered low high none a h = no_lower (from_one high a)
  one_ordered low high (some c) none h = no_upper (present (low c))
  one_ordered low high (some c) (some a) h = both_ordered (low c) (high a) (h c a refl refl)

  from_both_ordered : (x : Span E) (rule : E → E → Result (Span E)) → ((a c : E) → x.lower ≡ some a → x.upper ≡ some c → IfOk (Ordered K) (rule a c))
      → IfOk (Ordered K) (from_both x.lower x.upper rule)
  unfolding from_both crossed
  from_both_ordered x rule h = go x.lower x.upper refl refl
    where
      go : (l u : Option E) → x.lower ≡ l → x.upper ≡ u → IfOk (Ordered K) (from_both l u rule)
      go none u e f = refl
      go (some a) none e f = refl
      go (some a) (some c) e f = h a c e f

  -- ---- Pool

  module _ (along : (a b c : E) → P a → P b → P c → K.lt a b ≡ true → K.lt b c ≡ true → K.lt a c ≡ true) where
    pooled : (a c d f : E) → Ends a c → Ends d f → K.lt (greater K f c) (lesser K a d) ≡ false
    pooled a c d f p q = go (K.lt c f) (K.lt d a) refl refl
      where
        go : (s t : Bool) → K.lt c f ≡ s → K.lt d a ≡ t → K.lt (cond s f c) (cond t d a) ≡ false
        go true true e g = q.ordered
        go true false e g = refuted (K.lt f a) (K.lt c a) (λ h. along c f a p.upper q.upper p.lower e h) p.ordered
        go false true e g = refuted (K.lt c d) (K.lt c a) (λ h. along c d a p.upper q.lower p.lower h g) p.ordered
        go false false e g = p.ordered

    pub pool_ordered : (x y : Span E) → Entry x → Entry y → IfOk (Ordered K) (pool_ends K x y)
    unfolding pool_ends
    pool_ordered x y p q =
        two_ordered (λ a d. ok (lesser K a d)) (λ c f. ok (greater K f c)) x.lower y.lower x.upper y.upper
        (λ a d c f e g h k. pooled a c d f (entry_ends x a c p e h) (entry_ends y d f q g k))

  -- ---- the other components

  module _ (law : KindOrdered) where
    -- the least and the greatest of four, whatever they are
    widened : (m n r : E) → K.lt n m ≡ false → K.lt (greater K n r) (lesser K m r) ≡ false
    widened m n r h = go (K.lt r m) (K.lt r n) refl refl
      where
        go : (s t : Bool) → K.lt r m ≡ s → K.lt r n ≡ t → K.lt (cond t n r) (cond s r m) ≡ false
        go true true e f = law.back r n f
        go true false e f = law.same r
        go false true e f = h
        go false false e f = e

    least_first : (p q r s : E) → K.lt (greatest K p q r s) (least K p q r s) ≡ false
    least_first p q r s = widened _ _ s (widened _ _ r (widened p p q (law.same p)))

    corners_ordered : (p q r s : Result E) → IfOk (Ordered K) (corners K p q r s)
    unfolding corners crossed
    corners_ordered (ok p) (ok q) (ok r) (ok s) = least_first p q r s
    corners_ordered (ok p) (ok q) (ok r) (refused k) = tt
    corners_ordered (ok p) (ok q) (refused k) s = tt
    corners_ordered (ok p) (refused k) r s = tt
    corners_ordered (refused k) q r s = tt

    nothing : IfOk (Ordered K) unknown
    unfolding crossed
    nothing = refl

    upper_alone : (p q : Result E) → IfOk (Ordered K) (and_then p (λ x. and_then q (λ y. ok (span_of none (some (greater K x y))))))
    unfolding crossed
    upper_alone (ok x) (ok y) = refl
    upper_alone (ok x) (refused k) = tt
    upper_alone (refused k) q = tt

    lower_alone : (p q : Result E) → IfOk (Ordered K) (and_then p (λ x. and_then q (λ y. ok (span_of (some (lesser K x y)) none))))
    unfolding crossed
    lower_alone (ok x) (ok y) = refl
    lower_alone (ok x) (refused k) = tt
    lower_alone (refused k) q = tt

    div_ordered : (a c : E) (d f : Option E) → IfOk (Ordered K) (div_by K a c d f)
    unfolding div_by div_present div_corners div_upper div_lower
    div_ordered a c none none = tt
    div_ordered a c none (some f) = value_either (Ordered K) (K.lt f K.zero) unknown (refused 23) nothing tt
    div_ordered a c (some d) none = value_either (Ordered K) (K.lt K.zero d) unknown (refused 23) nothing tt
    div_ordered a c (some d) (some f) =
        value_either (Ordered K) (K.lt K.zero d || K.lt f K.zero) (div_corners K a c d f) _
        (corners_ordered (K.div a f) (K.div a d) (K.div c f) (K.div c d))
        (value_either (Ordered K) (K.is_zero d && not (K.is_zero f)) (div_upper K a c f) _ (upper_alone (K.div a f) (K.div c f))
        (value_either (Ordered K) (not (K.is_zero d) && K.is_zero f) (div_lower K a c d) unknown (lower_alone (K.div a d) (K.div c d)) nothing))

    abs_apart : (a c : E) → Ends a c → Apart (abs_lower K a c) (abs_upper K a c)
    unfolding abs_lower abs_upper
    abs_apart a c p = go (K.lt K.zero a) refl
      where
        go : (t : Bool) → K.lt K.zero a ≡ t → Apart (cond t (ok a) (K.neg c)) (abs_upper K a c)
        go true e = value_then _ (λ y. K.lt y a ≡ false) (K.add a c) _ (law.sum a c p) (λ s h. rw (h.0 e) p.ordered)
        go false e =
            value_more _ _ (K.neg c) (value_both _ _ (K.neg c) (law.neg a c p) (law.mirrored c p.upper))
            (λ x h. value_then _ (λ y. K.lt y x ≡ false) (K.add a c) _ (law.sum a c p) (λ s k. upper (K.lt K.zero s) (λ i. h.1 (k.1 i)) h.0))
          where
            upper : {x : E} (t : Bool) → (t ≡ true → K.lt c x ≡ false) → IfOk (λ y. K.lt y x ≡ false) (K.neg a) → IfOk (λ y. K.lt y x ≡ false) (cond t (ok c) (K.neg a))
            upper true i j = i refl
            upper false i j = j

    mod_ordered : (y : Span E) → Entry y → positive K y.lower ≡ true → IfOk (Ordered K) (both (ok (some K.zero)) (from_one K.last y.upper))
    unfolding from_one
    mod_ordered y q h = go y.lower y.upper refl refl h
      where
        go : (d f : Option E) → y.lower ≡ d → y.upper ≡ f → positive K d ≡ true → IfOk (Ordered K) (both (ok (some K.zero)) (from_one K.last f))
        go none f e g h = absurd (subst T (sym h) tt)
        go (some d) none e g h = no_upper (ok (some K.zero))
        go (some d) (some f) e g h = both_ordered (ok K.zero) (K.last f) (law.last d f (entry_ends y d f q e g) h)

    pub rule_ordered : (c : Component) (x y : Span E) → Entry x → Entry y → Asked K c y → IfOk (Ordered K) (end_rule K c x y)
    unfolding end_rule abs_ends add_ends sub_ends mul_ends mul_corners div_ends mod_ends neg_ends
    rule_ordered C.Abs x y p q h =
        from_both_ordered x _ (λ a c e g. both_ordered (abs_lower K a c) (abs_upper K a c) (abs_apart a c (entry_ends x a c p e g)))
    rule_ordered C.Add x y p q h =
        two_ordered K.add K.add x.lower y.lower x.upper y.upper
        (λ a d c f e g h k. law.add a c d f (entry_ends x a c p e h) (entry_ends y d f q g k))
    rule_ordered C.Subtract x y p q h =
        two_ordered K.sub K.sub x.lower y.upper x.upper y.lower
        (λ a f c d e g h k. law.sub a c d f (entry_ends x a c p e h) (entry_ends y d f q k g))
    rule_ordered C.Multiply x y p q h =
        from_both_ordered x _ (λ a c e g. from_both_ordered y _ (λ d f e g. corners_ordered (K.mul a d) (K.mul a f) (K.mul c d) (K.mul c f)))
    rule_ordered C.Divide x y p q h = from_both_ordered x _ (λ a c e g. div_ordered a c y.lower y.upper)
    rule_ordered C.Modulo x y p q h = mod_ordered y q h
    rule_ordered C.Log x y p q h = nothing
    rule_ordered C.Power x y p q h = nothing
    rule_ordered C.Negative x y p q h =
        one_ordered K.neg K.neg x.upper x.lower (λ c a e g. law.neg a c (entry_ends x a c p g e))
    rule_ordered C.Pool x y p q h = pool_ordered law.along x y p q
