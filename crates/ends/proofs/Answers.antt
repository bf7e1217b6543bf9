-- Both ends of an answer, from the ends that a function called for. Assumes nothing.
use mathlib.Core.Path.{◌≡◌, refl, ap₂, ◌∙◌}
use mathlib.Core.Option.{Option, some}
use Rattle.numbers.specs.Result.{Result, ok, refused}
use Rattle.numbers.specs.Kind.{Kind, Span, lesser, greater}
use Rattle.base.specs.declared.Bound.{Bound}
use Rattle.ends.specs.Ends.{from_two, from_one, both, add_ends, sub_ends, neg_ends, mod_ends, pool_ends}
use Rattle.ends.specs.Code.{end_of, ends_of, both_ends}
use Rattle.ends.specs.declared.Range.{Range}

module _ {E : Type 0} (bound : Option E → Bound) where
  -- two ends, of which the lower's refusal comes first
  pub both_answer : (p q : Result (Option E)) {l u : Result Bound} {r : Result Range} → l ≡ end_of bound p → u ≡ end_of bound q → r ≡ both_ends l u → r ≡ ends_of bound (both p q)
  both_answer p q e f h = h ∙ ap₂ both_ends e f ∙ go p q
    where
      go : (p q : Result (Option E)) → both_ends (end_of bound p) (end_of bound q) ≡ ends_of bound (both p q)
      go (ok x) (ok y) = refl
      go (ok x) (refused k) = refl
      go (refused k) q = refl

  module _ (K : Kind E) where
    pub add_ends_lem : (x y : Span E) {l u : Result Bound} {r : Result Range}
        → l ≡ end_of bound (from_two K.add x.lower y.lower) → u ≡ end_of bound (from_two K.add x.upper y.upper) → r ≡ both_ends l u
        → r ≡ ends_of bound (add_ends K x y)
    unfolding add_ends
    add_ends_lem x y = both_answer (from_two K.add x.lower y.lower) (from_two K.add x.upper y.upper)

    pub sub_ends_lem : (x y : Span E) {l u : Result Bound} {r : Result Range}
        → l ≡ end_of bound (from_two K.sub x.lower y.upper) → u ≡ end_of bound (from_two K.sub x.upper y.lower) → r ≡ both_ends l u
        → r ≡ ends_of bound (sub_ends K x y)
    unfolding sub_ends
    sub_ends_lem x y = both_answer (from_two K.sub x.lower y.upper) (from_two K.sub x.upper y.lower)

    pub neg_ends_lem : (x : Span E) {l u : Result Bound} {r : Result Range}
        → l ≡ end_of bound (from_one K.neg x.upper) → u ≡ end_of bound (from_one K.neg x.lower) → r ≡ both_ends l u
        → r ≡ ends_of bound (neg_ends K x)
    unfolding neg_ends
    neg_ends_lem x = both_answer (from_one K.neg x.upper) (from_one K.neg x.lower)

    pub mod_ends_lem : (x y : Span E) {u : Result Bound} {r : Result Range}
        → u ≡ end_of bound (from_one K.last y.upper) → r ≡ both_ends (end_of bound (ok (some K.zero))) u → r ≡ ends_of bound (mod_ends K x y)
    unfolding mod_ends
    mod_ends_lem x y = both_answer (ok (some K.zero)) (from_one K.last y.upper) refl

    pub pool_ends_lem : (x y : Span E) {l u : Result Bound} {r : Result Range}
        → l ≡ end_of bound (from_two (λ a d. ok (lesser K a d)) x.lower y.lower)
        → u ≡ end_of bound (from_two (λ c f. ok (greater K f c)) x.upper y.upper) → r ≡ both_ends l u
        → r ≡ ends_of bound (pool_ends K x y)
    unfolding pool_ends
    pool_ends_lem x y = both_answer (from_two (λ a d. ok (lesser K a d)) x.lower y.lower) (from_two (λ c f. ok (greater K f c)) x.upper y.upper)
