-- Whatever an end rule answers holds the exact result of numbers in its operands' entries, absent ends included: a law for each component.
--     end_by_end_too_narrow    the ends that 01 gave Subtract would not
-- Assumes nothing.
use mathlib.Core.Path.{◌≡◌, refl, sym, ap, subst, ◌∙◌}
use mathlib.Core.Bool.{Bool, true, false, cond}
use mathlib.Core.Logic.{⊎_elim}
use mathlib.Core.Option.{Option, none, some}
use native.Mathlib.Omega.{arith}
use lib.Dec.{T, eqb}
use lib.IntN.{ℤ, pos, negsuc, neg_ℤ, nat_abs, ◌+ℤ◌, ◌-ℤ◌, ◌*ℤ◌}
use lib.Signed.{lt_z, quot_z, ◌≤ℤ◌, ◌<ℤ◌}
use borrow.Author.Tests.{eqb-false}
use Rattle.numbers.specs.Result.{Result, ok, refused}
use Rattle.numbers.specs.Checked.{checked_of, quotient_of}
use Rattle.numbers.specs.Kind.{Span, whole, fitting, lesser, greater, least, greatest, span_of}
use Rattle.std.specs.declared.option.Option.TheVariants.{None}
use Rattle.numbers.proofs.Laws.{exactly}
use Rattle.numbers.proofs.Parts.{le_parts, parts_le, true_lt, false_lt, lt_true}
use Rattle.numbers.proofs.Results.{ok_same, never, then_ok_inv}
use Rattle.ends.specs.Ends.{unknown, both, present, from_two, from_one, add_ends, sub_ends, neg_ends, abs_lower, abs_upper, abs_ends, corners, mul_corners, mul_ends, div_corners, div_by, div_ends, mod_ends, pool_ends}
use Rattle.ends.proofs.Rules.{div_above, div_below}
use Rattle.category_lists.specs.Categories.{remainder}
use Rattle.derived.proofs.Answers.{some_same}
use Rattle.containment.specs.Exact.{Side, from_left, from_right, taken}
use Rattle.containment.specs.Demand.{AtLeast, AtMost, InSpan, SpanOffZero}
use Rattle.containment.specs.Within.{Within}
use Rattle.containment.specs.Asks.{LowerAboveZero}
use Rattle.containment.proofs.Order.{≤-refl, ≤_trans, add_mono, sub_mono, neg_mono, lt_one, lt_minus}
use Rattle.containment.proofs.Answers.{nothing, both_inv, present_is, end_is, low_end, high_end, no_low, no_high, from_both_lem}
use Rattle.containment.proofs.Corners.{lesser_left, lesser_right, greater_left, greater_right}
use Rattle.containment.proofs.Products.{mul_inside}
use Rattle.containment.proofs.Quotients.{Quotient, quot_above, quot_below}
use Rattle.containment.proofs.Ends.{abs_inside, mod_inside}

-- ---- Add, Subtract, Pool and Negative, one end at a time

-- v is what is made of two numbers: P and Q say what the ends that make an end are to them
module _ (P Q : Option ℤ → Type 0) (v : ℤ) where
  two_low : (rule : ℤ → ℤ → Result ℤ) (a d t : Option ℤ) → ((a d w : ℤ) → rule a d ≡ ok w → P (some a) → Q (some d) → w ≤ℤ v)
      → from_two rule a d ≡ ok t → P a → Q d → AtLeast t v
  unfolding from_two
  two_low rule none d t law e h k = no_low t v e
  two_low rule (some a) none t law e h k = no_low t v e
  two_low rule (some a) (some d) t law e h k = let p = present_is (rule a d) e in low_end p.2 (law a d p.0 p.1 h k)

  two_high : (rule : ℤ → ℤ → Result ℤ) (c f t : Option ℤ) → ((c f w : ℤ) → rule c f ≡ ok w → P (some c) → Q (some f) → v ≤ℤ w)
      → from_two rule c f ≡ ok t → P c → Q f → AtMost t v
  unfolding from_two
  two_high rule none f t law e h k = no_high t v e
  two_high rule (some c) none t law e h k = no_high t v e
  two_high rule (some c) (some f) t law e h k = let p = present_is (rule c f) e in high_end p.2 (law c f p.0 p.1 h k)

module _ (x y : ℤ) where
  -- lower end with lower end, upper end with upper end
  two_keeps : (v : ℤ) (low high : ℤ → ℤ → Result ℤ) (X Y Z : Span ℤ)
      → ((a d w : ℤ) → low a d ≡ ok w → a ≤ℤ x → d ≤ℤ y → w ≤ℤ v) → ((c f w : ℤ) → high c f ≡ ok w → x ≤ℤ c → y ≤ℤ f → v ≤ℤ w)
      → both (from_two low X.lower Y.lower) (from_two high X.upper Y.upper) ≡ ok Z
      → InSpan (some X) x → InSpan (some Y) y → InSpan (some Z) v
  two_keeps v low high X Y Z f g e p q =
      let j = both_inv (from_two low X.lower Y.lower) (from_two high X.upper Y.upper) e in (
        two_low (λ o. AtLeast o x) (λ o. AtLeast o y) v low X.lower Y.lower Z.lower f j.0 p.0 q.0,
        two_high (λ o. AtMost o x) (λ o. AtMost o y) v high X.upper Y.upper Z.upper g j.1 p.1 q.1,
      )

  pub add_keeps : (X Y Z : Span ℤ) → add_ends whole X Y ≡ ok Z → InSpan (some X) x → InSpan (some Y) y → InSpan (some Z) (x +ℤ y)
  unfolding add_ends
  add_keeps X Y Z e p q =
      two_keeps (x +ℤ y) whole.add whole.add X Y Z
      (λ a d w i h k. subst (λ (n : ℤ). n ≤ℤ (x +ℤ y)) (sym (exactly (a +ℤ d) i)) (add_mono h k))
      (λ c f w i h k. subst (λ (n : ℤ). (x +ℤ y) ≤ℤ n) (sym (exactly (c +ℤ f) i)) (add_mono h k))
      e p q

  -- a ≤ x ≤ c and d ≤ y ≤ f give a − f ≤ x − y ≤ c − d
  pub sub_keeps : (X Y Z : Span ℤ) → sub_ends whole X Y ≡ ok Z → InSpan (some X) x → InSpan (some Y) y → InSpan (some Z) (x -ℤ y)
  unfolding sub_ends
  sub_keeps X Y Z e p q =
      let j = both_inv (from_two whole.sub X.lower Y.upper) (from_two whole.sub X.upper Y.lower) e in (
        two_low (λ o. AtLeast o x) (λ o. AtMost o y) (x -ℤ y) whole.sub X.lower Y.upper Z.lower
            (λ a f w i h k. subst (λ (n : ℤ). n ≤ℤ (x -ℤ y)) (sym (exactly (a -ℤ f) i)) (sub_mono h k)) j.0 p.0 q.1,
        two_high (λ o. AtMost o x) (λ o. AtLeast o y) (x -ℤ y) whole.sub X.upper Y.lower Z.upper
            (λ c d w i h k. subst (λ (n : ℤ). (x -ℤ y) ≤ℤ n) (sym (exactly (c -ℤ d) i)) (sub_mono h k)) j.1 p.1 q.0,
      )

  -- whichever side is taken, what holds of both operands holds of it
  pub taken_is : (P : ℤ → Type 0) (side : Side) → P x → P y → P (taken side x y)
  taken_is P from_left h k = h
  taken_is P from_right h k = k

  pub pool_keeps : (side : Side) (X Y Z : Span ℤ) → pool_ends whole X Y ≡ ok Z → InSpan (some X) x → InSpan (some Y) y → InSpan (some Z) (taken side x y)
  unfolding pool_ends
  pool_keeps side X Y Z e p q =
      two_keeps (taken side x y) (λ a d. ok (lesser whole a d)) (λ c f. ok (greater whole f c)) X Y Z
      (λ a d w i h k.
      subst (λ (n : ℤ). n ≤ℤ taken side x y) (ok_same i)
      (taken_is (λ n. lesser whole a d ≤ℤ n) side (≤_trans (lesser_left a d) h) (≤_trans (lesser_right a d) k)))
      (λ c f w i h k.
      subst (λ (n : ℤ). taken side x y ≤ℤ n) (ok_same i)
      (taken_is (λ n. n ≤ℤ greater whole f c) side (≤_trans h (greater_right f c)) (≤_trans k (greater_left f c))))
      e p q

-- why Subtract's ends cross: with lower − lower and upper − upper, as 01 had it, 0 is in [0, 0] and in [0, 1], and 0 − 0 is not in [0, −1]
pub end_by_end_too_narrow :
    (both (from_two whole.sub (some (pos 0)) (some (pos 0))) (from_two whole.sub (some (pos 0)) (some (pos 1))) ≡ ok (span_of (some (pos 0)) (some (negsuc 0))))
    × (InSpan (some (span_of (some (pos 0)) (some (pos 0)))) (pos 0))
    × (InSpan (some (span_of (some (pos 0)) (some (pos 1)))) (pos 0))
    × (InSpan (some (span_of (some (pos 0)) (some (negsuc 0)))) (pos 0 -ℤ pos 0) → ⊥)
unfolding from_two checked_of
end_by_end_too_narrow = (refl, (record { le = tt }, record { le = tt }), (record { le = tt }, record { le = tt }), λ k. k.1.le)

neg_low : (x : ℤ) (c t : Option ℤ) → from_one whole.neg c ≡ ok t → AtMost c x → AtLeast t (neg_ℤ x)
unfolding from_one
neg_low x none t e h = no_low t (neg_ℤ x) e
neg_low x (some c) t e h = low_end (end_is (neg_ℤ c) e) (neg_mono h)

neg_high : (x : ℤ) (a t : Option ℤ) → from_one whole.neg a ≡ ok t → AtLeast a x → AtMost t (neg_ℤ x)
unfolding from_one
neg_high x none t e h = no_high t (neg_ℤ x) e
neg_high x (some a) t e h = high_end (end_is (neg_ℤ a) e) (neg_mono h)

pub neg_keeps : (x : ℤ) (X Z : Span ℤ) → neg_ends whole X ≡ ok Z → InSpan (some X) x → InSpan (some Z) (neg_ℤ x)
unfolding neg_ends
neg_keeps x X Z e p =
    let j = both_inv (from_one whole.neg X.upper) (from_one whole.neg X.lower) e in
    (neg_low x X.upper Z.lower j.0 p.1, neg_high x X.lower Z.upper j.1 p.0)

-- ---- Abs

pick_ok : (t : Bool) (a n : ℤ) {l : ℤ} → cond t (ok a) (fitting (checked_of n)) ≡ ok l → l ≡ cond t a n
pick_ok true a n e = cc
pick_ok false a n e = exactly n e

lower_is : (a c : ℤ) {l : ℤ} → abs_lower whole a c ≡ ok l → l ≡ cond (lt_z (pos 0) a) a (neg_ℤ c)
unfolding abs_lower
lower_is a c e = pick_ok (lt_z (pos 0) a) a (neg_ℤ c) e

upper_is : (a c : ℤ) {u : ℤ} → abs_upper whole a c ≡ ok u → u ≡ cond (lt_z (pos 0) (a +ℤ c)) c (neg_ℤ a)
unfolding abs_upper
upper_is a c e =
    let g = then_ok_inv (fitting (checked_of (a +ℤ c))) _ e in
    pick_ok (lt_z (pos 0) g.value) c (neg_ℤ a) g.after ∙ ap (λ (n : ℤ). cond (lt_z (pos 0) n) c (neg_ℤ a)) (exactly (a +ℤ c) g.is)

pub abs_keeps : (x : ℤ) (X Z : Span ℤ) → abs_ends whole X ≡ ok Z → InSpan (some X) x → InSpan (some Z) (pos (nat_abs x))
unfolding abs_ends
abs_keeps x X Z e p = from_both_lem x (λ s. InSpan (some s) (pos (nat_abs x))) _ X.lower X.upper (λ w f. nothing w (pos (nat_abs x)) f) two e p.0 p.1
  where
    two : (a c : ℤ) → Within a x c → both (present (abs_lower whole a c)) (present (abs_upper whole a c)) ≡ ok Z → InSpan (some Z) (pos (nat_abs x))
    two a c h e =
        let j = both_inv (present (abs_lower whole a c)) (present (abs_upper whole a c)) e in
        let l = present_is (abs_lower whole a c) j.0 in
        let u = present_is (abs_upper whole a c) j.1 in
        let w = abs_inside h in
        (low_end (l.2 ∙ ap some (lower_is a c l.1)) w.low, high_end (u.2 ∙ ap some (upper_is a c u.1)) w.high)

-- ---- Multiply and Divide: four results that give ends were four numbers

module _ (a b c d : ℤ) where
  corners_are : (p q r s : Result ℤ) {Z : Span ℤ} → corners whole p q r s ≡ ok Z
      → ((v : ℤ) → p ≡ ok v → v ≡ a) → ((v : ℤ) → q ≡ ok v → v ≡ b) → ((v : ℤ) → r ≡ ok v → v ≡ c) → ((v : ℤ) → s ≡ ok v → v ≡ d)
      → Z ≡ span_of (some (least whole a b c d)) (some (greatest whole a b c d))
  unfolding corners
  corners_are (refused n) q r s e f g h k = absurd (never (sym e))
  corners_are (ok v) (refused n) r s e f g h k = absurd (never (sym e))
  corners_are (ok v) (ok w) (refused n) s e f g h k = absurd (never (sym e))
  corners_are (ok v) (ok w) (ok x) (refused n) e f g h k = absurd (never (sym e))
  corners_are (ok v) (ok w) (ok x) (ok y) e f g h k =
      let o = f v refl in
      let l = g w refl in
      let m = h x refl in
      let n = k y refl in
      sym (ok_same e) ∙ (λ i. span_of (some (least whole (o i) (l i) (m i) (n i))) (some (greatest whole (o i) (l i) (m i) (n i))))

between_ends : {Z : Span ℤ} {l u v : ℤ} → Z ≡ span_of (some l) (some u) → Within l v u → InSpan (some Z) v
between_ends {v} o w = subst (λ (s : Span ℤ). InSpan (some s) v) (sym o) (w.low, w.high)

module _ (x y : ℤ) where
  products : (a c d f : ℤ) {Z : Span ℤ} → mul_corners whole a c d f ≡ ok Z → Within a x c → Within d y f → InSpan (some Z) (x *ℤ y)
  unfolding mul_corners
  products a c d f e h k =
      between_ends
      (corners_are (a *ℤ d) (a *ℤ f) (c *ℤ d) (c *ℤ f) (whole.mul a d) (whole.mul a f) (whole.mul c d) (whole.mul c f) e
      (λ v i. exactly (a *ℤ d) i) (λ v i. exactly (a *ℤ f) i) (λ v i. exactly (c *ℤ d) i) (λ v i. exactly (c *ℤ f) i))
      (mul_inside h k)

  pub mul_keeps : (X Y Z : Span ℤ) → mul_ends whole X Y ≡ ok Z → InSpan (some X) x → InSpan (some Y) y → InSpan (some Z) (x *ℤ y)
  unfolding mul_ends
  mul_keeps X Y Z e p q =
      from_both_lem x (λ s. InSpan (some s) (x *ℤ y)) _ X.lower X.upper (λ w f. nothing w (x *ℤ y) f)
      (λ a c h e.
      from_both_lem y (λ s. InSpan (some s) (x *ℤ y)) (λ d f. mul_corners whole a c d f) Y.lower Y.upper (λ w f. nothing w (x *ℤ y) f)
      (λ d f k e. products a c d f e h k) e q.0 q.1)
      e p.0 p.1

pub quotient_inv : (a b : ℤ) {v : ℤ} → fitting (quotient_of a b) ≡ ok v → (nat_abs b ≡ 0 → ⊥) × (v ≡ quot_z a b)
unfolding quotient_of
quotient_inv a b e = go (eqb (nat_abs b) 0) refl e
  where
    go : (t : Bool) {v : ℤ} → eqb (nat_abs b) 0 ≡ t → fitting (cond t None (checked_of (quot_z a b))) ≡ ok v → (nat_abs b ≡ 0 → ⊥) × (v ≡ quot_z a b)
    go true h e = absurd (never (sym e))
    go false h e = (eqb-false (nat_abs b) 0 h, exactly (quot_z a b) e)

module _ (x y : ℤ) where
  quotients : (a c d f : ℤ) {Z : Span ℤ} → div_corners whole a c d f ≡ ok Z → Quotient a x c d y f → InSpan (some Z) (quot_z x y)
  unfolding div_corners
  quotients a c d f e w =
      between_ends
      (corners_are (quot_z a f) (quot_z a d) (quot_z c f) (quot_z c d) (whole.div a f) (whole.div a d) (whole.div c f) (whole.div c d) e
      (λ v i. (quotient_inv a f i).1) (λ v i. (quotient_inv a d i).1) (λ v i. (quotient_inv c f i).1) (λ v i. (quotient_inv c d i).1))
      w

  -- one end absent: both are, or 23
  open_keeps : (t : Bool) {Z : Span ℤ} → cond t unknown (refused 23) ≡ ok Z → InSpan (some Z) (quot_z x y)
  open_keeps true {Z} e = nothing Z (quot_z x y) e
  open_keeps false e = absurd (never (sym e))

  by_range : (a c : ℤ) (dl fu : Option ℤ) {Z : Span ℤ} → div_by whole a c dl fu ≡ ok Z → Within a x c
      → AtLeast dl y → AtMost fu y → SpanOffZero (some (span_of dl fu)) → InSpan (some Z) (quot_z x y)
  unfolding div_by
  by_range a c none none e h l u z = absurd (never (sym e))
  by_range a c none (some f) e h l u z = open_keeps (lt_z f (pos 0)) e
  by_range a c (some d) none e h l u z = open_keeps (lt_z (pos 0) d) e
  by_range a c (some d) (some f) {Z} e h l u z = ⊎_elim above below z
    where
      above : (g : ℤ) × (◌≡◌ {A = Option ℤ} (some d) (some g)) × (pos 0 <ℤ g) → InSpan (some Z) (quot_z x y)
      above p =
          let g : pos 1 ≤ℤ d = subst (λ (t : ℤ). pos 1 ≤ℤ t) (some_same (sym p.1)) (lt_one p.2) in
          let t = true_lt (pos 0) d (omega (arith, le_parts g)) in
          quotients a c d f (sym (div_above whole a c d f t) ∙ e) (quot_above h (record { low = l; high = u }) g)

      below : (g : ℤ) × (◌≡◌ {A = Option ℤ} (some f) (some g)) × (g <ℤ pos 0) → InSpan (some Z) (quot_z x y)
      below p =
          let g : f ≤ℤ negsuc 0 = subst (λ (t : ℤ). t ≤ℤ negsuc 0) (some_same (sym p.1)) (lt_minus p.2) in
          let n = le_parts l in
          let m = le_parts u in
          let k = le_parts g in
          let t = false_lt (pos 0) d (omega arith) in
          let v = true_lt f (pos 0) (omega arith) in
          quotients a c d f (sym (div_below whole a c d f t v) ∙ e) (quot_below h (record { low = l; high = u }) g)

  pub div_keeps : (X Y Z : Span ℤ) → SpanOffZero (some Y) → div_ends whole X Y ≡ ok Z → InSpan (some X) x → InSpan (some Y) y → InSpan (some Z) (quot_z x y)
  unfolding div_ends
  div_keeps X Y Z z e p q =
      from_both_lem x (λ s. InSpan (some s) (quot_z x y)) _ X.lower X.upper (λ w f. nothing w (quot_z x y) f)
      (λ a c h e. by_range a c Y.lower Y.upper e h q.0 q.1 z)
      e p.0 p.1

-- ---- Modulo, by a divisor whose lower is above 0

module _ (x y : ℤ) where
  mod_high : {d : ℤ} (fu t : Option ℤ) → pos 1 ≤ℤ d → d ≤ℤ y → from_one whole.last fu ≡ ok t → AtMost fu y → AtMost t (remainder x y)
  unfolding from_one
  mod_high none t p l e u = no_high t (remainder x y) e
  mod_high (some f) t p l e u = high_end (end_is (f -ℤ pos 1) e) (mod_inside x (record { low = l; high = u }) p).high

  pub mod_keeps : (X Y Z : Span ℤ) → LowerAboveZero (some Y) → mod_ends whole X Y ≡ ok Z → InSpan (some Y) y → InSpan (some Z) (remainder x y)
  unfolding mod_ends
  mod_keeps X Y Z t e q = go Y.lower t q.0
    where
      go : (dl : Option ℤ) → LowerAboveZero (some (span_of dl Y.upper)) → AtLeast dl y → InSpan (some Z) (remainder x y)
      go none t l = absurd (subst T (sym t) tt)
      go (some d) t l =
          let j = both_inv (ok (some (pos 0))) (from_one whole.last Y.upper) e in
          let p : pos 1 ≤ℤ d = parts_le (pos 1) d (omega (arith, lt_true (pos 0) d t)) in
          let m = mod_inside x {d = d} {y = y} {f = y} (record { low = l; high = ≤-refl y }) p in
          (low_end (sym (ok_same j.0)) m.low, mod_high Y.upper Z.upper p l j.1 q.1)
