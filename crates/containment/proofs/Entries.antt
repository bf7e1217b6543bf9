-- One entry of a range, over the component: the exact result exists, and it keeps to the entry derived. Assumes nothing.
use mathlib.Core.Path.{◌≡◌, refl, sym, ap, subst}
use mathlib.Core.Bool.{Bool, true, false, cond, not}
use mathlib.Core.Logic.{⊎_elim}
use mathlib.Core.Option.{Option, none, some}
use Prim.Native.Nat.{ℕ}
use native.Mathlib.Omega.{arith}
use lib.Dec.{T, eqb}
use lib.IntN.{ℤ, pos, negsuc, neg_ℤ, nat_abs, ◌+ℤ◌, ◌-ℤ◌, ◌*ℤ◌, pow}
use lib.Signed.{lt_z, quot_z, ◌≤ℤ◌, ◌<ℤ◌}
use borrow.Author.Tests.{ne_eqb}
use Rattle.numbers.specs.Result.{ok}
use Rattle.numbers.specs.Kind.{Span, whole, span_of}
use Rattle.numbers.proofs.Parts.{le_parts, parts_le, lt_true, lt_false}
use Rattle.base.specs.declared.Component.{Component}
use Rattle.base.specs.declared.Component.TheVariants as C
use Rattle.ends.specs.Ends.{end_rule}
use Rattle.ends.specs.Ranges.{whole_rule}
use Rattle.category_lists.specs.Categories.{remainder}
use Rattle.derived.proofs.Answers.{some_same, none_some}
use Rattle.derived.proofs.Fitted.{whole_rule_is}
use Rattle.containment.specs.Exact.{Side, taken, unless_zero, exact}
use Rattle.containment.specs.Demand.{AtLeast, AtMost, InSpan, SpanOffZero}
use Rattle.containment.specs.Asks.{Defined, Asks, LowerAboveZero, LowerNotNegative}
use Rattle.containment.proofs.Order.{≤_trans, lt_one, lt_minus}
use Rattle.containment.proofs.Answers.{nothing}
use Rattle.containment.proofs.Spans.{add_keeps, sub_keeps, neg_keeps, abs_keeps, mul_keeps, div_keeps, mod_keeps, pool_keeps}

-- ---- the result exists

pub unless_some : (b r : ℤ) → (nat_abs b ≡ 0 → ⊥) → unless_zero b r ≡ some r
unless_some b r h = ap (λ (t : Bool). cond t none (some r)) (ne_eqb (nat_abs b) 0 h)

pub exact_exists : (side : Side) (c : Component) (a b : ℤ) → Defined c b → (v : ℤ) × (exact side c a b ≡ some v)
unfolding exact
exact_exists side C.Abs a b d = (pos (nat_abs a), refl)
exact_exists side C.Add a b d = (a +ℤ b, refl)
exact_exists side C.Subtract a b d = (a -ℤ b, refl)
exact_exists side C.Multiply a b d = (a *ℤ b, refl)
exact_exists side C.Divide a b d = (quot_z a b, unless_some b (quot_z a b) d)
exact_exists side C.Modulo a b d = (remainder a b, unless_some b (remainder a b) d)
exact_exists side C.Log a b d = absurd d
exact_exists side C.Power a (pos n) d = (pow a n, refl)
exact_exists side C.Power a (negsuc n) d = absurd (omega (arith, le_parts d))
exact_exists side C.Negative a b d = (neg_ℤ a, refl)
exact_exists side C.Pool a b d = (taken side a b, refl)

-- a number on one side of 0
from_one : {b : ℤ} → pos 1 ≤ℤ b → nat_abs b ≡ 0 → ⊥
from_one {b = pos n} h e = omega (arith, le_parts h)
from_one {b = negsuc n} h e = omega (arith, le_parts h)

to_minus : {b : ℤ} → b ≤ℤ negsuc 0 → nat_abs b ≡ 0 → ⊥
to_minus {b = pos n} h e = omega (arith, le_parts h)
to_minus {b = negsuc n} h e = omega arith

off_zero : (o : Option (Span ℤ)) (b : ℤ) → SpanOffZero o → InSpan o b → nat_abs b ≡ 0 → ⊥
off_zero none b z q = absurd z
off_zero (some y) b z q =
    ⊎_elim
    (λ (p : (d : ℤ) × (y.lower ≡ some d) × (pos 0 <ℤ d)). from_one (≤_trans (lt_one p.2) (subst (λ (o : Option ℤ). AtLeast o b) p.1 q.0)))
    (λ (p : (f : ℤ) × (y.upper ≡ some f) × (f <ℤ pos 0)). to_minus (≤_trans (subst (λ (o : Option ℤ). AtMost o b) p.1 q.1) (lt_minus p.2)))
    z

above_zero : (o : Option (Span ℤ)) (b : ℤ) → LowerAboveZero o → InSpan o b → nat_abs b ≡ 0 → ⊥
above_zero none b z q = absurd z
above_zero (some y) b z q = go y.lower z q.0
  where
    go : (dl : Option ℤ) → LowerAboveZero (some (span_of dl none)) → AtLeast dl b → nat_abs b ≡ 0 → ⊥
    go none t l = absurd (subst T (sym t) tt)
    go (some d) t l = let p = lt_true (pos 0) d t in from_one (≤_trans (parts_le (pos 1) d (omega arith)) l)

not_negative : (o : Option (Span ℤ)) (b : ℤ) → LowerNotNegative o → InSpan o b → pos 0 ≤ℤ b
not_negative none b z q = absurd z
not_negative (some y) b z q = go y.lower z q.0
  where
    tested : (d : ℤ) (t : Bool) → lt_z d (pos 0) ≡ t → not t ≡ true → pos 0 ≤ℤ d
    tested d true h e = absurd (subst T (sym e) tt)
    tested d false h e = let p = lt_false d (pos 0) h in parts_le (pos 0) d (omega arith)

    go : (dl : Option ℤ) → LowerNotNegative (some (span_of dl none)) → AtLeast dl b → pos 0 ≤ℤ b
    go none t l = absurd (subst T (sym t) tt)
    go (some d) t l = ≤_trans (tested d (lt_z d (pos 0)) refl t) l

pub span_defined : (c : Component) (o : Option (Span ℤ)) (b : ℤ) → Asks c o → InSpan o b → Defined c b
span_defined C.Abs o b k q = tt
span_defined C.Add o b k q = tt
span_defined C.Subtract o b k q = tt
span_defined C.Multiply o b k q = tt
span_defined C.Divide o b k q = off_zero o b k q
span_defined C.Modulo o b k q = above_zero o b k q
span_defined C.Log o b k q = k
span_defined C.Power o b k q = not_negative o b k q
span_defined C.Negative o b k q = tt
span_defined C.Pool o b k q = tt

-- ---- and keeps to the ends

keeps_same : (z : Span ℤ) {a v : ℤ} → ◌≡◌ {A = Option ℤ} (some a) (some v) → InSpan (some z) a → InSpan (some z) v
keeps_same z e h = subst (λ (n : ℤ). InSpan (some z) n) (some_same e) h

unless_inv : (b r : ℤ) {v : ℤ} → unless_zero b r ≡ some v → ◌≡◌ {A = Option ℤ} (some r) (some v)
unless_inv b r e = go (eqb (nat_abs b) 0) e
  where
    go : (t : Bool) {v : ℤ} → cond t none (some r) ≡ some v → ◌≡◌ {A = Option ℤ} (some r) (some v)
    go true e = absurd (none_some e)
    go false e = e

module _ (side : Side) (x y z : Span ℤ) (a b v : ℤ) where
  pub entry_keeps : (c : Component) → Asks c (some y) → end_rule whole c x y ≡ ok z
      → InSpan (some x) a → InSpan (some y) b → exact side c a b ≡ some v → InSpan (some z) v
  unfolding end_rule exact
  entry_keeps C.Abs k e p q w = keeps_same z w (abs_keeps a x z e p)
  entry_keeps C.Add k e p q w = keeps_same z w (add_keeps a b x y z e p q)
  entry_keeps C.Subtract k e p q w = keeps_same z w (sub_keeps a b x y z e p q)
  entry_keeps C.Multiply k e p q w = keeps_same z w (mul_keeps a b x y z e p q)
  entry_keeps C.Divide k e p q w = keeps_same z (unless_inv b (quot_z a b) w) (div_keeps a b x y z k e p q)
  entry_keeps C.Modulo k e p q w = keeps_same z (unless_inv b (remainder a b) w) (mod_keeps a b x y z k e q)
  entry_keeps C.Log k e p q w = nothing z v e
  entry_keeps C.Power k e p q w = nothing z v e
  entry_keeps C.Negative k e p q w = keeps_same z w (neg_keeps a x z e p)
  entry_keeps C.Pool k e p q w = keeps_same z w (pool_keeps a b side x y z e p q)

  -- of another type than Int, Modulo's ends are absent
  pub whole_keeps : (c : Component) (type : ℕ) → Asks c (some y) → whole_rule c type x y ≡ ok z
      → InSpan (some x) a → InSpan (some y) b → exact side c a b ≡ some v → InSpan (some z) v
  whole_keeps c type k e p q w =
      whole_rule_is (λ g. g ≡ ok z → InSpan (some z) v) c type x y (λ f. entry_keeps c k f p q w) (λ f. nothing z v f) e
