-- Ends that are P make ends that are Q, over the kind of number, or are refused by a number of 01's.
--     rule_fits          every end rule, where what is divided by is N; pool_fits is Pool's
--     any_divides        of a kind that may divide by anything
--     whole_rule_is      of whole ranges: what holds of the end rule and of absent ends holds of the rule by type
--     whole_rule_fits    of whole ranges, whose ends fit 64 signed bits
-- Assumes nothing.
use mathlib.Core.Path.{◌≡◌, refl}
use mathlib.Core.Bool.{Bool, true, false, cond, not, ◌&&◌, ◌||◌}
use mathlib.Core.Option.{Option, none, some}
use Prim.Native.Nat.{ℕ, ◌^◌}
use native.Mathlib.Omega.{arith}
use lib.Dec.{eqb, ltb}
use lib.Ieee.{binary64, fits}
use lib.Ieee.Fits.{neg-fits, add-fits, sub-fits, mul-fits, div-fits}
use lib.IntN.{ℤ, nat_abs}
use lib.Signed.{mag, quot_z}
use borrow.Author.Tests.{ltb-true, not-true}
use Rattle.numbers.specs.Result.{Result, ok, refused}
use Rattle.numbers.specs.Checked.{checked_of, quotient_of}
use Rattle.numbers.specs.Kind.{Kind, Span, whole, float, fitting, lesser, greater, span_of}
use Rattle.std.specs.declared.option.Option.TheVariants.{Some, None}
use Rattle.base.specs.Form.{int_type}
use Rattle.base.specs.declared.Component.{Component}
use Rattle.base.specs.declared.Component.TheVariants as C
use Rattle.base.proofs.Flags.{and_both}
use Rattle.ends.specs.Ends.{unknown, both, present, from_two, from_one, from_both, add_ends, sub_ends, neg_ends, abs_lower, abs_upper, abs_ends, corners, mul_corners, mul_ends, div_corners, div_upper, div_lower, div_present, div_by, div_ends, mod_ends, pool_ends, end_rule}
use Rattle.ends.specs.Ranges.{whole_rule}
use Rattle.round_trip.specs.WellFormed.{Present, Whole, Double, SpanFits}
use Rattle.derived.proofs.Gives.{Gives, gives_then, gives_either, gives_tested}

-- every operation gives what is Q of what is P, and a division by what is N
pub record KindFits {E : Type 0} (K : Kind E) (P Q N : E → Type 0) : Type 0 where
  pub keep : (a : E) → P a → Q a
  pub zero : Q K.zero
  pub neg : (a : E) → P a → Gives Q (K.neg a)
  pub add : (a b : E) → P a → P b → Gives Q (K.add a b)
  pub sub : (a b : E) → P a → P b → Gives Q (K.sub a b)
  pub mul : (a b : E) → P a → P b → Gives Q (K.mul a b)
  pub div : (a b : E) → P a → P b → N b → Gives Q (K.div a b)
  pub last : (a : E) → P a → Gives Q (K.last a)

-- an entry's ends, both present, that Divide may divide by
pub record Divisor {E : Type 0} (K : Kind E) (N : E → Type 0) (d f : E) : Type 0 where
  pub both : (K.lt K.zero d || K.lt f K.zero) ≡ true → N d × N f
  pub upper : K.is_zero f ≡ false → N f
  pub lower : K.is_zero d ≡ false → N d

abbrev pub Divides : {E : Type 0} → Kind E → (E → Type 0) → Span E → Type 0
Divides {E} K N y = (d f : E) → y.lower ≡ some d → y.upper ≡ some f → Divisor K N d f

-- of which nothing is asked
abbrev pub Any : {E : Type 0} → E → Type 0
Any x = Unit {0}

pub any_divides : {E : Type 0} (K : Kind E) (y : Span E) → Divides K Any y
any_divides K y d f e g = record { both = λ h. (tt, tt); upper = λ h. tt; lower = λ h. tt }

pub fitting_fits : (z : ℤ) → Gives Whole (fitting (checked_of z))
unfolding checked_of
fitting_fits z = go (ltb (mag z) (2 ^ 63)) refl
  where
    go : (t : Bool) → ltb (mag z) (2 ^ 63) ≡ t → Gives Whole (fitting (cond t (Some z) None))
    go true h = record { sfits = ltb-true (mag z) (2 ^ 63) h }
    go false h = omega arith

quotient_fits : (a b : ℤ) → Gives Whole (fitting (quotient_of a b))
unfolding quotient_of
quotient_fits a b = go (eqb (nat_abs b) 0)
  where
    go : (t : Bool) → Gives Whole (fitting (cond t None (checked_of (quot_z a b))))
    go true = omega arith
    go false = fitting_fits (quot_z a b)

pub whole_fits : KindFits whole Whole Whole Any
whole_fits = record {
  keep = λ a p. p;
  zero = record { sfits = ltb-true 0 (2 ^ 63) refl };
  neg = λ a p. fitting_fits _;
  add = λ a b p q. fitting_fits _;
  sub = λ a b p q. fitting_fits _;
  mul = λ a b p q. fitting_fits _;
  div = λ a b p q n. quotient_fits a b;
  last = λ a p. fitting_fits _;
}

pub float_fits : KindFits float Double Double Any
unfolding fits
float_fits = record {
  keep = λ a p. p;
  zero = tt;
  neg = neg-fits binary64;
  add = λ a b p q. add-fits binary64 a b;
  sub = λ a b p q. sub-fits binary64 a b;
  mul = λ a b p q. mul-fits binary64 a b;
  div = λ a b p q n. div-fits binary64 a b;
  last = λ a p. p;
}

module _ {E : Type 0} (K : Kind E) (Q : E → Type 0) where
  either : (t : Bool) (x y : E) → Q x → Q y → Q (cond t x y)
  either true x y p q = p
  either false x y p q = q

  lesser_fits : (x y : E) → Q x → Q y → Q (lesser K x y)
  lesser_fits x y p q = either (K.lt y x) y x q p

  greater_fits : (x y : E) → Q x → Q y → Q (greater K x y)
  greater_fits x y p q = either (K.lt y x) x y p q

  span_fits : {l u : Option E} → Present Q l → Present Q u → SpanFits Q (span_of l u)
  span_fits p q = record { lower = p; upper = q }

  nothing : Gives (SpanFits Q) unknown
  nothing = span_fits {l = none} {u = none} tt tt

  present_fits : (g : Result E) → Gives Q g → Gives (Present Q) (present g)
  present_fits g h = gives_then Q (Present Q) g _ h (λ x p. p)

  both_fits : (l u : Result (Option E)) → Gives (Present Q) l → Gives (Present Q) u → Gives (SpanFits Q) (both l u)
  both_fits l u p q =
      gives_then (Present Q) (SpanFits Q) l _ p (λ x f. gives_then (Present Q) (SpanFits Q) u _ q (λ y g. span_fits {l = x} {u = y} f g))

  corners_fit : (p q r s : Result E) → Gives Q p → Gives Q q → Gives Q r → Gives Q s → Gives (SpanFits Q) (corners K p q r s)
  unfolding corners
  corners_fit p q r s a b c d =
      gives_then Q (SpanFits Q) p _ a
      (λ p a. gives_then Q (SpanFits Q) q _ b
      (λ q b. gives_then Q (SpanFits Q) r _ c
      (λ r c. gives_then Q (SpanFits Q) s _ d
      (λ s d. record {
        lower = lesser_fits (lesser K (lesser K p q) r) s (lesser_fits (lesser K p q) r (lesser_fits p q a b) c) d;
        upper = greater_fits (greater K (greater K p q) r) s (greater_fits (greater K p q) r (greater_fits p q a b) c) d;
      }))))

module _ {E : Type 0} (K : Kind E) (P Q : E → Type 0) where
  two_fits : (op : E → E → Result E) → ((a b : E) → P a → P b → Gives Q (op a b)) → (x y : Option E) → Present P x → Present P y → Gives (Present Q) (from_two op x y)
  unfolding from_two
  two_fits op h none y p q = tt
  two_fits op h (some a) none p q = tt
  two_fits op h (some a) (some b) p q = present_fits K Q (op a b) (h a b p q)

  -- the lower end by one operation, the upper by another
  ends_fit : (low high : E → E → Result E) → ((a b : E) → P a → P b → Gives Q (low a b)) → ((a b : E) → P a → P b → Gives Q (high a b))
      → (x y : Span E) → SpanFits P x → SpanFits P y → Gives (SpanFits Q) (both (from_two low x.lower y.lower) (from_two high x.upper y.upper))
  ends_fit low high g h x y p q =
      both_fits K Q (from_two low x.lower y.lower) (from_two high x.upper y.upper)
      (two_fits low g x.lower y.lower p.lower q.lower) (two_fits high h x.upper y.upper p.upper q.upper)

  one_fits : (op : E → Result E) → ((a : E) → P a → Gives Q (op a)) → (x : Option E) → Present P x → Gives (Present Q) (from_one op x)
  unfolding from_one
  one_fits op h none p = tt
  one_fits op h (some a) p = present_fits K Q (op a) (h a p)

  from_both_fits : (l u : Option E) (rule : E → E → Result (Span E)) → ((a c : E) → P a → P c → Gives (SpanFits Q) (rule a c))
      → Present P l → Present P u → Gives (SpanFits Q) (from_both l u rule)
  unfolding from_both
  from_both_fits none u rule h p q = nothing K Q
  from_both_fits (some a) none rule h p q = nothing K Q
  from_both_fits (some a) (some c) rule h p q = h a c p q

  -- the ends of Pool are ends of its operands
  pooled_fits : ((a : E) → P a → Q a) → (x y : Span E) → SpanFits P x → SpanFits P y → Gives (SpanFits Q) (pool_ends K x y)
  unfolding pool_ends
  pooled_fits keep x y p q =
      ends_fit (λ a d. ok (lesser K a d)) (λ c f. ok (greater K f c)) (λ a d p q. lesser_fits K Q a d (keep a p) (keep d q))
      (λ c f p q. greater_fits K Q f c (keep f q) (keep c p)) x y p q

pub pool_fits : {E : Type 0} (K : Kind E) (P : E → Type 0) (x y : Span E) → SpanFits P x → SpanFits P y → Gives (SpanFits P) (pool_ends K x y)
pool_fits K P = pooled_fits K P P (λ a p. p)

module _ {E : Type 0} (K : Kind E) (P Q N : E → Type 0) (fit : KindFits K P Q N) where
  abs_lower_lem : (a c : E) → P a → P c → Gives Q (abs_lower K a c)
  unfolding abs_lower
  abs_lower_lem a c p q = gives_either Q (K.lt K.zero a) (ok a) (K.neg c) (fit.keep a p) (fit.neg c q)

  abs_upper_lem : (a c : E) → P a → P c → Gives Q (abs_upper K a c)
  unfolding abs_upper
  abs_upper_lem a c p q =
      gives_then Q Q (K.add a c) _ (fit.add a c p q) (λ s f. gives_either Q (K.lt K.zero s) (ok c) (K.neg a) (fit.keep c q) (fit.neg a p))

  module _ (a c : E) (p : P a) (q : P c) where
    div_upper_lem : (f : E) → P f → N f → Gives (SpanFits Q) (div_upper K a c f)
    unfolding div_upper
    div_upper_lem f r n =
        gives_then Q (SpanFits Q) (K.div a f) _ (fit.div a f p r n)
        (λ x i. gives_then Q (SpanFits Q) (K.div c f) _ (fit.div c f q r n) (λ y j. record { lower = tt; upper = greater_fits K Q x y i j }))

    div_lower_lem : (d : E) → P d → N d → Gives (SpanFits Q) (div_lower K a c d)
    unfolding div_lower
    div_lower_lem d r n =
        gives_then Q (SpanFits Q) (K.div a d) _ (fit.div a d p r n)
        (λ x i. gives_then Q (SpanFits Q) (K.div c d) _ (fit.div c d q r n) (λ y j. record { lower = lesser_fits K Q x y i j; upper = tt }))

    div_present_lem : (d f : E) → P d → P f → Divisor K N d f → Gives (SpanFits Q) (div_present K a c d f)
    unfolding div_present div_corners
    div_present_lem d f r s by =
        gives_tested (SpanFits Q) (K.lt K.zero d || K.lt f K.zero) (div_corners K a c d f) _
        (λ e.
        let n = by.both e in
        corners_fit K Q (K.div a f) (K.div a d) (K.div c f) (K.div c d) (fit.div a f p s n.1) (fit.div a d p r n.0) (fit.div c f q s n.1) (fit.div c d q r n.0))
        (gives_tested (SpanFits Q) (K.is_zero d && not (K.is_zero f)) (div_upper K a c f) _
        (λ e. div_upper_lem f s (by.upper (not-true (K.is_zero f) (and_both (K.is_zero d) (not (K.is_zero f)) e).1)))
        (gives_tested (SpanFits Q) (not (K.is_zero d) && K.is_zero f) (div_lower K a c d) unknown
        (λ e. div_lower_lem d r (by.lower (not-true (K.is_zero d) (and_both (not (K.is_zero d)) (K.is_zero f) e).0))) (nothing K Q)))

    div_by_lem : (y : Span E) → SpanFits P y → Divides K N y → Gives (SpanFits Q) (div_by K a c y.lower y.upper)
    unfolding div_by
    div_by_lem y r by = go y.lower y.upper r.lower r.upper by
      where
        go : (d f : Option E) → Present P d → Present P f → Divides K N (span_of d f) → Gives (SpanFits Q) (div_by K a c d f)
        go none none r s by = omega arith
        go none (some f) r s by = gives_either (SpanFits Q) (K.lt f K.zero) unknown (refused 23) (nothing K Q) (omega arith)
        go (some d) none r s by = gives_either (SpanFits Q) (K.lt K.zero d) unknown (refused 23) (nothing K Q) (omega arith)
        go (some d) (some f) r s by = div_present_lem d f r s (by d f refl refl)

  pub rule_fits : (c : Component) (x y : Span E) → Divides K N y → SpanFits P x → SpanFits P y → Gives (SpanFits Q) (end_rule K c x y)
  unfolding end_rule abs_ends add_ends sub_ends mul_ends mul_corners div_ends mod_ends neg_ends
  rule_fits C.Abs x y by p q =
      from_both_fits K P Q x.lower x.upper _
      (λ a c p q. both_fits K Q (present (abs_lower K a c)) (present (abs_upper K a c))
      (present_fits K Q (abs_lower K a c) (abs_lower_lem a c p q)) (present_fits K Q (abs_upper K a c) (abs_upper_lem a c p q)))
      p.lower p.upper
  rule_fits C.Add x y by p q = ends_fit K P Q K.add K.add fit.add fit.add x y p q
  rule_fits C.Subtract x y by p q =
      both_fits K Q (from_two K.sub x.lower y.upper) (from_two K.sub x.upper y.lower)
      (two_fits K P Q K.sub fit.sub x.lower y.upper p.lower q.upper) (two_fits K P Q K.sub fit.sub x.upper y.lower p.upper q.lower)
  rule_fits C.Multiply x y by p q =
      from_both_fits K P Q x.lower x.upper _
      (λ a c g h. from_both_fits K P Q y.lower y.upper _
      (λ d f i j. corners_fit K Q (K.mul a d) (K.mul a f) (K.mul c d) (K.mul c f) (fit.mul a d g i) (fit.mul a f g j) (fit.mul c d h i) (fit.mul c f h j))
      q.lower q.upper)
      p.lower p.upper
  rule_fits C.Divide x y by p q = from_both_fits K P Q x.lower x.upper _ (λ a c g h. div_by_lem a c g h y q by) p.lower p.upper
  rule_fits C.Modulo x y by p q =
      both_fits K Q (ok (some K.zero)) (from_one K.last y.upper) fit.zero (one_fits K P Q K.last fit.last y.upper q.upper)
  rule_fits C.Log x y by p q = nothing K Q
  rule_fits C.Power x y by p q = nothing K Q
  rule_fits C.Negative x y by p q =
      both_fits K Q (from_one K.neg x.upper) (from_one K.neg x.lower)
      (one_fits K P Q K.neg fit.neg x.upper p.upper) (one_fits K P Q K.neg fit.neg x.lower p.lower)
  rule_fits C.Pool x y by p q = pooled_fits K P Q fit.keep x y p q

-- of another type than Int, Modulo's ends are absent
pub whole_rule_is : (X : Result (Span ℤ) → Type 0) (c : Component) (type : ℕ) (x y : Span ℤ) → X (end_rule whole c x y) → X unknown → X (whole_rule c type x y)
unfolding whole_rule
whole_rule_is X C.Modulo type x y p q = go (eqb type int_type)
  where
    go : (t : Bool) → X (cond t (end_rule whole C.Modulo x y) unknown)
    go true = p
    go false = q
whole_rule_is X C.Abs type x y p q = p
whole_rule_is X C.Add type x y p q = p
whole_rule_is X C.Subtract type x y p q = p
whole_rule_is X C.Multiply type x y p q = p
whole_rule_is X C.Divide type x y p q = p
whole_rule_is X C.Log type x y p q = p
whole_rule_is X C.Power type x y p q = p
whole_rule_is X C.Negative type x y p q = p
whole_rule_is X C.Pool type x y p q = p

pub whole_rule_fits : (c : Component) (type : ℕ) (x y : Span ℤ) → SpanFits Whole x → SpanFits Whole y → Gives (SpanFits Whole) (whole_rule c type x y)
whole_rule_fits c type x y p q =
    whole_rule_is (λ g. Gives (SpanFits Whole) g) c type x y (rule_fits whole Whole Whole Any whole_fits c x y (any_divides whole y) p q) (record { lower = tt; upper = tt })
