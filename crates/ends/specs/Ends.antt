-- 01, "Range ends", and 02, S-1 and S-4: the end rules of the ten components, written once over the element kind. Operands are [a, c] on the left and [d, f] on the right.
use Rattle.std.specs.Prelude.{cond, not, ◌&&◌, ◌||◌}
use Rattle.std.proofs.Math.Option.{Option, none, some}
use Rattle.numbers.specs.Result.{Result, ok, refused, and_then}
use Rattle.numbers.specs.Kind.{Kind, Span, span_of, lesser, greater, least, greatest}
use Rattle.base.specs.declared.Component.{Component}
use Rattle.base.specs.declared.Component.TheVariants as C

module _ {E : Type 0} where
  -- both ends absent
  abbrev pub unknown : Result (Span E)
  unknown = ok (span_of none none)

  -- the lower end is derived first, and its refusal is the answer
  abbrev pub both : Result (Option E) → Result (Option E) → Result (Span E)
  both l u = and_then l (λ x. and_then u (λ y. ok (span_of x y)))

  abbrev pub present : Result E → Result (Option E)
  present g = and_then g (λ x. ok (some x))

  -- 01: "Unless both ends that it needs are present, the new end is absent"
  unfoldable pub from_two : (E → E → Result E) → Option E → Option E → Result (Option E)
  from_two op none y = ok none
  from_two op (some a) none = ok none
  from_two op (some a) (some b) = present (op a b)

  unfoldable pub from_one : (E → Result E) → Option E → Result (Option E)
  from_one op none = ok none
  from_one op (some a) = present (op a)

  -- both ends of an operand, or "Otherwise both are absent"
  unfoldable pub from_both : Option E → Option E → (E → E → Result (Span E)) → Result (Span E)
  from_both none y rule = unknown
  from_both (some a) none rule = unknown
  from_both (some a) (some c) rule = rule a c

module _ {E : Type 0} (K : Kind E) where
  -- 01: "Add takes lower + lower and upper + upper"
  unfoldable pub add_ends : Span E → Span E → Result (Span E)
  add_ends x y = both (from_two K.add x.lower y.lower) (from_two K.add x.upper y.upper)

  -- 02, S-4: "The new lower is left lower − right upper, the new upper is left upper − right lower, each absent if one of its two is"
  unfoldable pub sub_ends : Span E → Span E → Result (Span E)
  sub_ends x y = both (from_two K.sub x.lower y.upper) (from_two K.sub x.upper y.lower)

  -- 01: "Negative gives −upper, −lower"
  unfoldable pub neg_ends : Span E → Result (Span E)
  neg_ends x = both (from_one K.neg x.upper) (from_one K.neg x.lower)

  -- 01: "Abs, both present: lower if above 0, else −upper"
  unfoldable pub abs_lower : E → E → Result E
  abs_lower a c = cond (K.lt K.zero a) (ok a) (K.neg c)

  -- 01: "and upper if lower + upper > 0, else −lower"
  unfoldable pub abs_upper : E → E → Result E
  abs_upper a c = and_then (K.add a c) (λ s. cond (K.lt K.zero s) (ok c) (K.neg a))

  unfoldable pub abs_ends : Span E → Result (Span E)
  abs_ends x = from_both x.lower x.upper (λ a c. both (present (abs_lower a c)) (present (abs_upper a c)))

  -- the least and the greatest of four results, in their order
  unfoldable pub corners : Result E → Result E → Result E → Result E → Result (Span E)
  corners p q r s =
      and_then p (λ a. and_then q (λ b. and_then r (λ c. and_then s (λ d. ok (span_of (some (least K a b c d)) (some (greatest K a b c d)))))))

  -- 01: "Multiply: least and greatest of the four corner products", "products go ad, af, cd, cf"
  unfoldable pub mul_corners : E → E → E → E → Result (Span E)
  mul_corners a c d f = corners (K.mul a d) (K.mul a f) (K.mul c d) (K.mul c f)

  unfoldable pub mul_ends : Span E → Span E → Result (Span E)
  mul_ends x y = from_both x.lower x.upper (λ a c. from_both y.lower y.upper (λ d f. mul_corners a c d f))

  -- 01: "the four quotients", "a/f, a/d, c/f, c/d"
  unfoldable pub div_corners : E → E → E → E → Result (Span E)
  div_corners a c d f = corners (K.div a f) (K.div a d) (K.div c f) (K.div c d)

  -- 01: "lower absent, upper the greater of a/f, c/f"
  unfoldable pub div_upper : E → E → E → Result (Span E)
  div_upper a c f = and_then (K.div a f) (λ p. and_then (K.div c f) (λ q. ok (span_of none (some (greater K p q)))))

  -- 01: "lower the lesser of a/d, c/d, upper absent"
  unfoldable pub div_lower : E → E → E → Result (Span E)
  div_lower a c d = and_then (K.div a d) (λ p. and_then (K.div c d) (λ q. ok (span_of (some (lesser K p q)) none)))

  -- 01: "d > 0 or f < 0: the four quotients. Then d = 0, f ≠ 0: .. Then d ≠ 0, f = 0: .. Else both absent"
  unfoldable pub div_present : E → E → E → E → Result (Span E)
  div_present a c d f =
      cond (K.lt K.zero d || K.lt f K.zero) (div_corners a c d f)
      (cond (K.is_zero d && not (K.is_zero f)) (div_upper a c f)
      (cond (not (K.is_zero d) && K.is_zero f) (div_lower a c d)
      unknown))

  -- 01: "d absent: 23 if f is absent or f ≥ 0, else both absent. Then f absent: 23 if d ≤ 0, else both absent"
  unfoldable pub div_by : E → E → Option E → Option E → Result (Span E)
  div_by a c none none = refused 23
  div_by a c none (some f) = cond (K.lt f K.zero) unknown (refused 23)
  div_by a c (some d) none = cond (K.lt K.zero d) unknown (refused 23)
  div_by a c (some d) (some f) = div_present a c d f

  -- 01: "Divide: a or c absent gives both absent"
  unfoldable pub div_ends : Span E → Span E → Result (Span E)
  div_ends x y = from_both x.lower x.upper (λ a c. div_by a c y.lower y.upper)

  -- 01: "Modulo ..: ends 0 and right upper − 1 (Float: right upper)"
  unfoldable pub mod_ends : Span E → Span E → Result (Span E)
  mod_ends x y = both (ok (some K.zero)) (from_one K.last y.upper)

  -- 02, S-1: "the new lower is the lesser and the new upper the greater, left's on a tie, absent if either is absent". (On a tie `lesser` gives its first
  -- argument and `greater` its second)
  unfoldable pub pool_ends : Span E → Span E → Result (Span E)
  pool_ends x y = both (from_two (λ a d. ok (lesser K a d)) x.lower y.lower) (from_two (λ c f. ok (greater K f c)) x.upper y.upper)

  -- one rule for each component; 01: "Log ..: ends absent", "Power ..: ends absent". Abs and Negative read the left alone
  unfoldable pub end_rule : Component → Span E → Span E → Result (Span E)
  end_rule C.Abs x y = abs_ends x
  end_rule C.Add x y = add_ends x y
  end_rule C.Subtract x y = sub_ends x y
  end_rule C.Multiply x y = mul_ends x y
  end_rule C.Divide x y = div_ends x y
  end_rule C.Modulo x y = mod_ends x y
  end_rule C.Log x y = unknown
  end_rule C.Power x y = unknown
  end_rule C.Negative x y = neg_ends x
  end_rule C.Pool x y = pool_ends x y
