-- The element kind: what the rules need of a number, and its two instances, whole numbers and floats.
use Rattle.std.specs.Prelude.{Bool, false, cond, ℤ, pos, negsuc, neg_ℤ, nat_abs, ◌+ℤ◌, ◌-ℤ◌, ◌*ℤ◌, eqb, Float, Some, None}
use Rattle.std.proofs.Math.Option.{Option}
use Rattle.std.specs.Int.Signed.{lt_z}
use Rattle.std.specs.Float.Ieee as Ieee
use Rattle.std.specs.Float.{fin, binary64}
use Rattle.numbers.specs.Result.{Result, ok, refused}
use Rattle.numbers.specs.Checked.{checked_of, quotient_of}
use Rattle.std.specs.declared.option.Option as Rust

-- 01: "Facts common to whole and float lists are proved over the element kind". An operation may refuse
pub record Kind (E : Type 0) : Type 0 where
  pub zero : E
  pub one : E
  pub lt : E → E → Bool
  pub is_zero : E → Bool
  pub neg : E → Result E
  pub add : E → E → Result E
  pub sub : E → E → Result E
  pub mul : E → E → Result E
  pub div : E → E → Result E
  -- 01: "right upper − 1 (Float: right upper)", the upper end of a remainder
  pub last : E → Result E

-- an entry of a range: its two ends, each of which may be absent
pub record Span (E : Type 0) : Type 0 where
  pub lower : Option E
  pub upper : Option E

abbrev pub span_of : {E : Type 0} → Option E → Option E → Span E
span_of l u = record { lower = l; upper = u }

-- 01, 24: a result that leaves 64 signed bits is refused
abbrev pub fitting : Rust.Option ℤ → Result ℤ
fitting (Some z) = ok z
fitting None = refused 24

abbrev pub whole : Kind ℤ
whole = record {
  zero = pos 0;
  one = pos 1;
  lt = lt_z;
  is_zero = λ a. eqb (nat_abs a) 0;
  neg = λ a. fitting (checked_of (neg_ℤ a));
  add = λ a b. fitting (checked_of (a +ℤ b));
  sub = λ a b. fitting (checked_of (a -ℤ b));
  mul = λ a b. fitting (checked_of (a *ℤ b));
  div = λ a b. fitting (quotient_of a b);
  last = λ a. fitting (checked_of (a -ℤ pos 1));
}

abbrev pub zero_float : Float
zero_float = fin false 0 (pos 0)

abbrev pub one_float : Float
one_float = fin false 1 (pos 0)

-- 01: "each float end is rounded once, to nearest": IEEE 754 binary64 by the logic's own account, which never refuses
abbrev pub float : Kind Float
float = record {
  zero = zero_float;
  one = one_float;
  lt = Ieee.lt;
  is_zero = λ a. Ieee.eq a zero_float;
  neg = λ a. ok (Ieee.neg a);
  add = λ a b. ok (Ieee.add binary64 a b);
  sub = λ a b. ok (Ieee.sub binary64 a b);
  mul = λ a b. ok (Ieee.mul binary64 a b);
  div = λ a b. ok (Ieee.div binary64 a b);
  last = λ a. ok a;
}

module _ {E : Type 0} (K : Kind E) where
  -- 01: "Among equal floats the least is the first and the greatest the last"
  abbrev pub lesser : E → E → E
  lesser x y = cond (K.lt y x) y x

  abbrev pub greater : E → E → E
  greater x y = cond (K.lt y x) x y

  -- 01: "least and greatest of the four"
  abbrev pub least : E → E → E → E → E
  least p q r s = lesser (lesser (lesser p q) r) s

  abbrev pub greatest : E → E → E → E → E
  greatest p q r s = greater (greater (greater p q) r) s

-- equal whole numbers
abbrev pub eq_z : ℤ → ℤ → Bool
eq_z (pos a) (pos b) = eqb a b
eq_z (pos a) (negsuc b) = false
eq_z (negsuc a) (pos b) = false
eq_z (negsuc a) (negsuc b) = eqb a b
