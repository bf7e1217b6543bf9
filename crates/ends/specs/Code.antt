-- How the code's ranges, pairs and answers stand for the values of the definitions.
use Rattle.std.proofs.Math.Option.{Option, none, some}
use Rattle.std.specs.Prelude.{ℤ}
use Rattle.std.specs.Float.Ieee as Ieee
use Rattle.numbers.specs.Result.{Result, ok, refused}
use Rattle.numbers.specs.Kind.{Span, span_of}
use Rattle.base.specs.Code.{whole_end, float_end}
use Rattle.base.specs.declared.Bound.{Bound}
use Rattle.base.specs.declared.Bound.TheVariants.{Absent}
use Rattle.ends.specs.declared.Range.{Range}

-- an entry of a whole range, and of a float range
abbrev pub whole_span : Range → Span ℤ
whole_span r = span_of (whole_end r.lower) (whole_end r.upper)

abbrev pub float_span : Range → Span Ieee.Float
float_span r = span_of (float_end r.lower) (float_end r.upper)

abbrev pub range_of : Bound → Bound → Range
range_of l u = record { lower = l; upper = u }

-- an answer, of a rule that gives an end or both, by how an end of the kind is a bound
abbrev pub end_of : {E : Type 0} → (Option E → Bound) → Result (Option E) → Result Bound
end_of bound (ok x) = ok (bound x)
end_of bound (refused k) = refused k

abbrev pub ends_of : {E : Type 0} → (Option E → Bound) → Result (Span E) → Result Range
ends_of bound (ok s) = ok (range_of (bound s.lower) (bound s.upper))
ends_of bound (refused k) = refused k

abbrev pub absent_ends : Result Range
absent_ends = ok (range_of Absent Absent)

-- the lower end's refusal comes first
abbrev pub both_ends : Result Bound → Result Bound → Result Range
both_ends (ok l) (ok u) = ok (range_of l u)
both_ends (ok l) (refused k) = refused k
both_ends (refused k) u = refused k

-- two numbers, where both are present
abbrev pub two_of : {E : Type 0} → Option E → Option E → Option (E × E)
two_of none y = none
two_of (some a) none = none
two_of (some a) (some b) = some (a, b)
