-- With 02, S-4's Subtract a float range that a component derives, of operands that pass 5, fails 5 by an infinite end alone.
--     derived_float    under all ten components, in any stored form; the operands' float ends are doubles
--     abs_alone        of other floats it is false: the sum that Abs takes may round to 0
-- Assumes nothing.
use mathlib.Core.Path.{◌≡◌, refl, subst}
use mathlib.Core.Bool.{Bool, true, false, cond, not, ◌||◌}
use mathlib.Core.List.{List, [], ◌∷◌}
use mathlib.Core.Option.{Option, none, some}
use lib.Ieee.{Float, nan, inf, fin, neg, add, lt, is_nan}
use lib.IntN.{negsuc}
use borrow.Author.Tests.{not-false}
use Rattle.numbers.specs.Result.{ok}
use Rattle.numbers.specs.Kind.{Span, span_of, float}
use Rattle.utilities.specs.Lists.{every, any}
use Rattle.base.specs.Form.{Form}
use Rattle.base.specs.Sheet.{Nature, absent, whole_range, float_range, whole_lists, bool_lists, float_lists, text_lists, Sheet}
use Rattle.base.specs.Checks.{unbounded, float_holds, bounds_fail}
use Rattle.base.specs.declared.Component.{Component}
use Rattle.base.specs.declared.Component.TheVariants as C
use Rattle.ends.specs.Signs.{Number, NumberEnd, Numbers}
use Rattle.ends.specs.Ends.{from_both, abs_lower, abs_upper, abs_ends, end_rule}
use Rattle.ends.specs.Ranges.{whole_rule}
use Rattle.calls.specs.Derive.{derive}
use Rattle.round_trip.specs.WellFormed.{Each, Present, Double, SpanFits, NatureFits}
use Rattle.derived.specs.Infinite.{infinite, an_end_infinite, InOrder, FailsByInfinity}
use Rattle.derived.proofs.Each.{each_weaken, each_any, each_both, every_each}
use Rattle.derived.proofs.Values.{IfOk, value_is, value_both, value_more, gives_value, any_value}
use Rattle.derived.proofs.Fitted.{Any, rule_fits}
use Rattle.derived.proofs.Fractions.{Finite}
use Rattle.derived.proofs.Ordered.{Ordered, Asked, Entry, rule_ordered}
use Rattle.derived.proofs.Pooled.{float_entry}
use Rattle.derived.proofs.Doubles.{FiniteDouble, NotZero, double_numbers, double_divides, double_ordered}
use Rattle.derived.proofs.Ranged.{OfEntries, derived_ranges}

rule_keeps : (c : Component) (x y : Span Float) → Entry float FiniteDouble x → Entry float FiniteDouble y → Asked float c y → IfOk (Entry float Number) (end_rule float c x y)
rule_keeps c x y p q h =
    let g = end_rule float c x y in
    value_more (λ z. SpanFits Number z × Ordered float z) (Entry float Number) g
    (value_both (SpanFits Number) (Ordered float) g (gives_value (SpanFits Number) g (rule_fits float FiniteDouble Number NotZero double_numbers c x y (double_divides y q) p.ends q.ends))
    (rule_ordered float FiniteDouble double_ordered c x y p q h))
    (λ z r. record { ends = r.0; ordered = r.1 })

-- ---- 5 of a sheet

double_end : (o : Option Float) → Present Finite o → Present Double o → Present FiniteDouble o
double_end none p q = tt
double_end (some x) p q = record { finite = p; double = q }

double_entry : (x : Span Float) → SpanFits Double x × (float_holds x ≡ true) → Entry float FiniteDouble x
double_entry x p =
    let e = float_entry x p.1 in
    record {
      ends = record { lower = double_end x.lower e.ends.lower p.0.lower; upper = double_end x.upper e.ends.upper p.0.upper };
      ordered = e.ordered;
    }

operand : (F : Form) (k : Nature) → NatureFits F k → bounds_fail k ≡ false → OfEntries Any (Entry float FiniteDouble) k
unfolding bounds_fail
operand F absent p e = tt
operand F (whole_range rs) p e = each_any rs
operand F (float_range rs) p e =
    each_weaken (λ x. SpanFits Double x × (float_holds x ≡ true)) (Entry float FiniteDouble) double_entry rs
    (each_both (SpanFits Double) (λ x. float_holds x ≡ true) rs p (every_each float_holds rs (not-false (every float_holds rs) e)))
operand F (whole_lists ls) p e = tt
operand F (bool_lists ls) p e = tt
operand F (float_lists ls) p e = tt
operand F (text_lists ls) p e = tt

unbounded_is : (o : Option Float) → Present Number o → unbounded o ≡ infinite o
unfolding unbounded is_nan
unbounded_is none p = refl
unbounded_is (some nan) p = absurd p
unbounded_is (some (inf s)) p = refl
unbounded_is (some (fin s m e)) p = refl

or_none : (t : Bool) → (t || false) ≡ t
or_none true = refl
or_none false = refl

holds_is : (z : Span Float) → Entry float Number z → float_holds z ≡ not (an_end_infinite z)
holds_is z p = rw (p.ordered, or_none (unbounded z.lower || unbounded z.upper), unbounded_is z.lower p.ends.lower, unbounded_is z.upper p.ends.upper)

fails_is : (zs : List (Span Float)) → Each (Entry float Number) zs → not (every float_holds zs) ≡ any an_end_infinite zs
unfolding every any
fails_is [] p = refl
fails_is (z ∷ zs) p = rw (holds_is z p.0) (go (an_end_infinite z) (fails_is zs p.1))
  where
    go : (t : Bool) → not (every float_holds zs) ≡ any an_end_infinite zs → not (cond (not t) (every float_holds zs) false) ≡ cond t true (any an_end_infinite zs)
    go true h = refl
    go false h = h

number_end : (o : Option Float) → Present Number o → NumberEnd o
number_end none p = tt
number_end (some x) p = p

by_infinity : (zs : List (Span Float)) → Each (Entry float Number) zs → FailsByInfinity zs
unfolding bounds_fail
by_infinity zs h = record {
  numbers = each_weaken (Entry float Number) Numbers (λ z p. (number_end z.lower p.ends.lower, number_end z.upper p.ends.upper)) zs h;
  ordered = each_weaken (Entry float Number) InOrder (λ z p. p.ordered) zs h;
  fails = fails_is zs h;
}

-- a derived sheet's float entries
abbrev DerivedEntries : Sheet → Type 0
DerivedEntries s = OfEntries Any (Entry float Number) s.nature

entries : (F : Form) (c : Component) (l r : Sheet) → OfEntries Any (Entry float FiniteDouble) l.nature → OfEntries Any (Entry float FiniteDouble) r.nature
    → IfOk DerivedEntries (derive F c l r)
entries = derived_ranges Any Any (Entry float FiniteDouble) (Entry float Number) (λ c type x y p q h. any_value (whole_rule c type x y)) rule_keeps

pub derived_float : (F : Form) (c : Component) (l r s : Sheet) → NatureFits F l.nature → NatureFits F r.nature
    → bounds_fail l.nature ≡ false → bounds_fail r.nature ≡ false → derive F c l r ≡ ok s
    → (zs : List (Span Float)) → s.nature ≡ float_range zs → FailsByInfinity zs
derived_float F c l r s v w p q e zs k =
    let h = value_is DerivedEntries (derive F c l r) (entries F c l r (operand F l.nature v p) (operand F r.nature w q)) e in
    by_infinity zs (subst (OfEntries Any (Entry float Number)) k h)

-- 2 ^ -1080 lies between 0 and the smallest double above it
pub abs_alone :
    let x = fin false 1 (negsuc 1079) in
    (end_rule float C.Abs (span_of (some x) (some x)) (span_of (some x) (some x)) ≡ ok (span_of (some x) (some (neg x)))) × (lt (neg x) x ≡ true)
unfolding end_rule abs_ends from_both abs_lower abs_upper add neg lt
abs_alone = (refl, refl)
