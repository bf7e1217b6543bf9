-- Of two entries that pass 5, the entry that Pool derives passes 5.
--     pool_whole, pool_float      of whole ranges, and of float ranges
--     whole_entry, float_entry    what passes 5, as the laws of end rules take it
-- Assumes nothing.
use mathlib.Core.Path.{◌≡◌, refl, sym, ap, subst}
use mathlib.Core.Bool.{Bool, true, false, not, ◌||◌}
use mathlib.Core.Option.{Option, none, some}
use native.Mathlib.Omega.{arith}
use lib.Dec.{T}
use lib.Ieee.{Float, lt}
use lib.Ieee.Scale.{finite}
use lib.IntN.{ℤ}
use lib.Signed.{lt_z}
use borrow.Author.Tests.{not-true, not-false}
use Rattle.numbers.specs.Kind.{Span, whole, float}
use Rattle.numbers.proofs.Parts.{true_lt, lt_true}
use Rattle.base.specs.Checks.{crossed, unbounded, whole_holds, float_holds}
use Rattle.base.proofs.Flags.{or_no}
use Rattle.ends.specs.Ends.{pool_ends}
use Rattle.round_trip.specs.WellFormed.{Present, SpanFits}
use Rattle.derived.proofs.Gives.{Gives, gives_more}
use Rattle.derived.proofs.Values.{gives_besides}
use Rattle.derived.proofs.Fitted.{Any, pool_fits}
use Rattle.derived.proofs.Fractions.{Finite, lt_through}
use Rattle.derived.proofs.Rounded.{lt_back}
use Rattle.derived.proofs.Ordered.{Ordered, Entry, pool_ordered}

-- ---- the order of whole numbers, and of floats that are finite

pub whole_along : (a b c : ℤ) → Any a → Any b → Any c → lt_z a b ≡ true → lt_z b c ≡ true → lt_z a c ≡ true
whole_along a b c x y z p q = true_lt a c (omega (arith, lt_true a b p, lt_true b c q))

pub float_along : (a b c : Float) → Finite a → Finite b → Finite c → lt a b ≡ true → lt b c ≡ true → lt a c ≡ true
float_along a b c x y z p q = lt_through a b c x y z p (lt_back b c q)

-- ---- an entry

any_end : (o : Option ℤ) → Present Any o
any_end none = tt
any_end (some x) = tt

any_ends : (x : Span ℤ) → SpanFits Any x
any_ends x = record { lower = any_end x.lower; upper = any_end x.upper }

pub whole_entry : (x : Span ℤ) → whole_holds x ≡ true → Entry whole Any x
whole_entry x p = record { ends = any_ends x; ordered = not-true (crossed whole x.lower x.upper) p }

pub pool_whole : (x y : Span ℤ) → whole_holds x ≡ true → whole_holds y ≡ true → Gives (λ z. whole_holds z ≡ true) (pool_ends whole x y)
pool_whole x y p q =
    gives_more (λ z. SpanFits Any z × Ordered whole z) (λ z. whole_holds z ≡ true) (pool_ends whole x y)
    (gives_besides (Ordered whole) (SpanFits Any) (pool_ends whole x y) (pool_fits whole Any x y (any_ends x) (any_ends y))
    (pool_ordered whole Any whole_along x y (whole_entry x p) (whole_entry y q)))
    (λ z e h. ap not h.1)

bounded : (o : Option Float) → unbounded o ≡ false → Present Finite o
unfolding unbounded
bounded none e = tt
bounded (some x) e = subst T (sym (not-false (finite x) e)) tt

not_unbounded : (o : Option Float) → Present Finite o → unbounded o ≡ false
unfolding unbounded
not_unbounded none p = refl
not_unbounded (some x) p = go (finite x) p
  where
    go : (t : Bool) → T t → not t ≡ false
    go true p = refl
    go false p = absurd p

-- what passes 5 has finite ends that are not crossed
pub float_entry : (x : Span Float) → float_holds x ≡ true → Entry float Finite x
float_entry x p =
    let a = or_no (unbounded x.lower || unbounded x.upper) (crossed float x.lower x.upper) (not-true _ p) in
    let b = or_no (unbounded x.lower) (unbounded x.upper) a.0 in
    record { ends = record { lower = bounded x.lower b.0; upper = bounded x.upper b.1 }; ordered = a.1 }

pub pool_float : (x y : Span Float) → float_holds x ≡ true → float_holds y ≡ true → Gives (λ z. float_holds z ≡ true) (pool_ends float x y)
pool_float x y p q =
    let a = float_entry x p in
    let b = float_entry y q in
    gives_more (λ z. SpanFits Finite z × Ordered float z) (λ z. float_holds z ≡ true) (pool_ends float x y)
    (gives_besides (Ordered float) (SpanFits Finite) (pool_ends float x y) (pool_fits float Finite x y a.ends b.ends) (pool_ordered float Finite float_along x y a b))
    (λ z e h. rw (not_unbounded z.lower h.0.lower, not_unbounded z.upper h.0.upper, h.1))
