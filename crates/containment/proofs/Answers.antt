-- An answer's ends: what it states of a number. Assumes nothing.
use mathlib.Core.Path.{◌≡◌, sym, ap, subst, ◌∙◌}
use mathlib.Core.Option.{Option, none, some}
use lib.IntN.{ℤ}
use lib.Signed.{◌≤ℤ◌}
use Rattle.numbers.specs.Result.{Result, ok}
use Rattle.numbers.specs.Checked.{checked_of}
use Rattle.numbers.specs.Kind.{Span, fitting, span_of}
use Rattle.numbers.proofs.Laws.{exactly}
use Rattle.numbers.proofs.Results.{ok_same, then_ok_inv}
use Rattle.ends.specs.Ends.{unknown, both, present, from_both}
use Rattle.containment.specs.Demand.{AtLeast, AtMost, InSpan}
use Rattle.containment.specs.Within.{Within}

-- both ends absent state nothing
pub nothing : (z : Span ℤ) (v : ℤ) → unknown ≡ ok z → InSpan (some z) v
nothing z v e = subst (λ (o : Span ℤ). InSpan (some o) v) (ok_same e) (tt, tt)

pub both_inv : (l u : Result (Option ℤ)) {z : Span ℤ} → both l u ≡ ok z → (l ≡ ok z.lower) × (u ≡ ok z.upper)
both_inv l u {z} e =
    let p = then_ok_inv l _ e in
    let q = then_ok_inv u _ p.after in
    let o : span_of p.value q.value ≡ z = ok_same q.after in
    (p.is ∙ ap (λ (s : Span ℤ). ok s.lower) o, q.is ∙ ap (λ (s : Span ℤ). ok s.upper) o)

-- an end that is present is the number
pub present_is : (g : Result ℤ) {t : Option ℤ} → present g ≡ ok t → (w : ℤ) × (g ≡ ok w) × (t ≡ some w)
present_is g e = let p = then_ok_inv g _ e in (p.value, p.is, sym (ok_same p.after))

-- .. and the exact one
pub end_is : (n : ℤ) {t : Option ℤ} → present (fitting (checked_of n)) ≡ ok t → t ≡ some n
end_is n e = let p = present_is (fitting (checked_of n)) e in p.2 ∙ ap some (exactly n p.1)

pub low_end : {t : Option ℤ} {n v : ℤ} → t ≡ some n → n ≤ℤ v → AtLeast t v
low_end {v} e h = subst (λ (o : Option ℤ). AtLeast o v) (sym e) h

pub high_end : {t : Option ℤ} {n v : ℤ} → t ≡ some n → v ≤ℤ n → AtMost t v
high_end {v} e h = subst (λ (o : Option ℤ). AtMost o v) (sym e) h

pub no_low : (t : Option ℤ) (v : ℤ) → ◌≡◌ {A = Result (Option ℤ)} (ok none) (ok t) → AtLeast t v
no_low t v e = subst (λ (o : Option ℤ). AtLeast o v) (ok_same e) tt

pub no_high : (t : Option ℤ) (v : ℤ) → ◌≡◌ {A = Result (Option ℤ)} (ok none) (ok t) → AtMost t v
no_high t v e = subst (λ (o : Option ℤ). AtMost o v) (ok_same e) tt

-- a rule of both ends of one operand
pub from_both_lem : (v : ℤ) (P : Span ℤ → Type 0) (rule : ℤ → ℤ → Result (Span ℤ)) (l u : Option ℤ) {z : Span ℤ}
    → ((w : Span ℤ) → unknown ≡ ok w → P w) → ((a c : ℤ) → Within a v c → rule a c ≡ ok z → P z)
    → from_both l u rule ≡ ok z → AtLeast l v → AtMost u v → P z
unfolding from_both
from_both_lem v P rule none u {z} f g e p q = f z e
from_both_lem v P rule (some a) none {z} f g e p q = f z e
from_both_lem v P rule (some a) (some c) f g e p q = g a c (record { low = p; high = q }) e
