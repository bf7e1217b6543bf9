-- 02, S-3: what Negative and Abs give of float ranges has the bits of one source end each, bit 63 kept or flipped.
--     sign_steps    of an entry of numbers
--     read_signs    of every entry of a float range that a call reads
-- Assumes nothing.
use mathlib.Core.Path.{◌≡◌, refl, subst}
use mathlib.Core.Bool.{Bool, true, false, cond}
use mathlib.Core.List.{List, [], ◌∷◌}
use mathlib.Core.Logic.{inl, inr}
use mathlib.Core.Option.{Option, none, some}
use Prim.Native.Nat.{ℕ}
use lib.Ieee as Ieee
use lib.Ieee.{Float, binary64}
use borrow.Author.Tests.{not-false}
use Rattle.octets.proofs.Reread.{AllBytes}
use Rattle.octets.proofs.SignBit.{flip_bits}
use Rattle.numbers.specs.Result.{ok}
use Rattle.numbers.specs.Kind.{Span, span_of, float}
use Rattle.utilities.specs.Lists.{every}
use Rattle.utilities.proofs.Built.{both_hold}
use Rattle.base.specs.Form.{Form, Laid}
use Rattle.base.specs.Sheet.{Nature, float_range}
use Rattle.base.specs.Decode.{nature_in, decode}
use Rattle.base.specs.Encode.{float_bits}
use Rattle.base.specs.Checks.{float_holds, bounds_fail, read}
use Rattle.base.specs.Code.{code_of}
use Rattle.base.proofs.Passed.{passed_all}
use Rattle.ends.specs.Ends.{both, present, from_one, from_both, neg_ends, abs_lower, abs_upper, abs_ends}
use Rattle.ends.specs.Signs.{NumberEnd, Numbers, copied, negated, neg_bits, abs_bits_of, in_bits, FromOne, FromOneEach, SignSteps}
use Rattle.round_trip.specs.WellFormed.{Each, Present, Double, SpanFits, NatureFits}
use Rattle.derived.proofs.Fractions.{Finite}
use Rattle.derived.proofs.Rounded.{finite_number}
use Rattle.derived.proofs.Pooled.{float_entry}
use Rattle.derived.proofs.Decoded.{decoded_held}

-- ---- an entry

neg_bits_lem : (l u : Option Float) → Present Double l → Present Double u → NumberEnd l → NumberEnd u → in_bits (neg_ends float (span_of l u)) ≡ ok (neg_bits (span_of l u))
unfolding neg_ends from_one
neg_bits_lem none none p q m n = refl
neg_bits_lem none (some c) p q m n = rw (flip_bits c q n)
neg_bits_lem (some a) none p q m n = rw (flip_bits a p m)
neg_bits_lem (some a) (some c) p q m n = rw (flip_bits a p m, flip_bits c q n)

-- either end copied, or the other one negated
chosen : (s t : Bool) (a c : Float) → float_bits (Ieee.neg a) ≡ negated a → float_bits (Ieee.neg c) ≡ negated c
    → in_bits (both (present (cond s (ok a) (ok (Ieee.neg c)))) (present (cond t (ok c) (ok (Ieee.neg a)))))
    ≡ ok (span_of (some (cond s (copied a) (negated c))) (some (cond t (copied c) (negated a))))
chosen true true a c p q = refl
chosen true false a c p q = rw p
chosen false true a c p q = rw q
chosen false false a c p q = rw (p, q)

abs_bits_lem : (l u : Option Float) → Present Double l → Present Double u → NumberEnd l → NumberEnd u → in_bits (abs_ends float (span_of l u)) ≡ ok (abs_bits_of l u)
unfolding abs_ends from_both abs_lower abs_upper
abs_bits_lem none u p q m n = refl
abs_bits_lem (some a) none p q m n = refl
abs_bits_lem (some a) (some c) p q m n =
    chosen (float.lt float.zero a) (float.lt float.zero (Ieee.add binary64 a c)) a c (flip_bits a p m) (flip_bits c q n)

abs_sources_lem : (l u : Option Float) → FromOneEach (span_of l u) (abs_bits_of l u)
abs_sources_lem none u = (inl (inl refl), inl (inl refl))
abs_sources_lem (some a) none = (inr (inl refl), inr (inl refl))
abs_sources_lem (some a) (some c) = (lower (float.lt float.zero a), upper (float.lt float.zero (Ieee.add binary64 a c)))
  where
    lower : (s : Bool) → FromOne (span_of (some a) (some c)) (some (cond s (copied a) (negated c)))
    lower true = inl (inl refl)
    lower false = inr (inr refl)

    upper : (t : Bool) → FromOne (span_of (some a) (some c)) (some (cond t (copied c) (negated a)))
    upper true = inr (inl refl)
    upper false = inl (inr refl)

pub sign_steps : (x : Span Float) → SpanFits Double x → Numbers x → SignSteps x
sign_steps x p n = record {
  negative = neg_bits_lem x.lower x.upper p.lower p.upper n.0 n.1;
  abs = abs_bits_lem x.lower x.upper p.lower p.upper n.0 n.1;
  negative_sources = (inr (inr refl), inl (inr refl));
  abs_sources = abs_sources_lem x.lower x.upper;
}

-- ---- a sheet that passes 3 to 5

number_end : (o : Option Float) → Present Finite o → NumberEnd o
number_end none h = tt
number_end (some x) h = finite_number x h

each_signs : (xs : List (Span Float)) → Each (SpanFits Double) xs → every float_holds xs ≡ true → Each SignSteps xs
unfolding every
each_signs [] p h = tt
each_signs (x ∷ xs) p h =
    let held = both_hold (float_holds x) (every float_holds xs) h in
    let f = (float_entry x held.0).ends in
    (sign_steps x p.0 (number_end x.lower f.lower, number_end x.upper f.upper), each_signs xs p.1 held.1)

bounds_hold : (xs : List (Span Float)) → bounds_fail (float_range xs) ≡ false → every float_holds xs ≡ true
unfolding bounds_fail
bounds_hold xs h = not-false (every float_holds xs) h

pub read_signs : {F : Form} → Laid F → (s : List ℕ) → AllBytes s → (xs : List (Span Float)) → code_of (read F s) ≡ 0 → nature_in F s ≡ float_range xs → Each SignSteps xs
unfolding decode
read_signs {F} laid s small xs e k =
    let p = passed_all F s e in
    each_signs xs (subst (NatureFits F) k (decoded_held laid s small (record { sizes = p.sizes; fields = p.fields })).nature)
    (bounds_hold xs (subst (λ (n : Nature). bounds_fail n ≡ false) k p.bounds))
