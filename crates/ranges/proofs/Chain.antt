-- Columns one after the other, over any kind of end.
--     chain_is    a rule taken pair by pair, in writing, is the chain of its columns
--     chain_start, chain_more, chain_refused, chain_done    a loop over the columns: what is written, and then the rest, is the whole
-- Assumes nothing.
use mathlib.Core.Path.{◌≡◌, refl, sym, ap, ap₂, ◌∙◌}
use mathlib.Core.List.{List, [], ◌∷◌, ◌++◌, append_assoc, append-nil}
use mathlib.Core.Option.{Option}
use Prim.Native.Nat.{ℕ, zero, suc, ◌+◌, ◌-◌, ◌*◌, ◌<◌}
use native.Mathlib.Nat.{sub-zero, add-zero, zero-add, add_assoc}
use native.Mathlib.Omega.{arith}
use lib.ListN.{length, take}
use Rattle.octets.specs.Wrote.{Wrote}
use Rattle.numbers.specs.Result.{Result, ok, refused, and_then}
use Rattle.numbers.specs.Kind.{Span}
use Rattle.utilities.specs.Lists.{list_from}
use Rattle.utilities.specs.Columns.{each_pair}
use Rattle.base.specs.Encode.{joined, end_bytes, lowers_of, uppers_of}
use Rattle.base.specs.Code.{bound_bytes}
use Rattle.base.specs.declared.Bound.{Bound}
use Rattle.ends.specs.Code.{ends_of}
use Rattle.ends.specs.declared.Range.{Range}
use Rattle.writer.specs.Written.{Written}
use Rattle.ranges.specs.Chained.{after, column_then, columns_in, columns_from}

-- ---- a range of one kind in writing

-- a kind of end has its 64 bits, and a bound of the code
module _ {E : Type 0} (bits : E → ℕ) (nature : ℕ) where
  abbrev pub in_kind : List (Span E) → Written
  in_kind zs = columns_in nature (length zs) (lowers_of bits zs) (uppers_of bits zs)

  module _ (bound : Option E → Bound) (same : (e : Option E) → bound_bytes (bound e) ≡ end_bytes bits e) where
    column_is : (g : Result (Span E)) (gs : Result (List (Span E)))
        → and_then (and_then g (λ z. and_then gs (λ zs. ok (z ∷ zs)))) (λ zs. ok (in_kind zs)) ≡ column_then (ends_of bound g) (and_then gs (λ zs. ok (in_kind zs)))
    unfolding column_then after joined
    column_is (refused k) gs = refl
    column_is (ok z) (refused k) = refl
    column_is (ok z) (ok zs) =
        rw (same z.lower, same z.upper)
        (ap (λ (k : ℕ). ok (columns_in nature k (lowers_of bits (z ∷ zs)) (uppers_of bits (z ∷ zs)))) (omega arith))

    module _ (rule : Span E → Span E → Result (Span E)) (x y : ℕ → Span E) (f : ℕ → Result Range) (by : (j : ℕ) → f j ≡ ends_of bound (rule (x j) (y j))) where
      pub chain_is : (n j : ℕ) → and_then (each_pair rule (list_from n j x) (list_from n j y)) (λ zs. ok (in_kind zs)) ≡ columns_from nature f n j
      unfolding each_pair list_from columns_from joined
      chain_is zero j = refl
      chain_is (suc n) j =
          column_is (rule (x j) (y j)) (each_pair rule (list_from n (j + 1) x) (list_from n (j + 1) y))
          ∙ ap₂ column_then (sym (by j)) (chain_is n (j + 1))

-- ---- the loop

after_nothing : (o : Result Written) → after 0 [] [] o ≡ o
unfolding after
after_nothing (ok w) = rw zero-add
after_nothing (refused k) = refl

after_after : (k m : ℕ) (ls us ls' us' : List ℕ) (o : Result Written) → after k ls us (after m ls' us' o) ≡ after (k + m) (ls ++ ls') (us ++ us') o
unfolding after
after_after k m ls us ls' us' (ok w) = simp (append_assoc, add_assoc)
after_after k m ls us ls' us' (refused n) = refl

-- the first j columns stand in the two buffers, and the whole is those and then the rest
pub record Chaining (nature : ℕ) (f : ℕ → Result Range) (n j at : ℕ) (ls us : List ℕ) : Type 0 where
  pub place : at ≡ 9 * j
  pub whole : columns_from nature f n 0 ≡ after j (take at ls) (take at us) (columns_from nature f (n - j) j)

module _ (nature : ℕ) (f : ℕ → Result Range) (n : ℕ) where
  pub chain_start : (ls us : List ℕ) → Chaining nature f n 0 0 ls us
  chain_start ls us = record { place = refl; whole = rw (sub-zero n) (sym (after_nothing (columns_from nature f n 0))) }

  module _ {j at : ℕ} {ls us : List ℕ} (g : Chaining nature f n j at ls us) where
    columns_one : j < n → columns_from nature f (n - j) j ≡ column_then (f j) (columns_from nature f (n - (j + 1)) (j + 1))
    unfolding columns_from
    columns_one h = let one : n - j ≡ suc (n - (j + 1)) = omega arith in rw one

    pub chain_refused : j < n → {k : ℕ} → refused k ≡ f j → columns_from nature f n 0 ≡ refused k
    unfolding after column_then
    chain_refused h s = rw (g.whole, columns_one h, ← s)

    pub chain_more : j < n → {z : Range} → ok z ≡ f j → {ls' us' : List ℕ} {mid end : ℕ}
        → Wrote ls at 9 (bound_bytes z.lower) ls' mid → Wrote us at 9 (bound_bytes z.upper) us' end → Chaining nature f n (j + 1) end ls' us'
    unfolding column_then
    chain_more h s {mid = mid} {end = end} v w =
        let same : mid ≡ end = omega arith in
        record { place = omega arith; whole = rw (g.whole, columns_one h, ← s, after_after, ← v.front, same, ← w.front) }

    pub chain_done : j ≡ n → columns_from nature f n 0 ≡ ok (columns_in nature n (take (9 * n) ls) (take (9 * n) us))
    unfolding after columns_from
    chain_done h =
        let none : n - j ≡ 0 = omega arith in
        let end : at ≡ 9 * n = omega arith in
        rw (g.whole, none, end, h) (simp (append-nil, add-zero))
