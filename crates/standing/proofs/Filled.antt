-- A list whose first k values are those of a function, and the others as they were.
--     filled_none    before the first
--     filled_more    one more
-- Assumes nothing.
use mathlib.Core.Path.{◌≡◌, refl, sym, subst, ◌∙◌}
use mathlib.Core.Bool.{Bool, true, false}
use mathlib.Core.List.{List}
use Prim.Native.Nat.{ℕ, ◌+◌, ◌≤◌, ◌<◌}
use native.Mathlib.Omega.{arith}
use lib.Dec.{eqb}
use lib.ListN.{length, get_or, set, length-set}
use lib.Seq.{get_or-set_same, get_or-set_other}
use borrow.Author.Tests.{eqb-true, eqb-false}

pub record Filled (f : ℕ → ℕ) (before now : List ℕ) (k : ℕ) : Type 0 where
  pub size : length now ≡ length before
  pub done : (i : ℕ) → i < k → get_or now i 0 ≡ f i
  pub rest : (i : ℕ) → k ≤ i → get_or now i 0 ≡ get_or before i 0

pub filled_none : (f : ℕ → ℕ) (before : List ℕ) → Filled f before before 0
filled_none f before = record { size = refl; done = λ i h. absurd (omega arith); rest = λ i h. refl }

module _ {f : ℕ → ℕ} {before now : List ℕ} {k n : ℕ} (room : k < length now) (e : n ≡ f k) (g : Filled f before now k) where
  done_more : (i : ℕ) → i < k + 1 → get_or (set now k n) i 0 ≡ f i
  done_more i h = go (eqb i k) refl
    where
      go : (t : Bool) → eqb i k ≡ t → get_or (set now k n) i 0 ≡ f i
      go true q = subst (λ (j : ℕ). get_or (set now k n) j 0 ≡ f j) (sym (eqb-true i k q)) (get_or-set_same now k n 0 room ∙ e)
      go false q = let other = eqb-false i k q in get_or-set_other now k i n 0 other ∙ g.done i (omega arith)

  pub filled_more : Filled f before (set now k n) (k + 1)
  filled_more =
      record {
        size = length-set now k n ∙ g.size;
        done = done_more;
        rest = λ i h. get_or-set_other now k i n 0 (λ q. omega arith) ∙ g.rest i (omega arith);
      }
