-- A loop that tests the numbers from one place to another and stops at the first that fails. `Holding` is its invariant: what the rest decides is what
-- the whole decides. Assumes nothing.
use mathlib.Core.Path.{◌≡◌, refl, sym, ap, ◌∙◌}
use mathlib.Core.Bool.{Bool, true, false, cond, not, ◌&&◌, and-true, and_assoc}
use Prim.Native.Nat.{ℕ, zero, suc, ◌+◌, ◌-◌, ◌≤◌, ◌<◌}
use native.Mathlib.Nat.{sub-zero, add-zero}
use native.Mathlib.Omega.{arith}
use lib.Dec.{eqb}
use borrow.Author.Tests.{not-true, not-false, eqb-true, eqb-false}
use Rattle.utilities.specs.Lists.{list_from, every}
use Rattle.base.specs.Checks.{holds_from}
use Rattle.base.proofs.Flags.{and_both}

-- i is the next number to be tested, and n the end
pub record Holding (p : ℕ → Bool) (n i : ℕ) (all : Bool) : Type 0 where
  pub rest : holds_from (n - i) i p ≡ all

pub holding_start : {p : ℕ → Bool} {n m : ℕ} → n ≡ m → Holding p n 0 (holds_from m 0 p)
holding_start {p} {n} e = record { rest = ap (λ (k : ℕ). holds_from k 0 p) (sub-zero n ∙ e) }

more : (p : ℕ → Bool) (n i : ℕ) → i < n → holds_from (n - i) i p ≡ (p i && holds_from (n - (i + 1)) (i + 1) p)
unfolding holds_from
more p n i h =
    let e : n - i ≡ suc (n - (i + 1)) = omega arith in
    ap (λ (k : ℕ). holds_from k i p) e

module _ {p : ℕ → Bool} {n i : ℕ} {all : Bool} (inv : Holding p n i all) (h : i < n) {r : Bool} (e : r ≡ p i) where
  -- the test at i, whose answer is r
  step : holds_from (n - i) i p ≡ (r && holds_from (n - (i + 1)) (i + 1) p)
  step = more p n i h ∙ ap (λ (t : Bool). t && holds_from (n - (i + 1)) (i + 1) p) (sym e)

  pub holding_more : not r ≡ false → Holding p n (i + 1) all
  holding_more t = record { rest = sym (step ∙ ap (λ (t : Bool). t && holds_from (n - (i + 1)) (i + 1) p) (not-false r t)) ∙ inv.rest }

  pub holding_failed : not r ≡ true → false ≡ all
  holding_failed t = sym (step ∙ ap (λ (t : Bool). t && holds_from (n - (i + 1)) (i + 1) p) (not-true r t)) ∙ inv.rest

module _ {p : ℕ → Bool} {n i : ℕ} {all : Bool} (inv : Holding p n i all) where
  pub holding_done : n ≤ i → true ≡ all
  unfolding holds_from
  holding_done h =
      let e : n - i ≡ 0 = omega arith in
      sym (ap (λ (k : ℕ). holds_from k i p) e) ∙ inv.rest

-- by these `search` proves all of such a loop that is not arithmetic: the start, a turn that fails, one that passes, the end
pub ruleset held = (holding_start, holding_failed, holding_more, holding_done)

-- a test that holds from i on holds at each of the n numbers
pub holds_within : (p : ℕ → Bool) (n i k : ℕ) → holds_from n i p ≡ true → i ≤ k → k < i + n → p k ≡ true
unfolding holds_from
holds_within p zero i k e a b = absurd (omega arith)
holds_within p (suc n) i k e a b =
    let both = and_both (p i) (holds_from n (i + 1) p) e in
    go (eqb i k) refl both.0 (λ above. holds_within p n (i + 1) k both.1 above (omega arith))
  where
    go : (t : Bool) → eqb i k ≡ t → p i ≡ true → (i + 1 ≤ k → p k ≡ true) → p k ≡ true
    go true h here later = ap p (sym (eqb-true i k h)) ∙ here
    go false h here later = let other = eqb-false i k h in later (omega arith)

-- the last test, taken off
pub holds_last : (p : ℕ → Bool) (n i : ℕ) → holds_from (suc n) i p ≡ (holds_from n i p && p (i + n))
unfolding holds_from
holds_last p zero i = rw (and-true, add-zero)
holds_last p (suc n) i =
    let next : i + 1 + n ≡ i + suc n = omega arith in
    ap (λ (t : Bool). p i && t) (holds_last p n (i + 1)) ∙ rw (next, ← and_assoc)

-- two tests, each of all numbers
pub holds_both : (p q : ℕ → Bool) (n i : ℕ) → (holds_from n i p && holds_from n i q) ≡ holds_from n i (λ k. p k && q k)
unfolding holds_from
holds_both p q zero i = refl
holds_both p q (suc n) i = go (p i) (q i) (holds_from n (i + 1) p) (holds_from n (i + 1) q) ∙ ap (λ (t : Bool). (p i && q i) && t) (holds_both p q n (i + 1))
  where
    go : (a b c d : Bool) → ((a && c) && (b && d)) ≡ ((a && b) && (c && d))
    go false b c d = refl
    go true true c d = refl
    go true false true d = refl
    go true false false d = refl

-- a test of every value of a list that is made number by number
pub every_from : {X : Type 0} (p : X → Bool) (f : ℕ → X) (n i : ℕ) → every p (list_from n i f) ≡ holds_from n i (λ k. p (f k))
unfolding every list_from holds_from
every_from p f zero i = refl
every_from p f (suc n) i = go (p (f i)) (every_from p f n (i + 1))
  where
    go : (t : Bool) {x y : Bool} → x ≡ y → cond t x false ≡ (t && y)
    go true e = e
    go false e = refl
