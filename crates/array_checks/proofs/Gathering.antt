-- A loop that tests every number and is not left early: what failed so far is a flag. `Gathering` is its invariant: the flag, with what the rest
-- decides, is what the whole decides. Assumes nothing.
use Rattle.std.proofs.Common.{◌≡◌, ℕ, suc, ◌+◌, ◌-◌, ◌<◌, ◌≤◌, Bool, true, false, not, ◌&&◌, ◌||◌, sym, refl, ap, ◌∙◌, subst, arith}
use mathlib.Core.Bool.{and-true, not-not}
use native.Mathlib.Nat.{sub-zero}
use Rattle.base.specs.Checks.{holds_from}

-- i is the next number to be tested, and n the end
pub record Gathering (p : ℕ → Bool) (n i : ℕ) (bad all : Bool) : Type 0 where
  pub rest : not bad && holds_from (n - i) i p ≡ all

pub gathering_start : {p : ℕ → Bool} {n : ℕ} → Gathering p n 0 false (holds_from n 0 p)
gathering_start {p} {n} = record { rest = ap (λ (k : ℕ). holds_from k 0 p) (sub-zero n) }

-- the flag, written otherwise
pub gathering_same : {p : ℕ → Bool} {n i : ℕ} {bad flag all : Bool} → bad ≡ flag → Gathering p n i bad all → Gathering p n i flag all
gathering_same {p} {n} {i} {all = all} e inv = subst (λ (t : Bool). Gathering p n i t all) e inv

module _ {p : ℕ → Bool} {n i : ℕ} {bad all : Bool} (inv : Gathering p n i bad all) where
  -- one more, whose failure is f
  pub gathering_more : i < n → (f : Bool) → f ≡ not (p i) → Gathering p n (i + 1) (bad || f) all
  unfolding holds_from
  gathering_more h f e =
      let m : n - i ≡ suc (n - (i + 1)) = omega arith in
      record { rest = ap (λ (t : Bool). not (bad || t) && holds_from (n - (i + 1)) (i + 1) p) e ∙ go bad (p i) ∙ sym (ap (λ (k : ℕ). not bad && holds_from k i p) m) ∙ inv.rest }
    where
      go : (b t : Bool) → not (b || not t) && holds_from (n - (i + 1)) (i + 1) p ≡ not b && (t && holds_from (n - (i + 1)) (i + 1) p)
      go true t = refl
      go false true = refl
      go false false = refl

  pub gathering_done : n ≤ i → not bad ≡ all
  unfolding holds_from
  gathering_done h =
      let m : n - i ≡ 0 = omega arith in
      sym (and-true (not bad)) ∙ sym (ap (λ (k : ℕ). not bad && holds_from k i p) m) ∙ inv.rest

  pub gathering_failed : n ≤ i → bad ≡ not all
  gathering_failed h = sym (not-not bad) ∙ ap not (gathering_done h)

-- by these `search` proves the start and the end of such a loop
pub ruleset gathered = (gathering_start, gathering_done, gathering_failed)
