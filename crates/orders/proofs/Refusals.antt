-- Checks in a row: the number of the first that fails, and what it says of `checked`. Assumes nothing.
use mathlib.Core.Path.{◌≡◌, refl, sym, ap, subst, ◌∙◌}
use mathlib.Core.Bool.{Bool, true, false, cond, not}
use mathlib.Core.List.{List, [], ◌∷◌, ◌++◌}
use Prim.Native.Nat.{ℕ}
use lib.Dec.{T, eqb}
use borrow.Author.Tests.{eqb-true, not-true, eq-eqb}
use Rattle.numbers.specs.Result.{Result, refused, Check, checked, first_failing}
use Rattle.utilities.specs.Lists.{every}
use Rattle.utilities.proofs.Built.{both_hold}
use Rattle.base.specs.Refusals.{number_of}
use Rattle.base.specs.declared.refusals.Refusal.{Refusal}
use Rattle.base.proofs.Told.{numbered}
use Rattle.orders.specs.Parts.{next}

-- no check has the number 0, which stands for no refusal
pub record Numbered (cs : List Check) : Type 0 where
  pub all : every (λ c. not (eqb c.number 0)) cs ≡ true

module _ (c : Check) (cs : List Check) (z : Numbered (c ∷ cs)) where
  pub head_numbered : eqb c.number 0 ≡ false
  unfolding every
  head_numbered = not-true (eqb c.number 0) (both_hold (not (eqb c.number 0)) (every (λ c. not (eqb c.number 0)) cs) z.all).0

  pub tail_numbered : Numbered cs
  unfolding every
  tail_numbered = record { all = (both_hold (not (eqb c.number 0)) (every (λ c. not (eqb c.number 0)) cs) z.all).1 }

-- nothing behind a part leaves what it says
pub next_nothing : (k : ℕ) → next k 0 ≡ k
next_nothing k = go (eqb k 0) refl
  where
    go : (t : Bool) → eqb k 0 ≡ t → cond t 0 k ≡ k
    go true e = sym (eqb-true k 0 e)
    go false e = refl

-- the later checks count where the earlier ones refuse nothing
pub first_append : (cs ds : List Check) → Numbered cs → first_failing (cs ++ ds) ≡ next (first_failing cs) (first_failing ds)
unfolding first_failing
first_append [] ds z = refl
first_append (c ∷ cs) ds z =
    go c.fails c.number (first_failing cs) (first_failing (cs ++ ds)) (first_failing ds) (head_numbered c cs z) (first_append cs ds (tail_numbered c cs z))
  where
    go : (t : Bool) (k m a b : ℕ) → eqb k 0 ≡ false → a ≡ next m b → cond t k a ≡ next (cond t k m) b
    go true k m a b e h = sym (ap (λ (t : Bool). cond t b k) e)
    go false k m a b e h = h

module _ {X : Type 0} (rest : Result X) where
  -- what the code says of the checks
  pub checked_code : (cs : List Check) → Numbered cs → checked cs rest ≡ cond (eqb (first_failing cs) 0) rest (refused (first_failing cs))
  unfolding checked first_failing
  checked_code [] z = refl
  checked_code (c ∷ cs) z =
      go c.fails c.number (first_failing cs) (checked cs rest) (head_numbered c cs z) (checked_code cs (tail_numbered c cs z))
    where
      go :
          (t : Bool) (k m : ℕ) (a : Result X) → eqb k 0 ≡ false → a ≡ cond (eqb m 0) rest (refused m)
          → cond t (refused k) a ≡ cond (eqb (cond t k m) 0) rest (refused (cond t k m))
      go true k m a e h = sym (ap (λ (t : Bool). cond t rest (refused k)) e)
      go false k m a e h = h

  pub checked_passes : (cs : List Check) → Numbered cs → first_failing cs ≡ 0 → checked cs rest ≡ rest
  checked_passes cs z e = checked_code cs z ∙ ap (λ (k : ℕ). cond (eqb k 0) rest (refused k)) e

  pub checked_refuses : (cs : List Check) {k : ℕ} → first_failing cs ≡ k → eqb k 0 ≡ false → checked cs rest ≡ refused k
  unfolding checked first_failing
  checked_refuses [] {k} e h = absurd (subst T (sym (eq-eqb k 0 (sym e)) ∙ h) tt)
  checked_refuses (c ∷ cs) {k} e h = go c.fails c.number (first_failing cs) (checked cs rest) (λ e. checked_refuses cs e h) e
    where
      go : (t : Bool) (m n : ℕ) (a : Result X) → (n ≡ k → a ≡ refused k) → cond t m n ≡ k → cond t (refused m) a ≡ refused k
      go true m n a r e = ap refused e
      go false m n a r e = r e

-- a refusal leaves the later checks aside
pub next_err : (e : Refusal) (rest : ℕ) → next (number_of e) rest ≡ number_of e
next_err e rest = ap (λ (t : Bool). cond t rest (number_of e)) (numbered e)
