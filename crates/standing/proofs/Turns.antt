-- What a node has by its operands, in a plan that passed 1.
--     by_leaf    a leaf has its own
--     by_step    a step has what its operands give it
-- Assumes nothing.
use mathlib.Core.Path.{◌≡◌, refl, sym, ap₂, ◌∙◌}
use mathlib.Core.Bool.{Bool, true, false}
use mathlib.Core.List.{List}
use Prim.Native.Nat.{ℕ, zero, suc, ◌≤◌, ◌<◌}
use native.Mathlib.Omega.{arith}
use lib.Dec.{ltb}
use borrow.Author.Tests.{lt-ltb, le-ltb, ltb-true, ltb-false}
use Rattle.plan_form.specs.Form.{node_count, leaf_count, left_of, right_of, plan_fails}
use Rattle.plan_form.proofs.FormLaws.{Planned, planned}
use Rattle.standing.specs.Standing.{turns, by_operands}

module _ (p : List ℕ) {X : Type 0} (leaf : ℕ → X) (step : ℕ → X → X → X) where
  abbrev has : ℕ → X
  has k = by_operands p leaf step k

  turns_leaf : (n k : ℕ) → k < leaf_count p → turns p leaf step n k ≡ leaf k
  unfolding turns
  turns_leaf zero k h = refl
  turns_leaf (suc n) k h = rw (lt-ltb k (leaf_count p) h)

  pub by_leaf : (k : ℕ) → k < leaf_count p → has k ≡ leaf k
  by_leaf k h = turns_leaf k k h

  module _ (formed : plan_fails p ≡ false) where
    form : Planned p
    form = planned p formed

    turns_step : (n k : ℕ) → leaf_count p ≤ k → turns p leaf step (suc n) k ≡ step k (turns p leaf step n (left_of p k)) (turns p leaf step n (right_of p k))
    unfolding turns
    turns_step n k h = rw (le-ltb k (leaf_count p) h)

    -- more turns change nothing
    enough : (m n k : ℕ) → k < node_count p → k ≤ m → k ≤ n → turns p leaf step m k ≡ turns p leaf step n k
    enough zero n k within a b = let some = form.some_leaf in turns_leaf zero k (omega arith) ∙ sym (turns_leaf n k (omega arith))
    enough (suc m) zero k within a b = let some = form.some_leaf in turns_leaf (suc m) k (omega arith) ∙ sym (turns_leaf zero k (omega arith))
    enough (suc m) (suc n) k within a b = go (ltb k (leaf_count p)) refl (λ j h. enough m n j (omega arith) (omega arith) (omega arith))
      where
        go : (t : Bool) → ltb k (leaf_count p) ≡ t → ((j : ℕ) → j < k → turns p leaf step m j ≡ turns p leaf step n j)
            → turns p leaf step (suc m) k ≡ turns p leaf step (suc n) k
        go true e ih = let h = ltb-true k (leaf_count p) e in turns_leaf (suc m) k h ∙ sym (turns_leaf (suc n) k h)
        go false e ih =
            let h = ltb-false k (leaf_count p) e in
            let o = form.earlier k h within in
            turns_step m k h ∙ ap₂ (step k) (ih (left_of p k) o.0) (ih (right_of p k) o.1) ∙ sym (turns_step n k h)

    pub by_step : (k : ℕ) → leaf_count p ≤ k → k < node_count p → has k ≡ step k (has (left_of p k)) (has (right_of p k))
    by_step zero h within = let some = form.some_leaf in absurd (omega arith)
    by_step (suc n) h within =
        let k = suc n in
        let o = form.earlier k h within in
        turns_step n k h
        ∙ ap₂ (step k)
        (enough n (left_of p k) (left_of p k) (omega arith) (omega arith) (omega arith))
        (enough n (right_of p k) (right_of p k) (omega arith) (omega arith) (omega arith))
