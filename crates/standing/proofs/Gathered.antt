-- What is gathered of nodes in sets of their own: the nodes that a node stands on.
--     gathered_stands
-- Assumes nothing.
use mathlib.Core.Path.{◌≡◌, refl, sym, ap, ap₂, ◌∙◌}
use mathlib.Core.Bool.{Bool, true, false, ◌||◌}
use mathlib.Core.List.{List}
use Prim.Native.Nat.{ℕ, zero, suc, ◌^◌, ◌≤◌, ◌<◌}
use native.Mathlib.Omega.{arith}
use lib.Bits.{bit_or}
use lib.Dec.{eqb, ltb}
use borrow.Author.Tests.{ltb-true, ltb-false}
use Rattle.sets.specs.Sets.{in_set}
use Rattle.sets.proofs.SetLaws.{in_union, in_only}
use Rattle.plan_form.specs.Form.{node_limit, node_count, leaf_count, left_of, right_of, plan_fails}
use Rattle.plan_form.proofs.FormLaws.{planned}
use Rattle.standing.specs.Standing.{stands}
use Rattle.standing.specs.Code.{gathered}
use Rattle.standing.proofs.Turns.{by_leaf, by_step}

module _ (p : List ℕ) (own : ℕ → ℕ) (formed : plan_fails p ≡ false) (alone : (k : ℕ) → k < node_limit → own k ≡ 2 ^ k) (j : ℕ) where
  -- k's own set
  own_is : (k : ℕ) → k < node_count p → in_set (own k) j ≡ eqb k j
  own_is k h =
      let few = (planned p formed).nodes in
      ap (λ (n : ℕ). in_set n j) (alone k (omega arith)) ∙ in_only k j

  leaf_is : (k : ℕ) → k < node_count p → k < leaf_count p → in_set (gathered p own k) j ≡ stands p k j
  leaf_is k h l =
      ap (λ (n : ℕ). in_set n j) (by_leaf p own (λ i left right. bit_or (own i) (bit_or left right)) k l)
      ∙ own_is k h
      ∙ sym (by_leaf p (λ i. eqb i j) (λ i left right. eqb i j || (left || right)) k l)

  step_is : (k : ℕ) → k < node_count p → leaf_count p ≤ k → ((i : ℕ) → i < k → in_set (gathered p own i) j ≡ stands p i j)
      → in_set (gathered p own k) j ≡ stands p k j
  step_is k h l below =
      let o = (planned p formed).earlier k l h in
      let left = gathered p own (left_of p k) in
      let right = gathered p own (right_of p k) in
      ap (λ (n : ℕ). in_set n j) (by_step p own (λ i left right. bit_or (own i) (bit_or left right)) formed k l h)
      ∙ in_union (own k) (bit_or left right) j
      ∙ ap₂ ◌||◌ (own_is k h) (in_union left right j ∙ ap₂ ◌||◌ (below (left_of p k) o.0) (below (right_of p k) o.1))
      ∙ sym (by_step p (λ i. eqb i j) (λ i left right. eqb i j || (left || right)) formed k l h)

  up_to : (n k : ℕ) → k < n → k < node_count p → in_set (gathered p own k) j ≡ stands p k j
  up_to zero k a h = absurd (omega arith)
  up_to (suc n) k a h = go (ltb k (leaf_count p)) refl (λ i b. up_to n i (omega arith) (omega arith))
    where
      go : (t : Bool) → ltb k (leaf_count p) ≡ t → ((i : ℕ) → i < k → in_set (gathered p own i) j ≡ stands p i j)
          → in_set (gathered p own k) j ≡ stands p k j
      go true e below = leaf_is k h (ltb-true k (leaf_count p) e)
      go false e below = step_is k h (ltb-false k (leaf_count p) e) below

  pub gathered_stands : (k : ℕ) → k < node_count p → in_set (gathered p own k) j ≡ stands p k j
  gathered_stands k h = up_to (suc k) k (omega arith) h
