-- The owners of a node, gathered from the leaves that it stands on.
--     no_sets            a list of empty sets
--     gathered_owners    steps have none of their own
-- Assumes nothing.
use mathlib.Core.Path.{◌≡◌, refl, sym, ap₂, ◌∙◌}
use mathlib.Core.Bool.{Bool, true, false}
use mathlib.Core.List.{List}
use Prim.Native.Nat.{ℕ, zero, suc, ◌≤◌, ◌<◌}
use native.Mathlib.Omega.{arith}
use lib.Bits.{bit_or, or_zero_l}
use lib.Dec.{ltb}
use lib.ListN.{get_or, replicate}
use borrow.Author.Tests.{ltb-true, ltb-false}
use Rattle.plan_form.specs.Form.{node_count, leaf_count, left_of, right_of, plan_fails}
use Rattle.plan_form.proofs.FormLaws.{planned}
use Rattle.standing.specs.Code.{gathered}
use Rattle.standing.proofs.Turns.{by_leaf, by_step}
use Rattle.rights.specs.Rights.{owner_set, owners_of}

pub no_sets : (n i : ℕ) → ◌≡◌ {A = ℕ} (get_or (replicate n 0) i 0) 0
no_sets zero i = refl
no_sets (suc n) zero = refl
no_sets (suc n) (suc i) = no_sets n i

module _ (p owners : List ℕ) (own : ℕ → ℕ) (formed : plan_fails p ≡ false) (leaf : (k : ℕ) → k < leaf_count p → own k ≡ owner_set owners k)
    (none : (k : ℕ) → leaf_count p ≤ k → own k ≡ 0) where
  up_to : (n k : ℕ) → k < n → k < node_count p → gathered p own k ≡ owners_of p owners k
  up_to zero k a h = absurd (omega arith)
  up_to (suc n) k a h = go (ltb k (leaf_count p)) refl (λ i b. up_to n i (omega arith) (omega arith))
    where
      go : (t : Bool) → ltb k (leaf_count p) ≡ t → ((i : ℕ) → i < k → gathered p own i ≡ owners_of p owners i) → gathered p own k ≡ owners_of p owners k
      go true e below =
          let l = ltb-true k (leaf_count p) e in
          by_leaf p own (λ i left right. bit_or (own i) (bit_or left right)) k l ∙ leaf k l ∙ sym (by_leaf p (owner_set owners) (λ i left right. bit_or left right) k l)
      go false e below =
          let l = ltb-false k (leaf_count p) e in
          let o = (planned p formed).earlier k l h in
          by_step p own (λ i left right. bit_or (own i) (bit_or left right)) formed k l h
          ∙ ap₂ bit_or (none k l) (ap₂ bit_or (below (left_of p k) o.0) (below (right_of p k) o.1))
          ∙ or_zero_l (bit_or (owners_of p owners (left_of p k)) (owners_of p owners (right_of p k)))
          ∙ sym (by_step p (owner_set owners) (λ i left right. bit_or left right) formed k l h)

  pub gathered_owners : (k : ℕ) → k < node_count p → gathered p own k ≡ owners_of p owners k
  gathered_owners k h = up_to (suc k) k (omega arith) h
