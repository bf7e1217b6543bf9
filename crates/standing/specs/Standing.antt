-- 02, S-7: "the wanted node and all it stands on".
use Rattle.std.specs.Prelude.{Bool, cond, ◌||◌, List, ℕ, zero, suc, eqb, ltb}
use Rattle.utilities.specs.Lists.{list_from}
use Rattle.plan_form.specs.Form.{node_count, leaf_count, step_count, left_of, right_of}
use Rattle.sets.specs.Sets.{chosen}

module _ (p : List ℕ) where
  -- what node k has: a leaf its own, a step by what its operands have. Operands are earlier nodes, so that k turns are enough
  module _ {X : Type 0} (leaf : ℕ → X) (step : ℕ → X → X → X) where
    unfoldable pub turns : ℕ → ℕ → X
    turns zero k = leaf k
    turns (suc n) k = cond (ltb k (leaf_count p)) (leaf k) (step k (turns n (left_of p k)) (turns n (right_of p k)))

    abbrev pub by_operands : ℕ → X
    by_operands k = turns k k

  -- node k stands on node j: j is k, or one of k's operands stands on j
  abbrev pub stands : ℕ → ℕ → Bool
  stands k j = by_operands (λ i. eqb i j) (λ i left right. eqb i j || (left || right)) k

  -- the nodes that k stands on, itself included, ascending: the least set that holds k and, with a step, its operands (`Least`)
  abbrev pub stands_on : ℕ → List ℕ
  stands_on k = chosen (stands k) (list_from (node_count p) 0 (λ j. j))

  -- the leaves of these, and the steps
  abbrev pub walked_leaves : ℕ → List ℕ
  walked_leaves k = chosen (stands k) (list_from (leaf_count p) 0 (λ j. j))

  abbrev pub walked_steps : ℕ → List ℕ
  walked_steps k = chosen (stands k) (list_from (step_count p) (leaf_count p) (λ j. j))
