-- What the code gathers of the nodes that a node stands on.
use Rattle.std.specs.Prelude.{◌≡◌, false, List, ℕ, ◌<◌}
use Rattle.std.specs.Int.Bits.{bit_or}
use Rattle.plan_form.specs.Form.{node_count, plan_fails}
use Rattle.standing.specs.Standing.{by_operands}

-- the sets that node k and all it stands on have of their own, in one
abbrev pub gathered : List ℕ → (ℕ → ℕ) → ℕ → ℕ
gathered p own = by_operands p own (λ k left right. bit_or (own k) (bit_or left right))

-- node k is one of a plan that passed 1
pub record NodeOf (p : List ℕ) (k : ℕ) : Type 0 where
  pub formed : plan_fails p ≡ false
  pub within : k < node_count p
