-- What the readers of a plan ask for.
use Rattle.std.specs.Prelude.{◌≡◌, List, ℕ, ◌+◌, ◌*◌, ◌≤◌, ◌<◌, length}
use Rattle.plan_form.specs.Form.{steps_at, node_count, leaf_count, step_count}

-- node k is a step of a plan whose length fits its sizes
pub record StepOf (p : List ℕ) (k : ℕ) : Type 0 where
  pub exact : length p ≡ steps_at + 8 * step_count p
  pub later : leaf_count p ≤ k
  pub within : k < node_count p
