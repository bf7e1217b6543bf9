-- What the code of the plan call asks for, and what it answers.
use Rattle.std.specs.Prelude.{◌≡◌, Bool, false, List, ℕ, ◌≤◌}
use Rattle.plan_form.specs.Form.{no_node, node_count, leaf_count}
use Rattle.plan_leaves.specs.Code.{Refusal}
use Rattle.plan_leaves.specs.declared.Walked.{Walked}
use Rattle.plan_leaves.specs.declared.Walked.TheVariants as W
use Rattle.base.specs.Refusals.{number_of}

-- a step is next only where the category stores are not lent
abbrev pub Reaches : Bool → List ℕ → Walked → Type 0
Reaches lent p (W.Accepted n) = n ≤ no_node
Reaches lent p (W.Refused e node) = Refusal (number_of e) node
Reaches lent p (W.Next k) = (lent ≡ false) × (leaf_count p ≤ k) × (k ≤ node_count p)
