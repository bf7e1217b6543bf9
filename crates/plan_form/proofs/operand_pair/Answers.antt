-- `plan_form::operand_pair` meets its contract. Assumes nothing.
use mathlib.Core.Path.{ap₂, ◌∙◌}
use Prim.Native.Nat.{ℕ, ◌+◌, ◌-◌, ◌*◌}
use Rattle.octets.specs.Le.{le_at}
use Rattle.plan_form.specs.Form.{steps_at}
use Rattle.plan_form.proofs.operand_pair.Goals as goal

pub returns : goal.returns
returns c =
    c.u32_at.ensures
    ∙ ap₂ (λ (n l : ℕ). le_at 4 (steps_at + 4 * (n - l) + 4 * (c.args.k - l)) c.args.plan.now) c.node_count.ensures c.leaf_count-leaves.ensures
