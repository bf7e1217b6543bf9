-- `plan_form::component_number` meets its contract. Assumes nothing.
use mathlib.Core.Path.{ap, ◌∙◌}
use Prim.Native.Nat.{ℕ, ◌+◌, ◌-◌, ◌*◌}
use Rattle.octets.specs.Le.{le_at}
use Rattle.plan_form.specs.Form.{steps_at}
use Rattle.plan_form.proofs.component_number.Goals as goal

pub returns : goal.returns
returns c = c.u32_at.ensures ∙ ap (λ (l : ℕ). le_at 4 (steps_at + 4 * (c.args.k - l)) c.args.plan.now) c.leaf_count-leaves.ensures
