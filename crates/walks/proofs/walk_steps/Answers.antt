-- `walks::walk_steps` begins within the nodes of the plan. Assumes nothing.
use native.Mathlib.Omega.{arith}
use Rattle.plan_form.proofs.FormLaws.{planned}
use Rattle.walks.proofs.walk_steps.Goals as goal

pub steps_in_buffers-ranges-requires-clause-walkable : goal.steps_in_buffers-ranges-requires-clause-walkable
steps_in_buffers-ranges-requires-clause-walkable c =
    let f = planned _ c.requires.0.formed in
    (c.requires.0, omega arith, omega arith)
