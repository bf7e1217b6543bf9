-- Each turn of `plan_form::steps_permitted` tests one step.
use Rattle.base.specs.Checks.{holds_from}
use Rattle.base.proofs.Holding.{Holding}
use Rattle.plan_form.specs.Form.{leaf_count, step_count}
use Rattle.plan_form.proofs.FormLaws.{permitted}
use Rattle.plan_form.proofs.steps_permitted.Given as goal

abbrev pub invariant-loop-k : goal.invariant-loop-k
invariant-loop-k l = Holding (permitted l.plan) l.k-end l.k (holds_from (step_count l.plan) (leaf_count l.plan) (permitted l.plan))
