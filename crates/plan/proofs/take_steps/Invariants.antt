-- `plan::take_steps`: the set's steps from k on, on the work buffer as it is, answer what those from `from` on answer on it as it was.
use mathlib.Core.Path.{◌≡◌}
use Rattle.base.specs.Form.{narrow}
use Rattle.calls.specs.Walk.{walk}
use Rattle.plan_leaves.specs.Code.{nodes_from}
use Rattle.plan.proofs.take_steps.Given as goal

abbrev pub invariant-loop-k : goal.invariant-loop-k
invariant-loop-k l = walk narrow l.plan (nodes_from l.nodes l.plan l.from) l.initial.work ≡ walk narrow l.plan (nodes_from l.nodes l.plan l.k) l.work
