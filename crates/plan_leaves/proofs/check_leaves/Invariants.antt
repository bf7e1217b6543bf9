-- `plan_leaves::check_leaves`: what the set's leaves from k on say is what all of them say.
use mathlib.Core.Path.{◌≡◌}
use Prim.Native.Nat.{◌-◌}
use Rattle.base.specs.Form.{narrow}
use Rattle.utilities.specs.Lists.{list_from}
use Rattle.sets.specs.Sets.{in_set, chosen}
use Rattle.calls.specs.Single.{Outcome}
use Rattle.calls.specs.Walk.{leaves_then, leaf_nodes}
use Rattle.plan_form.specs.Form.{leaf_count}
use Rattle.plan_leaves.proofs.check_leaves.Given as goal

abbrev pub invariant-loop-k : goal.invariant-loop-k
invariant-loop-k l =
    (rest : Outcome) → leaves_then narrow (chosen (in_set l.nodes) (leaf_nodes narrow l.plan)) l.work rest
    ≡ leaves_then narrow (chosen (in_set l.nodes) (list_from (leaf_count l.plan - l.k) l.k (λ i. i))) l.work rest
