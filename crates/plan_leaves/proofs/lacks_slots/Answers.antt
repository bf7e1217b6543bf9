-- `plan_leaves::lacks_slots` meets its contract. Assumes nothing.
use mathlib.Core.Path.{ap}
use Prim.Native.Nat.{ℕ}
use native.Mathlib.Omega.{arith}
use lib.Dec.{ltb}
use lib.ListN.{length}
use Rattle.base.specs.Form.{narrow}
use Rattle.calls.specs.Walk.{slot_at}
use Rattle.plan_form.proofs.FormLaws.{planned}
use Rattle.plan_leaves.proofs.lacks_slots.Goals as goal

pub node_count-requires : goal.node_count-requires
node_count-requires c = (planned _ c.requires).sizes

pub overflow_mul-result : goal.overflow_mul-result
overflow_mul-result c =
    let f = planned _ c.requires in
    omega arith

pub returns : goal.returns
returns c = ap (λ (n : ℕ). ltb (length c.args.work.now) (slot_at narrow n)) c.node_count.ensures
