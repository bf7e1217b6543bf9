-- `rights::leaf_sets` meets its contract. Assumes nothing.
use Rattle.std.proofs.Common.{arith}
use Rattle.plan_form.proofs.FormLaws.{planned}
use Rattle.standing.proofs.Filled.{filled_more}
use Rattle.rights.proofs.leaf_sets.Goals as goal

pub leaf_count-k-end-requires : goal.leaf_count-k-end-requires
leaf_count-k-end-requires c = (planned c.args.plan.now c.requires.0).sizes

pub bounds-sets-k : goal.bounds-sets-k
bounds-sets-k c = let form = planned c.args.plan.now c.requires.0 in omega arith

pub loop-k-preserved : goal.loop-k-preserved
loop-k-preserved c =
    let form = planned c.args.plan.now c.requires.0 in
    filled_more (omega arith) c.u64_at.ensures c.loop-k.invariant
