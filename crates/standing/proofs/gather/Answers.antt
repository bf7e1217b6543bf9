-- `standing::gather` meets its contract. Assumes nothing.
use Rattle.std.proofs.Common.{arith}
use Rattle.plan_form.proofs.FormLaws.{planned}
use Rattle.standing.proofs.Filled.{filled_more}
use Rattle.standing.proofs.Gathering.{wanted_few, turning, gathering_begun, joined_is}
use Rattle.standing.proofs.gather.Goals as goal

pub leaf_count-k-requires : goal.leaf_count-k-requires
leaf_count-k-requires c = (planned c.args.plan.now c.requires.0.formed).sizes

pub overflow_add-k-end : goal.overflow_add-k-end
overflow_add-k-end c = let few = wanted_few c.requires.0 in omega arith

pub loop-k-init : goal.loop-k-init
loop-k-init c = gathering_begun c.args.plan.now c.args.sets.now _ c.leaf_count-k.ensures

pub left_operand-left-requires : goal.left_operand-left-requires
left_operand-left-requires c = (turning c.requires.0 c.leaf_count-k.ensures c.loop-k.auto.k (omega arith)).step

pub right_operand-right-requires : goal.right_operand-right-requires
right_operand-right-requires c = (turning c.requires.0 c.leaf_count-k.ensures c.loop-k.auto.k (omega arith)).step

pub bounds-sets-left : goal.bounds-sets-left
bounds-sets-left c = let t = turning c.requires.0 c.leaf_count-k.ensures c.loop-k.auto.k (omega arith) in omega arith

pub offset_bounds-sets-right : goal.offset_bounds-sets-right
offset_bounds-sets-right c = let t = turning c.requires.0 c.leaf_count-k.ensures c.loop-k.auto.k (omega arith) in omega arith

pub bounds-sets-right : goal.bounds-sets-right
bounds-sets-right c = let t = turning c.requires.0 c.leaf_count-k.ensures c.loop-k.auto.k (omega arith) in omega arith

pub offset_bounds-sets-k : goal.offset_bounds-sets-k
offset_bounds-sets-k c = let t = turning c.requires.0 c.leaf_count-k.ensures c.loop-k.auto.k (omega arith) in omega arith

pub bounds-sets-k : goal.bounds-sets-k
bounds-sets-k c = let t = turning c.requires.0 c.leaf_count-k.ensures c.loop-k.auto.k (omega arith) in omega arith

pub bounds-sets-k-in-loop-k : goal.bounds-sets-k-in-loop-k
bounds-sets-k-in-loop-k c = let t = turning c.requires.0 c.leaf_count-k.ensures c.loop-k.auto.k (omega arith) in omega arith

pub loop-k-preserved : goal.loop-k-preserved
loop-k-preserved c =
    let t = turning c.requires.0 c.leaf_count-k.ensures c.loop-k.auto.k (omega arith) in
    let joined = joined_is c.args.plan.now c.args.sets.now c.requires.0.formed t c.loop-k.invariant in
    filled_more (omega arith) (rw (c.left_operand-left.ensures, c.right_operand-right.ensures) joined) c.loop-k.invariant

pub offset_bounds-sets-wanted : goal.offset_bounds-sets-wanted
offset_bounds-sets-wanted c = let few = wanted_few c.requires.0 in omega arith

pub bounds-sets-wanted : goal.bounds-sets-wanted
bounds-sets-wanted c = let few = wanted_few c.requires.0 in omega arith
