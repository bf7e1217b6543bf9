-- `shape::groups::all_same` meets its contract. Assumes nothing.
use Rattle.base.proofs.Holding.{held}
use Rattle.shape.proofs.groups.all_same.Goals as goal

pub loop-i-preserved : goal.loop-i-preserved
loop-i-preserved c = search held
