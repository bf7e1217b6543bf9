-- `bounds::entries_asked` meets its contract. Assumes nothing.
use Rattle.base.proofs.Holding.{held}
use Rattle.bounds.proofs.entries_asked.Goals as goal

pub loop-i-preserved : goal.loop-i-preserved
loop-i-preserved c = search held
