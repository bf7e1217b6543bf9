-- `checks::groups_permitted` meets its contract: each turn tests one number. Assumes nothing.
use Rattle.base.proofs.Holding.{held}
use Rattle.checks.proofs.groups_permitted.Goals as goal

pub loop-i-preserved : goal.loop-i-preserved
loop-i-preserved c = search held
