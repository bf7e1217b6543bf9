-- `plan_form::steps_permitted` meets its contract. Assumes nothing.
use Rattle.base.proofs.Holding.{held}
use Rattle.plan_form.proofs.steps_permitted.Goals as goal

pub loop-k-preserved : goal.loop-k-preserved
loop-k-preserved c = search held
