-- `shape::copy_head` meets its contract: field by field. Assumes nothing.
use Rattle.shape.specs.Fields.{copy_fields}
use Rattle.shape.proofs.copy_head.Goals as goal

pub returns : goal.returns
unfolding copy_fields
returns c = rw c.greater_option.ensures
