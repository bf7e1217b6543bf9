-- `pool_fields::pool_head` meets its contract: field by field. Assumes nothing.
use Rattle.shape.specs.Fields.{pool_fields}
use Rattle.pool_fields.proofs.pool_head.Goals as goal

pub returns : goal.returns
unfolding pool_fields
returns c = rw (c.widest.ensures, c.greater_option.ensures, c.max.ensures)
