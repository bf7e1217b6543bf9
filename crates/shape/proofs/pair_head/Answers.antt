-- `shape::pair_head` meets its contract: field by field. Assumes nothing.
use Rattle.shape.specs.Fields.{pair_fields}
use Rattle.shape.proofs.pair_head.Goals as goal

pub returns : goal.returns
unfolding pair_fields
returns c = rw (c.rows_of.ensures, c.widest.ensures, c.greater_option.ensures, c.max.ensures)
