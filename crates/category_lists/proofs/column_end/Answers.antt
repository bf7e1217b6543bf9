-- `category_lists::column_end` meets its contract. Assumes nothing.
use Rattle.category_lists.proofs.Operands.{listed_long}
use Rattle.category_lists.proofs.column_end.Goals as goal

pub sizes_at-l-requires : goal.sizes_at-l-requires
sizes_at-l-requires c = listed_long c.requires.0

pub sizes_at-r-requires : goal.sizes_at-r-requires
sizes_at-r-requires c = listed_long c.requires.1
