-- `ranges::entry_at` meets its contract. Assumes nothing.
use Rattle.ranges.specs.Chained.{range_at}
use Rattle.ranges.proofs.entry_at.Goals as goal

pub returns : goal.returns
unfolding range_at
returns c = cc
