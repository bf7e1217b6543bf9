-- `ranges::column_at` meets its contract, by what its callees promise. Assumes nothing.
use Rattle.ranges.specs.Chained.{column_at}
use Rattle.ranges.proofs.column_at.Goals as goal

pub returns : goal.returns
unfolding column_at
returns c =
    let p = c.requires in
    let left = rw (c.entry_of-i.ensures.0, p.0.lists) at c.entry_at-x.ensures in
    let right = rw (c.entry_of-k.ensures.0, p.2.lists) at c.entry_at-y.ensures in
    rw (left, right) at c.column.ensures
