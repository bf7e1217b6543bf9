-- The columns so far stand in the two buffers of `ranges::put_columns`, and with the rest they are the whole.
use Rattle.base.specs.Form.{form_of}
use Rattle.ranges.specs.Chained.{column_at, range_number}
use Rattle.ranges.proofs.Chain.{Chaining}
use Rattle.ranges.proofs.put_columns.Given as goal

abbrev pub invariant-loop-j : goal.invariant-loop-j
invariant-loop-j l = Chaining (range_number l.float) (column_at (form_of l.f) l.float l.c l.data_type l.left l.right) l.columns l.j l.at l.lowers l.uppers
