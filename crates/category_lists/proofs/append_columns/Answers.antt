-- `category_lists::append_columns` meets its contract. Assumes nothing.
use Rattle.std.proofs.Common.{arith}
use Rattle.category_lists.proofs.Gathering.{columns_more}
use Rattle.category_lists.proofs.append_columns.Goals as goal

pub loop-i-preserved : goal.loop-i-preserved
loop-i-preserved c =
    let call = c.append_list-total in
    let l = c.loop-i in record {
      bound = call.ensures.0;
      columns = λ each n xs s h same start.
          columns_more (l.invariant.columns each n xs s h same start) (omega (arith, c.loop-i-test.true, h)) (same l.i (omega arith) c.loop-i-test.true) (call.ensures.1 xs s);
    }
