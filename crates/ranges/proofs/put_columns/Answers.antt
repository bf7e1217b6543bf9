-- One column after the other in `ranges::put_columns`; the range keeps to the form's limits, since it has one entry per column. Assumes nothing.
use mathlib.Core.Path.{sym}
use native.Mathlib.Omega.{arith}
use Rattle.base.proofs.Forms.{laid}
use Rattle.base.proofs.Told.{handed_on}
use Rattle.ranges.proofs.Chain.{chain_start, chain_more, chain_refused, chain_done}
use Rattle.ranges.proofs.put_columns.Goals as goal

pub loop-j-init : goal.loop-j-init
loop-j-init c = chain_start _ _ _ _ _

pub returns-in_err-z : goal.returns-in_err-z
returns-in_err-z c =
    rw (handed_on _ c.in_err-z.field-0.0 c.from_residual.ensures.1) (sym (chain_refused _ _ _ c.loop-j.invariant c.loop-j-test.true c.in_err-z.ensures), tt)

pub loop-j-preserved : goal.loop-j-preserved
loop-j-preserved c =
    chain_more _ _ _ c.loop-j.invariant c.loop-j-test.true c.in_ok-z.ensures c.put_bound.ensures c.put_bound-at.ensures

pub returns : goal.returns
returns c =
    let k = laid c.args.f in
    (rw c.range_parts.ensures (sym (chain_done _ _ _ c.loop-j.invariant (omega arith))), rw c.range_parts.ensures (omega arith))
