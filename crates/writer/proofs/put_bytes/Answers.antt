-- `writer::put_bytes` meets its contract. Assumes nothing.
use Rattle.std.proofs.Common.{◌≡◌, refl, ◌+◌, ◌∙◌, drop, get_or, length-set, arith}
use Rattle.writer.proofs.Copies.{copy_start, copy_more}
use Rattle.writer.proofs.put_bytes.Goals as goal

pub loop-i-init : goal.loop-i-init
loop-i-init c =
    let a = c.args in
    (refl, copy_start a.buf.now a.at (drop a.from a.src.now))

pub loop-i-preserved : goal.loop-i-preserved
loop-i-preserved c =
    let l = c.loop-i in
    let a = c.args in
    (length-set l.buf (a.at + l.i) (get_or a.src.now (a.from + l.i) 0) ∙ l.invariant.0, copy_more a.src.now a.from l.invariant.1 (omega arith) (omega arith))

pub returns : goal.returns
returns c =
    let l = c.loop-i in
    let a = c.args in
    let all : l.i ≡ a.n = omega arith in
    rw all at l.invariant.1
