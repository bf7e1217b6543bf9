-- `octets::deliver` meets its contract: where the bytes fit they stand at the start, before the others, and where they do not nothing changed.
-- Assumes nothing.
use Rattle.std.proofs.Common.{◌≡◌, refl, sym, ◌∙◌, le-leb, get_or, length-set, arith}
use Rattle.std.proofs.lemmas.Bool.{lt-leb}
use Rattle.octets.proofs.Deliveries.{copy_more, delivered_fits, delivered_short}
use Rattle.octets.proofs.deliver.Goals as goal

pub returns-then-out-len : goal.returns-then-out-len
returns-then-out-len c =
    let a = c.args in
    (sym (lt-leb _ _ c.if-out-len.true), delivered_short a.out.now a.src.now a.len c.requires c.if-out-len.true)

pub loop-i-init : goal.loop-i-init
loop-i-init c = (refl, refl)

pub loop-i-preserved : goal.loop-i-preserved
loop-i-preserved c =
    let l = c.loop-i in
    let a = c.args in
    let step = copy_more a.out.now a.src.now l.i (omega arith) (omega arith) in
    (length-set l.out l.i (get_or a.src.now l.i 0) ∙ l.invariant.0, rw l.invariant.1 step)

pub returns : goal.returns
returns c =
    let l = c.loop-i in
    let a = c.args in
    let all : l.i ≡ a.len = omega arith in
    (sym (le-leb _ _ c.if-out-len.false), rw (l.invariant.1, all) (delivered_fits a.out.now a.src.now a.len c.requires c.if-out-len.false))
