-- Each turn puts one byte, and where its digits are none the bytes are none. Assumes nothing.
use Rattle.std.proofs.Common.{◌≡◌, ℕ, ◌/◌, length, drop, ap, ◌++◌, ◌∙◌, arith}
use Rattle.lines.proofs.Texts.{bytes_length, half_none, half_more, half_not, half_done, none_of}
use Rattle.lines.proofs.pairs.Goals as goal

pub returns-then-s-eq1-clause-puts : goal.returns-then-s-eq1-clause-puts
returns-then-s-eq1-clause-puts c = λ vs e. absurd (omega (arith, bytes_length c.args.s.now vs e))

pub returns-then-out-n-clause-puts : goal.returns-then-out-n-clause-puts
returns-then-out-n-clause-puts c = λ vs e. omega (arith, bytes_length c.args.s.now vs e)

pub loop-i-init : goal.loop-i-init
loop-i-init c = half_none c.args.s.now c.args.out.now

pub returns-in_err-out-clause-puts : goal.returns-in_err-out-clause-puts
returns-in_err-out-clause-puts c = rw c.from_residual.ensures (none_of (half_not c.loop-i.invariant (omega arith) c.byte.ensures c.in_err-out.was))

pub loop-i-preserved : goal.loop-i-preserved
loop-i-preserved c = half_more c.loop-i.invariant (omega arith) c.byte.ensures _ c.in_ok-out.was (omega arith)

pub returns-clause-puts : goal.returns-clause-puts
returns-clause-puts c =
    let h = c.loop-i.invariant in
    let all : c.loop-i.i ≡ length c.args.s.now / 2 = omega arith in
    (h.done, half_done h (omega arith), h.count ∙ all, h.held ∙ ap (λ (k : ℕ). h.done ++ drop k c.args.out.now) all)
