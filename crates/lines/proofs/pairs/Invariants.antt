-- The bytes of the first i pairs of digits stand at the start of the output.
use Rattle.lines.proofs.Texts.{Half}
use Rattle.lines.proofs.pairs.Given as goal

abbrev pub invariant-loop-i : goal.invariant-loop-i
invariant-loop-i l = Half l.s l.fn.out l.out l.i
