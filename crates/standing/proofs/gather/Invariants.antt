-- Before each turn of `standing::gather` the sets below k are gathered, and the others are as they were.
use Rattle.std.proofs.Common.{get_or}
use Rattle.standing.specs.Code.{gathered}
use Rattle.standing.proofs.Filled.{Filled}
use Rattle.standing.proofs.gather.Given as goal

abbrev pub invariant-loop-k : goal.invariant-loop-k
invariant-loop-k l = Filled (gathered l.plan (λ i. get_or l.initial.sets i 0)) l.initial.sets l.sets l.k
