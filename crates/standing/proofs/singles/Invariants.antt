-- Before each turn of `standing::singles` each node below k is in a set of its own.
use Rattle.std.proofs.Common.{◌^◌}
use Rattle.standing.proofs.Filled.{Filled}
use Rattle.standing.proofs.singles.Given as goal

abbrev pub invariant-loop-k : goal.invariant-loop-k
invariant-loop-k l = Filled (λ i. 2 ^ i) l.initial.sets l.sets l.k
