-- Before each turn of `rights::leaf_sets` the sets of the leaves below k are in place.
use Rattle.standing.proofs.Filled.{Filled}
use Rattle.rights.specs.Rights.{owner_set}
use Rattle.rights.proofs.leaf_sets.Given as goal

abbrev pub invariant-loop-k : goal.invariant-loop-k
invariant-loop-k l = Filled (owner_set l.owners) l.initial.sets l.sets l.k
