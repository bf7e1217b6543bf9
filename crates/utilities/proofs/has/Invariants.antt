-- Before each turn of `utilities::has` none of the values so far is x.
use Rattle.std.proofs.Common.{◌≡◌, false, take}
use Rattle.numbers.specs.Kind.{eq_z}
use Rattle.utilities.specs.Lists.{has}
use Rattle.utilities.proofs.has.Given as goal

abbrev pub invariant-loop-y : goal.invariant-loop-y
invariant-loop-y l = has eq_z l.x (take l.y-index l.y-items) ≡ false
