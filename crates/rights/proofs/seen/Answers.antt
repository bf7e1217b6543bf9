-- `rights::seen` meets its contract. Assumes nothing.
use mathlib.Core.Path.{refl}
use Rattle.rights.specs.Rights.{seen}
use Rattle.rights.proofs.seen.Goals as goal

pub returns : goal.returns
unfolding seen
returns c = refl
