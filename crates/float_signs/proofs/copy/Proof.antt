-- `float_signs::copy` meets its contract. Assumes nothing.
use mathlib.Core.Path.{refl}
use Rattle.float_signs.proofs.copy.Statement.{statement}
use Rattle.float_signs.proofs.copy.Tie as tie

pub copy_spec : {M : Type 1} → statement M
copy_spec = tie.close (tie.spec (λ c. (refl, λ n. refl)))
