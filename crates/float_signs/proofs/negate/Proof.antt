-- `float_signs::negate` meets its contract: a float that is passed fits binary64. Assumes nothing.
use mathlib.Core.Path.{refl, sym, subst}
use lib.Dec.{T}
use Rattle.octets.proofs.SignBit.{flip_bits}
use Rattle.float_signs.proofs.negate.Statement.{statement}
use Rattle.float_signs.proofs.negate.Tie as tie

returns : tie.Need-returns
returns c = (refl, flip_bits c.args.x (subst T (sym c.well_formed.0.1) tt))

pub negate_spec : {M : Type 1} → statement M
negate_spec = tie.close (tie.spec returns)
