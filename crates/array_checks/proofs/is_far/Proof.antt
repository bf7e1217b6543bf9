-- `array_checks::is_far` meets its contract. Assumes nothing.
use Rattle.array_checks.proofs.Finite.{far_bits}
use Rattle.array_checks.proofs.is_far.Statement.{statement}
use Rattle.array_checks.proofs.is_far.Tie as tie

returns : tie.Need-returns
returns c = far_bits c.args.bits

pub is_far_spec : {M : Type 1} → statement M
is_far_spec = tie.close (tie.spec returns)
