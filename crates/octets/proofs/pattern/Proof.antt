-- `octets::pattern` meets its contract: only a NaN differs from itself. Assumes nothing.
use borrow.Author.Rules.{rules}
use lib.Ieee.{to_bits}
use Rattle.octets.proofs.Patterns.{equal_no_nan, unequal_nan}
use Rattle.octets.proofs.pattern.Statement.{statement}
use Rattle.octets.proofs.pattern.Tie as tie

float-to-bits-result : tie.Need-float_to_bits-result
float-to-bits-result c = equal_no_nan c.args.x c.if-x.false

returns : tie.Need-returns-then-x
unfolding to_bits
returns c = rw (unequal_nan c.args.x c.if-x.true)

pub pattern_spec : {M : Type 1} → statement M
pattern_spec = tie.close (tie.spec float-to-bits-result returns (λ c. search rules))
