-- `octets::float_of` meets its contract: the test says which patterns are a NaN's. Assumes nothing.
use borrow.Author.Rules.{rules}
use lib.Ieee.{div, of_bits}
use Rattle.octets.proofs.Patterns.{nan_pattern, no_nan_pattern}
use Rattle.octets.proofs.float_of.Statement.{statement}
use Rattle.octets.proofs.float_of.Tie as tie

float-from-bits-result : tie.Need-float_from_bits-result
float-from-bits-result c = no_nan_pattern c.args.v c.if-v-gt9218868437227405312.false

returns : tie.Need-returns-then-v-gt9218868437227405312
unfolding div of_bits
returns c = nan_pattern c.args.v c.if-v-gt9218868437227405312.true

pub float_of_spec : {M : Type 1} → statement M
float_of_spec = tie.close (tie.spec float-from-bits-result returns (λ c. search rules))
