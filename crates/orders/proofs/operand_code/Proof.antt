-- `orders::operand_code` meets its contract. Assumes nothing.
use borrow.Author.Rules.{rules}
use Rattle.numbers.specs.Result.{first_failing}
use Rattle.orders.proofs.operand_code.Statement.{statement}
use Rattle.orders.proofs.operand_code.Tie as tie

returns : tie.Need-returns
unfolding first_failing
returns c = rw (c.first-2.ensures, c.first.ensures, c.sampled.ensures, c.aggregated.ensures)

pub operand_code_spec : {M : Type 1} → statement M
operand_code_spec = tie.close (tie.spec (λ c κs. search rules) (λ c κs. search rules) (λ c κs. search rules) (λ c κs. search rules) returns)
