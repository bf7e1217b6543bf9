-- `orders::positive_code` meets its contract. Assumes nothing.
use borrow.Author.Rules.{rules}
use Rattle.numbers.specs.Result.{first_failing}
use Rattle.orders.proofs.positive_code.Statement.{statement}
use Rattle.orders.proofs.positive_code.Tie as tie

returns : tie.Need-returns-then-not-present
unfolding first_failing
returns c = rw c.if-not-present.true

returns-2 : tie.Need-returns
unfolding first_failing
returns-2 c = rw (c.if-not-present.false, c.first.ensures, c.lowers_positive.ensures)

pub positive_code_spec : {M : Type 1} → statement M
positive_code_spec = tie.close (tie.spec returns (λ c κs. search rules) (λ c κs. search rules) returns-2)
