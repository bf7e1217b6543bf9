-- `orders::stack_code` meets its contract: check by check. Assumes nothing.
use borrow.Author.Rules.{rules}
use Rattle.numbers.specs.Result.{first_failing}
use Rattle.orders.proofs.stack_code.Statement.{statement}
use Rattle.orders.proofs.stack_code.Tie as tie

returns : tie.Need-returns
unfolding first_failing
returns c =
    rw (c.first-3.ensures, c.first-2.ensures, c.first.ensures)
    (rw (c.columns_unequal-columns.ensures, c.columns_absent-2.ensures, c.columns_absent.ensures))

pub stack_code_spec : {M : Type 1} → statement M
stack_code_spec =
    tie.close
    (tie.spec
    (λ c κs. search rules)
    (λ c κs. search rules)
    (λ c κs. search rules)
    (λ c κs. search rules)
    (λ c κs. search rules)
    (λ c κs. search rules)
    returns)
