-- `checks::head_fails` meets its contract. Assumes nothing.
use borrow.Author.Rules.{rules}
use Rattle.base.proofs.Passed.{passing}
use Rattle.checks.proofs.head_fails.Statement.{statement}
use Rattle.checks.proofs.head_fails.Tie as tie

returns : tie.Need-returns
returns c =
    rw (c.bytes_permitted.ensures, c.values_permitted.ensures, c.groups_permitted.ensures)

pub head_fails_spec : {M : Type 1} → statement M
head_fails_spec = tie.close (tie.spec (λ c κs. search passing) (λ c κs. search passing) (λ c κs. search passing) (λ c κs. search passing) returns)
