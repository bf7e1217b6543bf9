-- `checks::columns_permitted` meets its contract. Assumes nothing.
use borrow.Author.Rules.{rules}
use Rattle.checks.proofs.columns_permitted.Statement.{statement}
use Rattle.checks.proofs.columns_permitted.Tie as tie

returns : tie.Need-returns
returns c = rw (c.u64_in-columns.ensures, c.byte_in.ensures, c.column_limit.ensures.0)

pub columns_permitted_spec : {M : Type 1} → statement M
columns_permitted_spec = tie.close (tie.spec (λ c κs. search rules) (λ c κs. search rules) (λ c κs. search rules) returns)
