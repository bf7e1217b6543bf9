-- `orders::sampled` meets its contract. Assumes nothing.
use borrow.Author.Rules.{rules}
use Rattle.orders.proofs.sampled.Statement.{statement}
use Rattle.orders.proofs.sampled.Tie as tie

returns : tie.Need-returns
returns c = rw c.not_one.ensures

pub sampled_spec : {M : Type 1} → statement M
sampled_spec = tie.close (tie.spec (λ c κs. search rules) returns)
