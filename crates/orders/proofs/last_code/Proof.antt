-- `orders::last_code` meets its contract. Assumes nothing.
use borrow.Author.Rules.{rules}
use Rattle.orders.proofs.Orders.{last_is}
use Rattle.orders.proofs.last_code.Statement.{statement}
use Rattle.orders.proofs.last_code.Tie as tie

returns : tie.Need-returns
returns c =
    rw (c.first.ensures, c.groups_clash.ensures) (last_is c.requires.0 c.requires.1)

pub last_code_spec : {M : Type 1} → statement M
last_code_spec = tie.close (tie.spec (λ c κs. (c.requires.0.passed, c.requires.1.passed)) (λ c κs. search rules) returns)
