-- `orders::groups_clash` meets its contract. Assumes nothing.
use borrow.Author.Rules.{rules}
use Rattle.orders.proofs.groups_clash.Statement.{statement}
use Rattle.orders.proofs.groups_clash.Tie as tie

returns : tie.Need-returns-then-both_private
returns c = rw (← c.both_private.ensures, c.if-both_private.true, c.same_groups.ensures)

returns-2 : tie.Need-returns
returns-2 c = rw (← c.both_private.ensures, c.if-both_private.false)

pub groups_clash_spec : {M : Type 1} → statement M
groups_clash_spec = tie.close (tie.spec (λ c κs. search rules) (λ c κs. search rules) returns returns-2)
