-- `orders::not_one` meets its contract. Assumes nothing.
use borrow.Author.Rules.{rules}
use lib.Ieee.{binary64, of_bits}
use Rattle.shape.proofs.Values.{differs_from_one}
use Rattle.orders.proofs.not_one.Statement.{statement}
use Rattle.orders.proofs.not_one.Tie as tie

returns-2 : tie.Need-returns
returns-2 c =
    rw (c.in-Some.is, c.float_of.ensures) (differs_from_one (of_bits binary64 c.in-Some.bits))

pub not_one_spec : {M : Type 1} → statement M
not_one_spec = tie.close (tie.spec (λ c. search rules) (λ c. search rules) (λ c. search rules) (λ c κs. search rules) returns-2)
