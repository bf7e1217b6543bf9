-- `float_signs::abs_lower` meets its contract. Assumes nothing.
use lib.Ieee.{of_bits}
use borrow.Author.Rules.{rules}
use Rattle.ends.specs.Ends.{abs_lower}
use Rattle.float_signs.proofs.abs_lower.Statement.{statement}
use Rattle.float_signs.proofs.abs_lower.Tie as tie

pub abs_lower_spec : {M : Type 1} → statement M
unfolding abs_lower of_bits
abs_lower_spec =
    tie.close
    (tie.spec
    (λ c κs. search rules)
    (λ c κs. search rules)
    (λ c. rw c.if-a.true (rw c.copy.ensures.0, λ n m. c.copy.ensures.1 n))
    (λ c. rw c.if-a.false (rw c.negate.ensures.0, λ n m. c.negate.ensures.1 m)))
