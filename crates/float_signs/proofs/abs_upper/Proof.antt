-- `float_signs::abs_upper` meets its contract. Assumes nothing.
use lib.Ieee.{of_bits}
use borrow.Author.Rules.{rules}
use Rattle.ends.specs.Ends.{abs_upper}
use Rattle.float_signs.proofs.abs_upper.Statement.{statement}
use Rattle.float_signs.proofs.abs_upper.Tie as tie

pub abs_upper_spec : {M : Type 1} → statement M
unfolding abs_upper of_bits
abs_upper_spec =
    tie.close
    (tie.spec
    (λ c κs. search rules)
    (λ c κs. search rules)
    (λ c. (search rules, λ n m. search rules))
    (λ c. (search rules, λ n m. search rules)))
