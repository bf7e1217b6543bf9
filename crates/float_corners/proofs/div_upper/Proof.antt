-- `float_corners::div_upper` meets its contract. Assumes nothing.
use borrow.Author.Rules.{rules}
use Rattle.ends.specs.Ends.{div_upper}
use Rattle.float_corners.proofs.div_upper.Statement.{statement}
use Rattle.float_corners.proofs.div_upper.Tie as tie

pub div_upper_spec : {M : Type 1} → statement M
unfolding div_upper
div_upper_spec =
    tie.close
    (tie.spec
    (λ c κs. search rules)
    (λ c. rw c.greater.ensures))
