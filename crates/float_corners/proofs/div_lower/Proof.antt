-- `float_corners::div_lower` meets its contract. Assumes nothing.
use borrow.Author.Rules.{rules}
use Rattle.ends.specs.Ends.{div_lower}
use Rattle.float_corners.proofs.div_lower.Statement.{statement}
use Rattle.float_corners.proofs.div_lower.Tie as tie

pub div_lower_spec : {M : Type 1} → statement M
unfolding div_lower
div_lower_spec =
    tie.close
    (tie.spec
    (λ c κs. search rules)
    (λ c. rw c.lesser.ensures))
