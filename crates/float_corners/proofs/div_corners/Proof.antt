-- `float_corners::div_corners` meets its contract. Assumes nothing.
use borrow.Author.Rules.{rules}
use Rattle.ends.specs.Ends.{div_corners}
use Rattle.float_corners.proofs.div_corners.Statement.{statement}
use Rattle.float_corners.proofs.div_corners.Tie as tie

pub div_corners_spec : {M : Type 1} → statement M
unfolding div_corners
div_corners_spec =
    tie.close
    (tie.spec
    (λ c κs. search rules)
    (λ c. c.corners.ensures))
