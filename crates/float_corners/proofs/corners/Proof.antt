-- `float_corners::corners` meets its contract. Assumes nothing.
use borrow.Author.Rules.{rules}
use Rattle.ends.specs.Ends.{corners}
use Rattle.float_corners.proofs.corners.Statement.{statement}
use Rattle.float_corners.proofs.corners.Tie as tie

pub corners_spec : {M : Type 1} → statement M
unfolding corners
corners_spec =
    tie.close
    (tie.spec
    (λ c κs. search rules)
    (λ c κs. search rules)
    (λ c. rw (c.least.ensures, c.greatest.ensures)))
