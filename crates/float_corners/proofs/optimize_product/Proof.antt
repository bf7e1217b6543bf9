-- `float_corners::optimize_product` meets its contract. Assumes nothing.
use borrow.Author.Rules.{rules}
use Rattle.ends.specs.Ends.{mul_corners}
use Rattle.float_corners.proofs.optimize_product.Statement.{statement}
use Rattle.float_corners.proofs.optimize_product.Tie as tie

pub optimize_product_spec : {M : Type 1} → statement M
unfolding mul_corners
optimize_product_spec =
    tie.close
    (tie.spec
    (λ c κs. search rules)
    (λ c. c.corners.ensures))
