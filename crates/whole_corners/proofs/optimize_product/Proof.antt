-- `whole_corners::optimize_product` meets its contract. Assumes nothing.
use mir.Facts.{to_z-of_z}
use borrow.Author.Rules.{rules}
use Rattle.ends.specs.Ends.{mul_corners}
use Rattle.whole_corners.proofs.optimize_product.Statement.{statement}
use Rattle.whole_corners.proofs.optimize_product.Tie as tie

returns : tie.Need-returns
unfolding mul_corners
returns c =
    let f = c.ranges in
    rw (to_z-of_z f.a, to_z-of_z f.c, to_z-of_z f.d, to_z-of_z f.f)
    at (rw (c.checked_mul.ensures, c.checked_mul-2.ensures, c.checked_mul-3.ensures, c.checked_mul-4.ensures) at c.corners.ensures)

pub optimize_product_spec : {M : Type 1} → statement M
optimize_product_spec =
    tie.close
    (tie.spec
    (λ c κs. search rules)
    (λ c κs. search rules)
    (λ c κs. search rules)
    (λ c κs. search rules)
    (λ c κs. search rules)
    returns)
