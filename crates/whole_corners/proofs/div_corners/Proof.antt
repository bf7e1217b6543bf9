-- `whole_corners::div_corners` meets its contract. Assumes nothing.
use mir.Facts.{to_z-of_z}
use borrow.Author.Rules.{rules}
use Rattle.ends.specs.Ends.{div_corners}
use Rattle.whole_corners.proofs.div_corners.Statement.{statement}
use Rattle.whole_corners.proofs.div_corners.Tie as tie

returns : tie.Need-returns
unfolding div_corners
returns c =
    let f = c.ranges in
    rw (to_z-of_z f.a, to_z-of_z f.c, to_z-of_z f.d, to_z-of_z f.f)
    at (rw (c.checked_div.ensures, c.checked_div-2.ensures, c.checked_div-3.ensures, c.checked_div-4.ensures) at c.corners.ensures)

pub div_corners_spec : {M : Type 1} → statement M
div_corners_spec =
    tie.close
    (tie.spec
    (λ c κs. search rules)
    (λ c κs. search rules)
    (λ c κs. search rules)
    (λ c κs. search rules)
    (λ c κs. search rules)
    returns)
