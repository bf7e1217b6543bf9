-- `float_corners::optimize_quotient` meets its contract. Assumes nothing.
use lib.Ieee.{of_bits}
use borrow.Author.Rules.{rules}
use Rattle.ends.specs.Ends.{div_present}
use Rattle.float_corners.proofs.optimize_quotient.Statement.{statement}
use Rattle.float_corners.proofs.optimize_quotient.Tie as tie

returns-3 : tie.Need-returns-then-f-2
unfolding div_present of_bits
returns-3 c =
    rw (c.if-d.false, c.if-f.false, c.if-d-2.true, c.if-f-2.true) c.unknown.ensures

returns-4 : tie.Need-returns-then-d-2
unfolding div_present of_bits
returns-4 c =
    rw (c.if-d.false, c.if-f.false, c.if-d-2.true, c.if-f-2.false) c.div_upper.ensures

returns-5 : tie.Need-returns-then-f-3
unfolding div_present of_bits
returns-5 c =
    rw (c.if-d.false, c.if-f.false, c.if-d-2.false, c.if-f-3.true) c.div_lower.ensures

returns-6 : tie.Need-returns
unfolding div_present of_bits
returns-6 c =
    rw (c.if-d.false, c.if-f.false, c.if-d-2.false, c.if-f-3.false) c.unknown-2.ensures

pub optimize_quotient_spec : {M : Type 1} → statement M
unfolding div_present of_bits
optimize_quotient_spec =
    tie.close
    (tie.spec
    (λ c κs. search rules)
    (λ c. rw c.if-d.true c.div_corners.ensures)
    (λ c κs. search rules)
    (λ c. rw (c.if-d.false, c.if-f.true) c.div_corners-then-f.ensures)
    (λ c κs. search rules)
    returns-3
    (λ c κs. search rules)
    returns-4
    (λ c κs. search rules)
    returns-5
    (λ c κs. search rules)
    returns-6)
