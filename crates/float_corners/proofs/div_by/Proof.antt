-- `float_corners::div_by` meets its contract. Assumes nothing.
use lib.Ieee.{of_bits}
use borrow.Author.Rules.{rules}
use Rattle.base.proofs.Ends.{not_float}
use Rattle.ends.specs.Ends.{div_by}
use Rattle.float_corners.proofs.div_by.Statement.{statement}
use Rattle.float_corners.proofs.div_by.Tie as tie

returns : tie.Need-returns-in_default-upper
unfolding div_by
returns c =
    let v = c.args in
    rw (not_float v.lower c.in_default.in_default-own.keys2, not_float v.upper c.in_default-upper.in_default-upper-own.keys2)

returns-2 : tie.Need-returns-then-f
unfolding div_by of_bits
returns-2 c =
    let v = c.args in
    rw (not_float v.lower c.in_default.in_default-own.keys2, c.in-Float-upper.is, c.if-f.true) c.unknown.ensures

returns-3 : tie.Need-returns-in_default
unfolding div_by of_bits
returns-3 c =
    let v = c.args in
    rw (not_float v.lower c.in_default.in_default-own.keys2, c.in-Float-upper.is, c.if-f.false)

returns-4 : tie.Need-returns-then-d
unfolding div_by of_bits
returns-4 c =
    let v = c.args in
    rw (c.in-Float.is, not_float v.upper c.in_default-upper-2.in_default-upper-2-own.keys2, c.if-d.true) c.unknown-then-d.ensures

returns-5 : tie.Need-returns-in_default-upper-2
unfolding div_by of_bits
returns-5 c =
    let v = c.args in
    rw (c.in-Float.is, not_float v.upper c.in_default-upper-2.in_default-upper-2-own.keys2, c.if-d.false)

pub div_by_spec : {M : Type 1} → statement M
unfolding div_by
div_by_spec =
    tie.close
    (tie.spec
    (λ c. search rules)
    (λ c. search rules)
    returns
    (λ c κs. search rules)
    returns-2
    returns-3
    (λ c. search rules)
    (λ c κs. search rules)
    returns-4
    returns-5
    (λ c κs. search rules)
    (λ c. rw (c.in-Float.is, c.in-Float-upper-2.is) c.optimize_quotient.ensures))
