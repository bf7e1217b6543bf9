-- `whole_corners::optimize_quotient` meets its contract. Assumes nothing.
use mir.Facts.{to_z-of_z}
use borrow.Author.Rules.{rules}
use Rattle.numbers.proofs.Bits.{above_zero, below_zero, zero_yes, zero_no}
use Rattle.ends.specs.Ends.{div_present}
use Rattle.whole_corners.proofs.optimize_quotient.Statement.{statement}
use Rattle.whole_corners.proofs.optimize_quotient.Tie as tie

returns : tie.Need-returns-then-d-gt0
unfolding div_present
returns c =
    let f = c.ranges in
    rw (above_zero f.d c.if-d-gt0.true)
    (rw (to_z-of_z f.a, to_z-of_z f.c, to_z-of_z f.d, to_z-of_z f.f) at c.div_corners.ensures)

returns-2 : tie.Need-returns-then-f-lt0
unfolding div_present
returns-2 c =
    let f = c.ranges in
    rw (above_zero f.d c.if-d-gt0.false, below_zero f.f c.if-f-lt0.true)
    (rw (to_z-of_z f.a, to_z-of_z f.c, to_z-of_z f.d, to_z-of_z f.f) at c.div_corners-then-f-lt0.ensures)

returns-3 : tie.Need-returns-then-f-eq0
unfolding div_present
returns-3 c =
    let d = c.before.before in
    let f = c.ranges in
    rw (above_zero f.d c.if-d-gt0.false, below_zero f.f c.if-f-lt0.false, zero_yes f.d c.if-d-eq0.true, zero_yes f.f c.if-f-eq0.true) c.unknown.ensures

returns-4 : tie.Need-returns-then-d-eq0
unfolding div_present
returns-4 c =
    let d = c.before.before in
    let f = c.ranges in
    rw (above_zero f.d c.if-d-gt0.false, below_zero f.f c.if-f-lt0.false, zero_yes f.d c.if-d-eq0.true, zero_no f.f c.if-f-eq0.false)
    (rw (to_z-of_z f.a, to_z-of_z f.c, to_z-of_z f.f) at c.div_upper.ensures)

returns-5 : tie.Need-returns-then-f-eq0-2
unfolding div_present
returns-5 c =
    let d = c.before.before in
    let f = c.ranges in
    rw (above_zero f.d c.if-d-gt0.false, below_zero f.f c.if-f-lt0.false, zero_no f.d c.if-d-eq0.false, zero_yes f.f c.if-f-eq0-2.true)
    (rw (to_z-of_z f.a, to_z-of_z f.c, to_z-of_z f.d) at c.div_lower.ensures)

returns-6 : tie.Need-returns
unfolding div_present
returns-6 c =
    let d = c.before.before in
    let f = c.ranges in
    rw (above_zero f.d c.if-d-gt0.false, below_zero f.f c.if-f-lt0.false, zero_no f.d c.if-d-eq0.false, zero_no f.f c.if-f-eq0-2.false) c.unknown-2.ensures

pub optimize_quotient_spec : {M : Type 1} → statement M
optimize_quotient_spec =
    tie.close
    (tie.spec
    (λ c κs. search rules)
    returns
    (λ c κs. search rules)
    returns-2
    (λ c κs. search rules)
    returns-3
    (λ c κs. search rules)
    returns-4
    (λ c κs. search rules)
    returns-5
    (λ c κs. search rules)
    returns-6)
