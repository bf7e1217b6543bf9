-- `whole_corners::div_lower` meets its contract. Assumes nothing.
use mir.Facts.{to_z-of_z}
use borrow.Author.Rules.{rules}
use Rattle.numbers.proofs.Bits.{reads}
use Rattle.ends.specs.Ends.{div_lower}
use Rattle.whole_corners.proofs.div_lower.Statement.{statement}
use Rattle.whole_corners.proofs.div_lower.Tie as tie

returns : tie.Need-returns-in_default
unfolding div_lower
returns c =
    let f = c.ranges in
    let first = rw (to_z-of_z f.a, to_z-of_z f.d) at c.checked_div.ensures in
    rw (← first, c.in_default.is)

returns-2 : tie.Need-returns-in_default-checked_div
unfolding div_lower
returns-2 c =
    let f = c.ranges in
    let first = rw (to_z-of_z f.a, to_z-of_z f.d) at c.checked_div.ensures in
    let second = rw (to_z-of_z f.c, to_z-of_z f.d) at c.checked_div-2.ensures in
    rw (← first, c.in-Some.is, ← second, c.in_default-checked_div.is)

returns-3 : tie.Need-returns
unfolding div_lower
returns-3 c =
    let f = c.ranges in
    let first = rw (to_z-of_z f.a, to_z-of_z f.d) at c.checked_div.ensures in
    let second = rw (to_z-of_z f.c, to_z-of_z f.d) at c.checked_div-2.ensures in
    let r = c.lesser in
    rw (← first, c.in-Some.is, ← second, c.in-Some-checked_div.is, reads r.result (search rules), r.ensures, reads c.in-Some.p (search rules), reads c.in-Some-checked_div.q (search rules))

pub div_lower_spec : {M : Type 1} → statement M
div_lower_spec =
    tie.close
    (tie.spec
    (λ c κs. search rules)
    (λ c. search rules)
    (λ c. search rules)
    returns
    (λ c κs. search rules)
    (λ c. search rules)
    (λ c. search rules)
    returns-2
    (λ c κs. search rules)
    returns-3)
