-- `whole_corners::div_by` meets its contract. Assumes nothing.
use mir.Syntax.{w64}
use mir.Val.{SFits}
use mir.Facts.{to_z-of_z}
use borrow.Author.Rules.{rules}
use Rattle.numbers.proofs.Bits.{above_zero, below_zero}
use Rattle.base.proofs.Ends.{not_whole}
use Rattle.ends.specs.Ends.{div_by}
use Rattle.whole_corners.proofs.div_by.Statement.{statement}
use Rattle.whole_corners.proofs.div_by.Tie as tie

returns : tie.Need-returns-in_default-upper
unfolding div_by
returns c =
    let v = c.args in
    rw (not_whole v.lower c.in_default.in_default-own.keys2, not_whole v.upper c.in_default-upper.in_default-upper-own.keys2)

returns-2 : tie.Need-returns-then-f-lt0
unfolding div_by
returns-2 c =
    let fu : SFits w64 c.in-Whole-upper.f = search rules in
    rw (not_whole c.args.lower c.in_default.in_default-own.keys2, c.in-Whole-upper.is, below_zero fu c.if-f-lt0.true) c.unknown.ensures

returns-3 : tie.Need-returns-in_default
unfolding div_by
returns-3 c =
    let fu : SFits w64 c.in-Whole-upper.f = search rules in
    rw (not_whole c.args.lower c.in_default.in_default-own.keys2, c.in-Whole-upper.is, below_zero fu c.if-f-lt0.false)

returns-4 : tie.Need-returns-then-d-gt0
unfolding div_by
returns-4 c =
    let fl : SFits w64 c.in-Whole.d = search rules in
    rw (c.in-Whole.is, not_whole c.args.upper c.in_default-upper-2.in_default-upper-2-own.keys2, above_zero fl c.if-d-gt0.true) c.unknown-then-d-gt0.ensures

returns-5 : tie.Need-returns-in_default-upper-2
unfolding div_by
returns-5 c =
    let fl : SFits w64 c.in-Whole.d = search rules in
    rw (c.in-Whole.is, not_whole c.args.upper c.in_default-upper-2.in_default-upper-2-own.keys2, above_zero fl c.if-d-gt0.false)

returns-6 : tie.Need-returns
unfolding div_by
returns-6 c =
    let f = c.ranges in
    let fl : SFits w64 c.in-Whole.d = search rules in
    let fu : SFits w64 c.in-Whole-upper-2.f = search rules in
    rw (c.in-Whole.is, c.in-Whole-upper-2.is) (rw (to_z-of_z f.a, to_z-of_z f.c, to_z-of_z fl, to_z-of_z fu) at c.optimize_quotient.ensures)

pub div_by_spec : {M : Type 1} → statement M
div_by_spec =
    tie.close
    (tie.spec
    (λ c. search rules)
    (λ c. search rules)
    returns
    (λ c κs. search rules)
    returns-2
    returns-3
    (λ c. search rules)
    (λ c κs. search rules)
    returns-4
    returns-5
    (λ c κs. search rules)
    returns-6)
