-- `utilities::has` meets its contract. Assumes nothing.
use Rattle.std.proofs.Common.{rules, arith, ◌≡◌, pos, length, take, get_or, to_z, of_z, w64, sym, ap, ◌∙◌}
use Rattle.std.proofs.Math.Seq.{take-length}
use Rattle.std.proofs.lemmas.Int.{to_z-of_z}
use Rattle.numbers.specs.Kind.{eq_z}
use Rattle.numbers.proofs.Choices.{eq_z_yes, eq_z_no}
use Rattle.utilities.specs.Lists.{has}
use Rattle.utilities.proofs.Firsts.{has_here, has_missing}
use Rattle.utilities.proofs.has.Goals as goal

pub loop-y-init : goal.loop-y-init
unfolding has
loop-y-init c = search rules

pub returns-then-y-x : goal.returns-then-y-x
returns-then-y-x c =
    let x = c.args.x in
    let ys = take c.args.n c.args.s.now in
    let y = get_or ys c.loop-y.y-index (pos 0) in
    let same : x ≡ y = search rules in
    sym (rw take-length at (has_here eq_z x ys c.loop-y.y-index (length ys) (pos 0) c.loop-y-test.true (omega arith) (eq_z_yes x y same)))

pub loop-y-preserved : goal.loop-y-preserved
loop-y-preserved c =
    let z = to_z w64 (of_z w64 c.args.x) in
    let ys = take c.args.n c.args.s.now in
    let y = get_or ys c.loop-y.y-index (pos 0) in
    let other = eq_z_no z y (λ e. c.if-y-x.false (ap (of_z w64) (sym e ∙ to_z-of_z _ _ c.ranges.x))) in
    has_missing eq_z z ys c.loop-y.y-index (pos 0) c.loop-y-test.true c.loop-y.invariant other
