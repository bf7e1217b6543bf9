-- `float_signs::abs_ends` meets its contract. Assumes nothing.
use mathlib.Core.Path.{sym, ap, subst, ◌∙◌}
use Rattle.base.specs.Code.{stated, float_end}
use Rattle.ends.proofs.Signs.{bits_on_lem, NumbersOn, numbers_on}
use Rattle.float_signs.proofs.abs_ends.Goals as goal

pub returns-clause-bits : goal.returns-clause-bits
returns-clause-bits c =
    let pair = c.pair.ensures in
    let told = c.in-Some.is in
    let x = c.args.x in
    λ n. let m = subst NumbersOn (sym pair ∙ ap stated told) (numbers_on (float_end x.lower) (float_end x.upper) n.0 n.1) in rw (bits_on_lem, ← pair, told, c.abs_lower.ensures.bits m.0 m.1, c.abs_upper.ensures.bits m.0 m.1)
