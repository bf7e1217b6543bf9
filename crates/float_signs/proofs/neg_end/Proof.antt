-- `float_signs::neg_end` meets its contract. Assumes nothing.
use mathlib.Core.Path.{refl, ap}
use mathlib.Core.Option.{some}
use borrow.Author.Rules.{rules}
use Rattle.base.proofs.Ends.{not_float}
use Rattle.ends.specs.Ends.{from_one}
use Rattle.float_signs.proofs.neg_end.Statement.{statement}
use Rattle.float_signs.proofs.neg_end.Tie as tie

returns : tie.Need-returns-in_default
unfolding from_one
returns c = rw (not_float c.args.x c.in_default.in_default-own.keys2) (refl, λ n. refl)

returns-2 : tie.Need-returns
unfolding from_one
returns-2 c = rw c.in-Float.is (rw c.negate.ensures.0, λ n. ap some (c.negate.ensures.1 n))

pub neg_end_spec : {M : Type 1} → statement M
neg_end_spec =
    tie.close
    (tie.spec
    (λ c. search rules)
    returns
    (λ c κs. search rules)
    returns-2)
