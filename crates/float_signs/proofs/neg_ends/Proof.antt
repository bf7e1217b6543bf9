-- `float_signs::neg_ends` meets its contract. Assumes nothing.
use mathlib.Core.Path.{refl}
use borrow.Author.Rules.{rules}
use Rattle.numbers.specs.Kind.{float}
use Rattle.base.specs.Code.{of_float}
use Rattle.ends.proofs.Answers.{neg_ends_lem}
use Rattle.float_signs.proofs.neg_ends.Statement.{statement}
use Rattle.float_signs.proofs.neg_ends.Tie as tie

returns : tie.Need-returns
returns c = (neg_ends_lem of_float float _ c.neg_end-l.ensures.0 c.neg_end-u.ensures.0 refl, λ n. rw (c.neg_end-l.ensures.1 n.1, c.neg_end-u.ensures.1 n.0))

pub neg_ends_spec : {M : Type 1} → statement M
neg_ends_spec = tie.close (tie.spec (λ c κs. search rules) (λ c κs. search rules) returns)
