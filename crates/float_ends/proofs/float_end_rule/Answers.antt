-- `float_ends::float_end_rule` meets its contract. Assumes nothing.
use mathlib.Core.Path.{refl}
use lib.Ieee.{of_bits}
use Rattle.numbers.specs.Kind.{float}
use Rattle.base.specs.Code.{of_float}
use Rattle.ends.specs.Ends.{end_rule}
use Rattle.ends.proofs.Answers.{mod_ends_lem}
use Rattle.float_ends.proofs.float_end_rule.Goals as goal

pub returns-in-Modulo : goal.returns-in-Modulo
unfolding end_rule of_bits
returns-in-Modulo c = rw c.in-Modulo.is (mod_ends_lem of_float float _ _ c.last_end.ensures refl)
