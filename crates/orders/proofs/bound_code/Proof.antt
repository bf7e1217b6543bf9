-- `orders::bound_code` meets its contract. Assumes nothing.
use mathlib.Core.Path.{ap, ◌∙◌}
use borrow.Author.Rules.{rules}
use Rattle.numbers.specs.Result.{first_failing}
use Rattle.base.specs.Form.{form_of}
use Rattle.base.specs.Sheet.{Fields}
use Rattle.base.specs.Decode.{decode}
use Rattle.orders.specs.Orders.{modulo_checks, power_checks}
use Rattle.orders.specs.Parts.{only}
use Rattle.orders.proofs.bound_code.Statement.{statement}
use Rattle.orders.proofs.bound_code.Tie as tie

modulo : tie.Need-returns-in-Modulo
unfolding decode
modulo c =
    rw c.in-Modulo.is
    (c.modulo_code.ensures ∙ ap (λ (x : Fields). first_failing (modulo_checks (only x) (decode (form_of c.args.f) c.args.right.now))) c.requires.0.head)

log : tie.Need-returns-in-Log
unfolding decode
log c = rw c.in-Log.is c.log_code.ensures

power : tie.Need-returns-in-Power
unfolding decode
power c =
    rw c.in-Power.is
    (c.power_code.ensures ∙ ap (λ (x : Fields). first_failing (power_checks (only x) (decode (form_of c.args.f) c.args.right.now))) c.requires.0.head)

pub bound_code_spec : {M : Type 1} → statement M
unfolding first_failing
bound_code_spec =
    tie.close
    (tie.spec
    (λ c. search rules)
    (λ c. search rules)
    (λ c. search rules)
    (λ c. search rules)
    (λ c. search rules)
    (λ c. search rules)
    (λ c κs. c.requires.1)
    (λ c. search rules)
    (λ c κs. (c.requires.0, c.requires.1.passed))
    (λ c. search rules)
    (λ c κs. c.requires.1)
    (λ c. search rules)
    (λ c. search rules)
    (λ c. rw c.in-Abs.is)
    (λ c. rw c.in-Add.is)
    (λ c. rw c.in-Subtract.is)
    (λ c. rw c.in-Multiply.is)
    (λ c. rw c.in-Divide.is)
    modulo
    log
    power
    (λ c. rw c.in-Negative.is)
    (λ c. rw c.in-Pool.is))
