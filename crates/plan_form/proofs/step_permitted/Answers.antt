-- `plan_form::step_permitted` meets its contract. Assumes nothing.
use mathlib.Core.Path.{sym, ap, ◌∙◌}
use Rattle.base.specs.Components.{is_unary}
use Rattle.plan_form.proofs.FormLaws.{permitted_unlisted, permitted_is}
use Rattle.plan_form.proofs.step_permitted.Goals as goal

pub returns-in_default : goal.returns-in_default
returns-in_default c = permitted_unlisted c.args.plan.now c.args.k c.component_number.ensures (sym c.from_number-numbered.ensures ∙ c.in_default.is)

pub returns : goal.returns
returns c =
    permitted_is c.args.plan.now c.args.k c.component_number.ensures (sym c.from_number-numbered.ensures ∙ c.in-Some.is)
    c.left_operand-left.ensures c.right_operand-right.ensures (c.is_unary.ensures ∙ ap is_unary c.family.ensures)
