-- `base::form::Form::called_for` meets its contract. Assumes nothing.
use mathlib.Core.Path.{sym, ◌∙◌}
use native.Mathlib.Omega.{arith}
use borrow.Author.Rules.{rules}
use Rattle.base.proofs.form.Form.called_for.Statement.{statement}
use Rattle.base.proofs.form.Form.called_for.Tie as tie

returns : tie.Need-returns-then-is_range
returns c = rw (sym c.is_range.ensures ∙ c.if-is_range.true) (omega arith)

returns-2 : tie.Need-returns
returns-2 c = rw (sym c.is_range.ensures ∙ c.if-is_range.false) (omega arith)

pub called_for_spec : {M : Type 1} → statement M
called_for_spec =
    tie.close
    (tie.spec
    (λ c κs. search rules)
    (λ c κs. search rules)
    (λ c. search rules)
    (λ c. search rules)
    (λ c. search rules)
    returns
    (λ c κs. search rules)
    (λ c. search rules)
    returns-2)
