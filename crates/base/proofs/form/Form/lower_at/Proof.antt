-- `base::form::Form::lower_at` meets its contract. Assumes nothing.
use borrow.Author.Rules.{rules}
use Rattle.base.proofs.Forms.{small}
use Rattle.base.proofs.form.Form.lower_at.Statement.{statement}
use Rattle.base.proofs.form.Form.lower_at.Tie as tie

pub lower_at_spec : {M : Type 1} → statement M
lower_at_spec =
    tie.close
    (tie.spec
    (λ c κs. let b = small c.args.self in search rules)
    (λ c. let b = small c.before.args.self in search rules)
    (λ c. let b = small c.before.args.self in search rules)
    (λ c. search rules))
