-- `base::form::Form::upper_at` meets its contract. Assumes nothing.
use borrow.Author.Rules.{rules}
use Rattle.base.proofs.Forms.{small}
use Rattle.base.proofs.form.Form.upper_at.Statement.{statement}
use Rattle.base.proofs.form.Form.upper_at.Tie as tie

pub upper_at_spec : {M : Type 1} → statement M
upper_at_spec =
    tie.close
    (tie.spec
    (λ c κs. let b = small c.args.self in search rules)
    (λ c. let b = small c.before.args.self in search rules)
    (λ c. let b = small c.before.args.self in search rules)
    (λ c. let b = small c.before.args.self in search rules)
    (λ c. let b = small c.before.args.self in search rules)
    (λ c. search rules))
