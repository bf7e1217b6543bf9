-- `base::form::Form::numbers_length` meets its contract: a form at a time. Assumes nothing.
use native.Mathlib.Omega.{arith}
use borrow.Author.Rules.{rules}
use Rattle.base.proofs.form.Form.numbers_length.Statement.{statement}
use Rattle.base.proofs.form.Form.numbers_length.Tie as tie

returns : tie.Need-returns-in-Narrow
returns c = rw c.in-Narrow.is (omega arith)

returns-2 : tie.Need-returns-in-Wide
returns-2 c = rw c.in-Wide.is (omega arith)

pub numbers_length_spec : {M : Type 1} → statement M
numbers_length_spec = tie.close (tie.spec (λ c. search rules) (λ c. search rules) (λ c. search rules) (λ c. search rules) returns returns-2)
