-- `category_lists::gather` meets its contract. Assumes nothing.
use native.Mathlib.Omega.{arith}
use borrow.Author.Rules.{rules}
use borrow.Author.Tests.{lt-ltb, le-ltb}
use Rattle.base.specs.Form.{form_of}
use Rattle.base.proofs.Forms.{small}
use Rattle.category_lists.specs.Answers.{gathered}
use Rattle.category_lists.proofs.gather.Statement.{statement}
use Rattle.category_lists.proofs.gather.Tie as tie

returns : tie.Need-returns-then-category_limit-t
unfolding gathered
returns c =
    let a = c.args in
    rw (lt-ltb (form_of a.f).category_limit a.t (omega arith))

returns-2 : tie.Need-returns
unfolding gathered
returns-2 c =
    let a = c.args in
    let F = form_of a.f in
    rw (le-ltb F.category_limit a.t (omega arith), c.numbers_length.ensures.0)

pub gather_spec : {M : Type 1} → statement M
gather_spec =
    tie.close
    (tie.spec
    (λ c κs. search rules)
    returns
    (λ c κs. let s = small c.args.f in search rules)
    (λ c. let s = small c.args.f in search rules)
    returns-2)
