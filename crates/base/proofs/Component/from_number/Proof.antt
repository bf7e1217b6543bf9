-- `base::Component::from_number` meets its contract. Assumes nothing.
use borrow.Author.Rules.{rules}
use borrow.Author.Tests.{ne_eqb}
use Rattle.base.specs.Components.{component_of}
use Rattle.base.proofs.Component.from_number.Statement.{statement}
use Rattle.base.proofs.Component.from_number.Tie as tie

unlisted : tie.Need-returns-in_default
unfolding component_of
unlisted c =
    let n = c.args.n in
    let r = c.in_default.in_default-own.rest in
    simp (
      ne_eqb n 1 r.0.0.0.0.0.0.0.0.0.1,
      ne_eqb n 2 r.0.0.0.0.0.0.0.0.1,
      ne_eqb n 3 r.0.0.0.0.0.0.0.1,
      ne_eqb n 4 r.0.0.0.0.0.0.1,
      ne_eqb n 5 r.0.0.0.0.0.1,
      ne_eqb n 6 r.0.0.0.0.1,
      ne_eqb n 7 r.0.0.0.1,
      ne_eqb n 8 r.0.0.1,
      ne_eqb n 9 r.0.1,
      ne_eqb n 10 r.1,
    )

pub from_number_spec : {M : Type 1} → statement M
unfolding component_of
from_number_spec =
    tie.close
    (tie.spec
    (λ c. search rules)
    (λ c. search rules)
    (λ c. search rules)
    (λ c. search rules)
    (λ c. search rules)
    (λ c. search rules)
    (λ c. search rules)
    (λ c. search rules)
    (λ c. search rules)
    (λ c. search rules)
    unlisted)
