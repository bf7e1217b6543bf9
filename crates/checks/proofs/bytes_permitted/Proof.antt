-- `checks::bytes_permitted` meets its contract. Assumes nothing.
use borrow.Author.Rules.{rules}
use Rattle.checks.proofs.bytes_permitted.Statement.{statement}
use Rattle.checks.proofs.bytes_permitted.Tie as tie

returns : tie.Need-returns
returns c =
    let c₁ = c.before in
    let d = c₁.before.before.before in
    rw (
      c.nature_of.ensures,
      c.byte_in.ensures,
      c.byte_in-2.ensures,
      c.byte_in-3.ensures,
      c.byte_in-4.ensures,
      c.byte_in-5.ensures,
      c.tail_permitted.ensures,
      c.gap_permitted.ensures,
    )

pub bytes_permitted_spec : {M : Type 1} → statement M
bytes_permitted_spec =
    tie.close
    (tie.spec
    (λ c κs. search rules)
    (λ c κs. search rules)
    (λ c κs. search rules)
    (λ c κs. search rules)
    (λ c κs. search rules)
    (λ c κs. search rules)
    (λ c κs. search rules)
    (λ c κs. search rules)
    returns)
