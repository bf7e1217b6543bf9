-- `checks::key_permitted` meets its contract. Assumes nothing.
use borrow.Author.Rules.{rules}
use Rattle.checks.proofs.key_permitted.Statement.{statement}
use Rattle.checks.proofs.key_permitted.Tie as tie

returns : tie.Need-returns
returns c =
    rw (c.u64_at.ensures, c.byte_at-kind.ensures, c.key_at-at.ensures, c.requires.0.groups)

pub key_permitted_spec : {M : Type 1} → statement M
key_permitted_spec = tie.close (tie.spec (λ c κs. search rules) (λ c κs. search rules) (λ c. search rules) (λ c κs. search rules) returns)
