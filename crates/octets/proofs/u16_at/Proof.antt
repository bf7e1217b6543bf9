-- `octets::u16_at` meets its contract: the two bytes, by the definition. Assumes nothing.
use borrow.Author.Rules.{rules}
use native.Mathlib.Omega.{arith}
use Rattle.octets.specs.Le.{le_at}
use Rattle.octets.proofs.u16_at.Statement.{statement}
use Rattle.octets.proofs.u16_at.Tie as tie

returns : tie.Need-returns
unfolding le_at
returns c = omega arith

pub u16_at_spec : {M : Type 1} → statement M
u16_at_spec =
    tie.close
    (tie.spec
    (λ c. search rules)
    (λ c κs. search rules)
    (λ c. search rules)
    (λ c. search rules)
    (λ c κs. search rules)
    (λ c. search rules)
    (λ c. search rules)
    (λ c. omega arith)
    returns)
