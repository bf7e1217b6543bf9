-- `octets::u32_at` meets its contract: the law of two halves. Assumes nothing.
use borrow.Author.Rules.{rules}
use native.Mathlib.Omega.{arith}
use Rattle.octets.proofs.Widths.{le_at_add}
use Rattle.octets.proofs.u32_at.Statement.{statement}
use Rattle.octets.proofs.u32_at.Tie as tie

returns : tie.Need-returns
returns c =
    let a = c.args in
    omega (arith, le_at_add 2 2 a.at a.s.now)

pub u32_at_spec : {M : Type 1} → statement M
u32_at_spec =
    tie.close
    (tie.spec
    (λ c κs. search rules)
    (λ c. search rules)
    (λ c κs. search rules)
    (λ c. search rules)
    (λ c. search rules)
    (λ c. search rules)
    (λ c. search rules)
    returns)
