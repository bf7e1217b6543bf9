-- `octets::f64_at` meets its contract: what its two callees ensure. Assumes nothing.
use borrow.Author.Rules.{rules}
use Rattle.octets.proofs.f64_at.Statement.{statement}
use Rattle.octets.proofs.f64_at.Tie as tie

returns : tie.Need-returns
returns c = cc

pub f64_at_spec : {M : Type 1} → statement M
f64_at_spec = tie.close (tie.spec (λ c κs. search rules) (λ c κs. search rules) returns)
