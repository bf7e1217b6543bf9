-- `octets::i64_at` meets its contract: what its two callees ensure. Assumes nothing.
use borrow.Author.Rules.{rules}
use mir.Syntax.{w64}
use mir.Facts.{to_z-of_z}
use Rattle.octets.proofs.i64_at.Statement.{statement}
use Rattle.octets.proofs.i64_at.Tie as tie

returns : tie.Need-returns
returns c = cc (to_z-of_z {w = w64} {z = c.signed.result} (record { sfits = c.signed.type_inv }))

pub i64_at_spec : {M : Type 1} → statement M
i64_at_spec = tie.close (tie.spec (λ c κs. search rules) (λ c κs. search rules) returns)
