-- `octets::put_i64` meets its contract: the bytes of the complement. Assumes nothing.
use borrow.Author.Rules.{rules}
use mathlib.Core.Path.{ap, ◌∙◌}
use mir.Syntax.{w64}
use mir.Val.{of_z}
use mir.Facts.{to_z-of_z}
use Rattle.octets.specs.Le.{le_bytes}
use Rattle.octets.proofs.Appends.{same_bytes}
use Rattle.octets.proofs.put_i64.Statement.{statement}
use Rattle.octets.proofs.put_i64.Tie as tie

returns : tie.Need-returns
returns c =
    let call = c.before.before in
    let back = to_z-of_z {w = w64} {z = c.args.v} c.ranges.v in
    same_bytes c.put_u64.ensures (ap (le_bytes 8) (c.complement.ensures ∙ ap (of_z w64) back))

pub put_i64_spec : {M : Type 1} → statement M
put_i64_spec = tie.close (tie.spec (λ c κs. search rules) (λ c κs. search rules) (λ c. search rules) returns)
