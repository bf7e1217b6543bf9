-- `base::option_i64_in` meets its contract. Assumes nothing.
use mathlib.Core.Path.{ap}
use mathlib.Core.Option.{some}
use mir.Facts.{to_z-of_z}
use mir.Syntax.{w64}
use borrow.Author.Tests.{eq-eqb, ne_eqb}
use borrow.Author.Rules.{rules}
use Rattle.base.specs.Decode.{option_at}
use Rattle.base.proofs.option_i64_in.Statement.{statement}
use Rattle.base.proofs.option_i64_in.Tie as tie

returns : tie.Need-returns-then-byte_in-eq0
unfolding option_at
returns c = rw (← c.byte_in.ensures, eq-eqb c.byte_in.result 0 c.if-byte_in-eq0.true)

returns-2 : tie.Need-returns
unfolding option_at
returns-2 c =
    let back = to_z-of_z {w = w64} {z = c.i64_in.result} (record { sfits = c.i64_in.type_inv }) in
    rw (← c.byte_in.ensures, ne_eqb c.byte_in.result 0 c.if-byte_in-eq0.false, back) (ap some c.i64_in.ensures)

pub option_i64_in_spec : {M : Type 1} → statement M
option_i64_in_spec = tie.close (tie.spec (λ c κs. search rules) returns (λ c κs. search rules) returns-2)
