-- `base::option_u64_in` meets its contract. Assumes nothing.
use mathlib.Core.Path.{ap}
use mathlib.Core.Option.{some}
use borrow.Author.Tests.{eq-eqb, ne_eqb}
use borrow.Author.Rules.{rules}
use Rattle.base.specs.Decode.{option_at}
use Rattle.base.proofs.option_u64_in.Statement.{statement}
use Rattle.base.proofs.option_u64_in.Tie as tie

returns : tie.Need-returns-then-byte_in-eq0
unfolding option_at
returns c = rw (← c.byte_in.ensures, eq-eqb c.byte_in.result 0 c.if-byte_in-eq0.true)

returns-2 : tie.Need-returns
unfolding option_at
returns-2 c =
    rw (← c.byte_in.ensures, ne_eqb c.byte_in.result 0 c.if-byte_in-eq0.false) (ap some c.u64_in.ensures)

pub option_u64_in_spec : {M : Type 1} → statement M
option_u64_in_spec = tie.close (tie.spec (λ c κs. search rules) returns (λ c κs. search rules) returns-2)
