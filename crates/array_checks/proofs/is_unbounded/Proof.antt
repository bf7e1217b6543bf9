-- `array_checks::is_unbounded` meets its contract. Assumes nothing.
use Rattle.std.proofs.Common.{rules}
use Rattle.array_checks.proofs.Marked.{unbounded_is}
use Rattle.array_checks.proofs.is_unbounded.Statement.{statement}
use Rattle.array_checks.proofs.is_unbounded.Tie as tie

returns : tie.Need-returns
returns c =
    let a = c.args in
    rw (c.byte_at.ensures, c.is_far.ensures, c.u64_at.ensures) (unbounded_is a.s.now a.at)

pub is_unbounded_spec : {M : Type 1} → statement M
is_unbounded_spec = tie.close (tie.spec (λ c κs. search rules) (λ c. search rules) (λ c κs. search rules) (λ c κs. search rules) returns)
