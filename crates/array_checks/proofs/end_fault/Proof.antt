-- `array_checks::end_fault` meets its contract. Assumes nothing.
use Rattle.std.proofs.Common.{rules}
use Rattle.array_checks.proofs.end_fault.Statement.{statement}
use Rattle.array_checks.proofs.end_fault.Tie as tie

returns : tie.Need-returns
returns c = rw (c.end_word.ensures, c.u64_at.ensures, c.byte_at.ensures)

pub end_fault_spec : {M : Type 1} → statement M
end_fault_spec = tie.close (tie.spec (λ c κs. search rules) (λ c. search rules) (λ c κs. search rules) (λ c κs. search rules) returns)
