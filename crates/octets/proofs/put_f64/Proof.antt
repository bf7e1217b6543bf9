-- `octets::put_f64` meets its contract: the bytes of the pattern. Assumes nothing.
use borrow.Author.Rules.{rules}
use mathlib.Core.Path.{ap}
use Rattle.octets.specs.Le.{le_bytes}
use Rattle.octets.proofs.Appends.{same_bytes}
use Rattle.octets.proofs.put_f64.Statement.{statement}
use Rattle.octets.proofs.put_f64.Tie as tie

returns : tie.Need-returns
returns c = same_bytes c.put_u64.ensures (ap (le_bytes 8) c.pattern.ensures)

pub put_f64_spec : {M : Type 1} → statement M
put_f64_spec = tie.close (tie.spec (λ c κs. search rules) (λ c κs. search rules) (λ c. search rules) returns)
