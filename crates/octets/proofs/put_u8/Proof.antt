-- `octets::put_u8` meets its contract: one byte. Assumes nothing.
use borrow.Author.Rules.{rules}
use Rattle.octets.proofs.Appends.{one_byte}
use Rattle.octets.proofs.put_u8.Statement.{statement}
use Rattle.octets.proofs.put_u8.Tie as tie

returns : tie.Need-returns
returns c = one_byte c.args.buf.now c.args.at c.args.v (search rules)

pub put_u8_spec : {M : Type 1} → statement M
put_u8_spec = tie.close (tie.spec (λ c. search rules) (λ c. search rules) (λ c. search rules) returns)
