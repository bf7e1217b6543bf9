-- `octets::put_u32` meets its contract: two appends, and the law of halves. Assumes nothing.
use borrow.Author.Rules.{rules}
use Rattle.octets.proofs.Appends.{◌then◌, same_bytes}
use Rattle.octets.proofs.Widths.{halves}
use Rattle.octets.proofs.put_u32.Statement.{statement}
use Rattle.octets.proofs.put_u32.Tie as tie

returns : tie.Need-returns
returns c =
    let second = c.before.before in
    let first = second.before.before.before.before in
    same_bytes (c.put_u16-mid.ensures then c.put_u16.ensures) (halves 2 2 c.args.v)

pub put_u32_spec : {M : Type 1} → statement M
put_u32_spec =
    tie.close
    (tie.spec (λ c. search rules) (λ c κs. search rules) (λ c. search rules) (λ c κs. search rules) (λ c. search rules) returns)
