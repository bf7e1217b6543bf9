-- `octets::put_u16` meets its contract: two appends of a byte. Assumes nothing.
use borrow.Author.Rules.{rules}
use Rattle.octets.proofs.Appends.{◌then◌, same_bytes}
use Rattle.octets.proofs.Widths.{two_bytes}
use Rattle.octets.proofs.put_u16.Statement.{statement}
use Rattle.octets.proofs.put_u16.Tie as tie

returns : tie.Need-returns
returns c =
    let second = c.before.before in
    let first = second.before.before.before.before in
    same_bytes (c.put_u8-mid.ensures then c.put_u8.ensures) (two_bytes c.args.v c.ranges.v.fits)

pub put_u16_spec : {M : Type 1} → statement M
put_u16_spec =
    tie.close
    (tie.spec (λ c. search rules) (λ c κs. search rules) (λ c. search rules) (λ c κs. search rules) (λ c. search rules) returns)
