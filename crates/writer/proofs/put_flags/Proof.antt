-- `writer::put_flags` meets its contract: six appends of a byte. Assumes nothing.
use borrow.Author.Rules.{rules}
use Rattle.octets.proofs.Appends.{◌then◌, same_bytes}
use Rattle.writer.proofs.put_flags.Statement.{statement}
use Rattle.writer.proofs.put_flags.Tie as tie

returns : tie.Need-returns
returns c =
    let sixth = c.before.before in
    let fifth = sixth.before.before.before.before.before in
    let fourth = fifth.before.before.before.before.before in
    let third = fourth.before.before.before.before.before in
    let second = third.before.before.before.before.before in
    same_bytes
    (c.put_u8-end.ensures then c.put_u8-end-2.ensures then c.put_u8-end-3.ensures then c.put_u8-end-4.ensures then c.put_u8-end-5.ensures then c.put_u8.ensures)
    (rw (c.flag_byte.ensures, c.flag_byte-2.ensures, c.flag_byte-3.ensures, c.flag_byte-4.ensures))

pub put_flags_spec : {M : Type 1} → statement M
put_flags_spec =
    tie.close
    (tie.spec (λ c κs. search rules) (λ c κs. search rules) (λ c κs. search rules) (λ c κs. search rules) (λ c κs. search rules)
    (λ c κs. search rules) (λ c κs. search rules) (λ c κs. search rules) (λ c κs. search rules) (λ c κs. search rules) (λ c. search rules) returns)
