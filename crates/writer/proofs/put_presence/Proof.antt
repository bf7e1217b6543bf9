-- `writer::put_presence` meets its contract: five appends of a byte. Assumes nothing.
use borrow.Author.Rules.{rules}
use Rattle.octets.proofs.Appends.{◌then◌, same_bytes}
use Rattle.writer.proofs.put_presence.Statement.{statement}
use Rattle.writer.proofs.put_presence.Tie as tie

returns : tie.Need-returns
returns c =
    let fifth = c.before.before in
    let fourth = fifth.before.before.before.before.before in
    let third = fourth.before.before.before.before.before in
    let second = third.before.before.before.before.before in
    same_bytes
    (c.put_u8-end.ensures then c.put_u8-end-2.ensures then c.put_u8-end-3.ensures then c.put_u8-end-4.ensures then c.put_u8.ensures)
    (rw (c.mark.ensures, c.mark-2.ensures, c.mark-3.ensures, c.mark-4.ensures, c.mark-5.ensures))

pub put_presence_spec : {M : Type 1} → statement M
put_presence_spec =
    tie.close
    (tie.spec (λ c κs. search rules) (λ c κs. search rules) (λ c κs. search rules) (λ c κs. search rules) (λ c κs. search rules)
    (λ c κs. search rules) (λ c κs. search rules) (λ c κs. search rules) (λ c κs. search rules) (λ c κs. search rules) (λ c. search rules) returns)
