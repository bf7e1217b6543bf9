-- `writer::put_marks` meets its contract: the appends of its parts; zeros are the bytes of a zero. Assumes nothing.
use borrow.Author.Rules.{rules}
use Rattle.octets.proofs.Appends.{◌then◌}
use Rattle.octets.specs.Le.{le_bytes}
use Rattle.base.specs.Encode.{mark_bytes}
use Rattle.writer.proofs.put_marks.Statement.{statement}
use Rattle.writer.proofs.put_marks.Tie as tie

returns : tie.Need-returns
unfolding mark_bytes le_bytes
returns c =
    let seventh = c.before.before in
    let sixth = seventh.before.before.before.before in
    let fifth = sixth.before.before.before.before in
    let fourth = fifth.before.before.before.before in
    let third = fourth.before.before.before.before in
    let second = third.before.before.before.before in
    let area = c.put_u8-end.ensures then c.put_u16-end.ensures in
    c.put_flags-end.ensures then c.put_u32-end.ensures then c.put_u32-end-2.ensures then c.put_presence-end.ensures then area then c.put_u32.ensures

pub put_marks_spec : {M : Type 1} → statement M
put_marks_spec =
    tie.close
    (tie.spec
    (λ c κs. search rules)
    (λ c κs. search rules)
    (λ c κs. search rules)
    (λ c κs. search rules)
    (λ c κs. search rules)
    (λ c κs. search rules)
    (λ c κs. search rules)
    (λ c. search rules)
    returns)
