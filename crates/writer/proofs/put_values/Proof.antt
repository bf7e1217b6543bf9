-- `writer::put_values` meets its contract: five appends of 64 bits. Assumes nothing.
use borrow.Author.Rules.{rules}
use Rattle.octets.proofs.Appends.{◌then◌, same_bytes}
use Rattle.base.specs.Encode.{value_bytes}
use Rattle.writer.proofs.put_values.Statement.{statement}
use Rattle.writer.proofs.put_values.Tie as tie

returns : tie.Need-returns
unfolding value_bytes
returns c =
    let fifth = c.before.before in
    let fourth = fifth.before.before.before.before.before in
    let third = fourth.before.before.before.before.before in
    let second = third.before.before.before.before.before in
    same_bytes
    (c.put_u64-end.ensures then c.put_u64-end-2.ensures then c.put_u64-end-3.ensures then c.put_u64-end-4.ensures then c.put_u64.ensures)
    (rw (c.signed_bits.ensures, c.plain_bits.ensures, c.signed_bits-2.ensures, c.signed_bits-3.ensures, c.plain_bits-2.ensures))

pub put_values_spec : {M : Type 1} → statement M
put_values_spec =
    tie.close
    (tie.spec (λ c κs. search rules) (λ c κs. search rules) (λ c κs. search rules) (λ c κs. search rules) (λ c κs. search rules)
    (λ c κs. search rules) (λ c κs. search rules) (λ c κs. search rules) (λ c κs. search rules) (λ c κs. search rules) (λ c. search rules) returns)
