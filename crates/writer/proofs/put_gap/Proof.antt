-- `writer::put_gap` meets its contract: a form at a time. Assumes nothing.
use borrow.Author.Rules.{rules}
use Rattle.octets.specs.Le.{le_bytes}
use Rattle.writer.proofs.Copies.{nothing}
use Rattle.writer.proofs.put_gap.Statement.{statement}
use Rattle.writer.proofs.put_gap.Tie as tie

returns : tie.Need-returns-in-Narrow
returns c =
    let a = c.args in
    rw c.in-Narrow.is (nothing a.buf.now a.at)

returns-2 : tie.Need-returns-in-Wide
unfolding le_bytes
returns-2 c =
    rw c.in-Wide.is c.put_u16.ensures

pub put_gap_spec : {M : Type 1} → statement M
put_gap_spec =
    tie.close
    (tie.spec
    (λ c. search rules)
    (λ c. search rules)
    (λ c κs. let p = rw c.in-Wide.is at c.requires in search rules)
    returns
    (λ c. search rules)
    returns-2)
