-- `writer::put_size` meets its contract: a form at a time. Assumes nothing.
use borrow.Author.Rules.{rules}
use Rattle.writer.proofs.put_size.Statement.{statement}
use Rattle.writer.proofs.put_size.Tie as tie

returns : tie.Need-returns-in-Narrow
returns c =
    rw c.in-Narrow.is c.put_u16.ensures

returns-2 : tie.Need-returns-in-Wide
returns-2 c =
    rw c.in-Wide.is c.put_u32.ensures

pub put_size_spec : {M : Type 1} → statement M
put_size_spec =
    tie.close
    (tie.spec
    (λ c. search rules)
    (λ c. let p = rw c.in-Narrow.is at c.requires in search rules)
    (λ c κs. let p = rw c.in-Narrow.is at c.requires in search rules)
    (λ c. search rules)
    (λ c. let p = rw c.in-Wide.is at c.requires in search rules)
    (λ c κs. let p = rw c.in-Wide.is at c.requires in search rules)
    (λ c. search rules)
    returns
    (λ c. search rules)
    returns-2)
