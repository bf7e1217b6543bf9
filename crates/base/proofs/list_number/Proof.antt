-- `base::list_number` meets its contract: a form at a time. Assumes nothing.
use borrow.Author.Rules.{rules}
use Rattle.base.proofs.Forms.{small}
use Rattle.base.proofs.Numbers.{one_byte_at}
use Rattle.base.proofs.list_number.Statement.{statement}
use Rattle.base.proofs.list_number.Tie as tie

returns : tie.Need-returns-in-Narrow
returns c =
    rw (c.wide.ensures.0, c.byte_at.ensures, c.entries_at-start.ensures.0, c.in-Narrow.is, one_byte_at)

returns-2 : tie.Need-returns-in-Wide
returns-2 c =
    rw (c.u16_at.ensures, c.entries_at-start.ensures.0, c.in-Wide.is)

pub list_number_spec : {M : Type 1} → statement M
list_number_spec =
    tie.close
    (tie.spec
    (λ c κs. let l = small c.before.args.f in search rules)
    (λ c. search rules)
    (λ c. search rules)
    (λ c. search rules)
    (λ c κs. search rules)
    (λ c κs. search rules)
    (λ c. search rules)
    (λ c. search rules)
    (λ c. search rules)
    (λ c κs. search rules)
    returns
    returns-2)
