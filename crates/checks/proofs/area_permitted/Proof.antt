-- `checks::area_permitted` meets its contract. Assumes nothing.
use native.Mathlib.Omega.{arith}
use borrow.Author.Rules.{rules}
use Rattle.base.proofs.Forms.{laid}
use Rattle.checks.proofs.area_permitted.Statement.{statement}
use Rattle.checks.proofs.area_permitted.Tie as tie

returns : tie.Need-returns
returns c = rw (c.byte_in.ensures, c.later_permitted.ensures, c.texts_permitted.ensures)

pub area_permitted_spec : {M : Type 1} → statement M
area_permitted_spec =
    tie.close
    (tie.spec
    (λ c κs. let r = c.requires.room in search rules)
    (λ c κs. let r = c.requires.room in search rules)
    (λ c κs. search rules)
    returns)
