-- `base::u32_in` meets its contract. Assumes nothing.
use borrow.Author.Rules.{rules}
use Rattle.base.proofs.Forms.{laid}
use Rattle.base.proofs.u32_in.Statement.{statement}
use Rattle.base.proofs.u32_in.Tie as tie

returns : tie.Need-returns
returns c = rw (c.u32_at.ensures, c.place.ensures)

pub u32_in_spec : {M : Type 1} → statement M
u32_in_spec = tie.close (tie.spec (λ c κs. search rules) (λ c κs. let l = laid c.before.before.args.f in search rules) returns)
