-- `base::area_size` meets its contract. Assumes nothing.
use borrow.Author.Rules.{rules}
use Rattle.base.proofs.Forms.{laid}
use Rattle.base.proofs.area_size.Statement.{statement}
use Rattle.base.proofs.area_size.Tie as tie

returns : tie.Need-returns
returns c = rw (c.u16_at.ensures, c.place.ensures)

pub area_size_spec : {M : Type 1} → statement M
area_size_spec = tie.close (tie.spec (λ c κs. search rules) (λ c κs. let l = laid c.before.before.args.f in search rules) returns)
