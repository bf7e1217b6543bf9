-- `base::u64_in` meets its contract. Assumes nothing.
use borrow.Author.Rules.{rules}
use Rattle.base.proofs.Forms.{laid}
use Rattle.base.proofs.u64_in.Statement.{statement}
use Rattle.base.proofs.u64_in.Tie as tie

returns : tie.Need-returns
returns c = rw (c.u64_at.ensures, c.place.ensures)

pub u64_in_spec : {M : Type 1} → statement M
u64_in_spec = tie.close (tie.spec (λ c κs. search rules) (λ c κs. let l = laid c.before.before.args.f in search rules) returns)
