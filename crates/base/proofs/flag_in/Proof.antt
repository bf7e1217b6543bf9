-- `base::flag_in` meets its contract. Assumes nothing.
use borrow.Author.Rules.{rules}
use Rattle.base.proofs.flag_in.Statement.{statement}
use Rattle.base.proofs.flag_in.Tie as tie

returns : tie.Need-returns
returns c = rw c.byte_in.ensures

pub flag_in_spec : {M : Type 1} → statement M
flag_in_spec = tie.close (tie.spec (λ c κs. search rules) returns)
