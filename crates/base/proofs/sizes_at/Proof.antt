-- `base::sizes_at` meets its contract: three sizes, whose places lie before the fields. Assumes nothing.
use borrow.Author.Rules.{rules}
use Rattle.base.proofs.Forms.{laid}
use Rattle.base.proofs.sizes_at.Statement.{statement}
use Rattle.base.proofs.sizes_at.Tie as tie

returns : tie.Need-returns
returns c =
    let w = c.size_width-w.ensures.0 in
    record {
      groups = c.size_at.ensures;
      lists = rw w at c.size_at-2.ensures;
      categories = rw w at c.size_at-3.ensures;
    }

pub sizes_at_spec : {M : Type 1} → statement M
sizes_at_spec =
    tie.close
    (tie.spec
    (λ c κs. search rules)
    (λ c κs. let l = laid c.before.before.args.f in search rules)
    (λ c κs. let l = laid c.before.before.before.args.f in search rules)
    (λ c. search rules)
    (λ c κs. let l = laid c.before.before.before.before.args.f in search rules)
    returns)
