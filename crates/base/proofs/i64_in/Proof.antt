-- `base::i64_in` meets its contract. Assumes nothing.
use mir.Facts.{to_z-of_z}
use mir.Syntax.{w64}
use borrow.Author.Rules.{rules}
use Rattle.base.proofs.Forms.{laid}
use Rattle.base.proofs.i64_in.Statement.{statement}
use Rattle.base.proofs.i64_in.Tie as tie

returns : tie.Need-returns
returns c =
    let back = to_z-of_z {w = w64} {z = c.i64_at.result} (record { sfits = c.i64_at.type_inv }) in
    rw (back, c.i64_at.ensures, c.place.ensures)

pub i64_in_spec : {M : Type 1} → statement M
i64_in_spec = tie.close (tie.spec (λ c κs. search rules) (λ c κs. let l = laid c.before.before.args.f in search rules) returns)
