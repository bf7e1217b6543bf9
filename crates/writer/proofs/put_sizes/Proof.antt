-- `writer::put_sizes` meets its contract: three appends of one width; a count within its limit fits that width. Assumes nothing.
use native.Mathlib.Omega.{arith}
use borrow.Author.Rules.{rules}
use Rattle.octets.proofs.Appends.{◌then◌}
use Rattle.base.proofs.Forms.{laid}
use Rattle.writer.proofs.Copies.{same_size}
use Rattle.writer.proofs.put_sizes.Statement.{statement}
use Rattle.writer.proofs.put_sizes.Tie as tie

returns : tie.Need-returns
returns c =
    let third = c.before.before in
    let second = third.before.before.before.before in
    same_size (c.put_size-end.ensures then c.put_size-end-2.ensures then c.put_size.ensures) (omega arith)

pub put_sizes_spec : {M : Type 1} → statement M
put_sizes_spec =
    tie.close
    (tie.spec
    (λ c κs. let l = laid c.args.f in search rules)
    (λ c κs. let l = laid c.args.f in search rules)
    (λ c κs. let l = laid c.args.f in search rules)
    (λ c. search rules)
    returns)
