-- `writer::put_front` meets its contract: the appends of its parts, none of which looks at the form. Assumes nothing.
use mir.Facts.{to_z-of_z}
use mir.Syntax.{w64}
use native.Mathlib.Omega.{arith}
use borrow.Author.Rules.{rules}
use Rattle.octets.proofs.Appends.{◌then◌, same_bytes}
use Rattle.base.proofs.Forms.{laid}
use Rattle.writer.proofs.Copies.{same_size}
use Rattle.writer.proofs.put_front.Statement.{statement}
use Rattle.writer.proofs.put_front.Tie as tie

returns : tie.Need-returns
returns c =
    let gap = c.before.before in
    let last = gap.before.before.before.before in
    let values = last.before.before.before.before in
    let marks = values.before.before.before.before in
    let sizes = marks.before.before.before.before in
    let l = laid c.args.f in
    let back = to_z-of_z {w = w64} {z = c.args.node} c.ranges.node in
    let put = c.put_sizes-end.ensures then c.put_marks-end.ensures then c.put_values-end.ensures then c.put_i64-end.ensures then c.put_gap.ensures in
    same_bytes (same_size put (omega arith)) (rw back)

pub put_front_spec : {M : Type 1} → statement M
put_front_spec =
    tie.close
    (tie.spec
    (λ c κs. let l = laid c.args.f in search rules)
    (λ c κs. let l = laid c.args.f in search rules)
    (λ c κs. let l = laid c.args.f in search rules)
    (λ c κs. let l = laid c.args.f in search rules)
    (λ c κs. let l = laid c.args.f in search rules)
    (λ c. search rules)
    returns)
