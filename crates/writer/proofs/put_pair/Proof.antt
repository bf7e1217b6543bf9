-- `writer::put_pair` meets its contract. Assumes nothing.
use mir.Syntax.{w64}
use mir.Facts.{to_z-of_z}
use native.Mathlib.Omega.{arith}
use borrow.Author.Rules.{rules}
use Rattle.writer.proofs.put_pair.Statement.{statement}
use Rattle.writer.proofs.put_pair.Tie as tie

returns : tie.Need-returns-then-switch
returns c =
    let put = c.before.before in
    let back = to_z-of_z {w = w64} {z = c.args.node} c.ranges.node in
    let next = c.put_sheet.ensures.next in
    let fits = c.requires.1.sheet_fits in
    (omega arith, rw c.if-switch.true (rw back at c.put_sheet.ensures.front))

returns-2 : tie.Need-returns
returns-2 c =
    let put = c.before.before in
    let back = to_z-of_z {w = w64} {z = c.args.node} c.ranges.node in
    let next = c.put_sheet-2.ensures.next in
    let fits = c.requires.0.sheet_fits in
    (omega arith, rw c.if-switch.false (rw back at c.put_sheet-2.ensures.front))

pub put_pair_spec : {M : Type 1} → statement M
put_pair_spec =
    tie.close
    (tie.spec (λ c κs. search rules) (λ c. search rules) returns (λ c κs. search rules) (λ c. search rules) returns-2)
