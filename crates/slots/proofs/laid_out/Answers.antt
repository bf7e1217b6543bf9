-- What each of the three calls of `put_sheets` lays. Assumes nothing.
use Rattle.std.proofs.Common.{sym, ◌∙◌}
use Rattle.std.proofs.Math.Nat.{zero-add}
use Rattle.slots.proofs.Laid.{laid_out_lem}
use Rattle.slots.proofs.laid_out.Goals as goal

pub returns : goal.returns
returns c =
    let leaves = c.field-leaves.ensures in
    let a = c.in_ok-k.ensures in
    let n-told = a.0 ∙ zero-add _ in
    (rw (sym leaves) n-told, rw (sym leaves) a.1, laid_out_lem c.args.line.now c.args.expected.now leaves c.field.ensures n-told c.in_ok-put_sheets.ensures.1 c.in_ok-put_sheets-2.ensures.1)
