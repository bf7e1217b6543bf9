-- `plan_leaves::sheet_end` meets its contract. Assumes nothing.
use native.Mathlib.Nat.{add-sub_cancel_left}
use Rattle.plan_leaves.proofs.Parts.{ends_capped, ends_called}
use Rattle.plan_leaves.proofs.sheet_end.Goals as goal

pub returns-then-n-gt-SLOT : goal.returns-then-n-gt-SLOT
returns-then-n-gt-SLOT c =
    let call = c.length_called_for-n in
    ends_capped c.args.work.now c.args.k call.result (rw add-sub_cancel_left at call.ensures) c.if-n-gt-SLOT.true

pub returns : goal.returns
returns c =
    let call = c.length_called_for-n in
    ends_called c.args.work.now c.args.k call.result (rw add-sub_cancel_left at call.ensures) c.if-n-gt-SLOT.false
