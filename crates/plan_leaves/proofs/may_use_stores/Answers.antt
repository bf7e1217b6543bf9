-- `plan_leaves::may_use_stores` meets its contract. Assumes nothing.
use mathlib.Core.Path.{ap, ◌∙◌}
use Prim.Native.Nat.{ℕ}
use native.Mathlib.Nat.{add-sub_cancel_left}
use native.Mathlib.Omega.{arith}
use Rattle.base.specs.Form.{narrow}
use Rattle.lending.specs.Code.{holds_categories}
use Rattle.plan_form.specs.Form.{left_of}
use Rattle.calls.specs.Walk.{slot}
use Rattle.plan_leaves.proofs.Parts.{slot_holds}
use Rattle.plan_leaves.proofs.may_use_stores.Goals as goal

pub returns : goal.returns
returns c =
    let s = c.requires in
    let work = c.args.work.now in
    (rw add-sub_cancel_left at c.holds_categories.ensures)
    ∙ ap (λ (j : ℕ). holds_categories narrow (slot narrow j work)) c.left_operand-start.ensures
    ∙ slot_holds work (left_of c.args.plan.now c.args.k) (omega (arith, s.left, s.room))
