-- `plan_step::step_on` meets its contract. Assumes nothing.
use mathlib.Core.Path.{sym, ap, ap₂, ◌∙◌}
use Prim.Native.Nat.{ℕ}
use native.Mathlib.Omega.{arith}
use Rattle.base.specs.Form.{narrow}
use Rattle.base.specs.Components.{component_of}
use Rattle.calls.specs.Single.{step, delivery}
use Rattle.calls.specs.Walk.{slot_at, sheet_in}
use Rattle.plan_leaves.proofs.Parts.{part_lent, part_back}
use Rattle.plan_step.proofs.Stepping.{step_unlisted, step_taken, step_lent}
use Rattle.plan_step.proofs.step_on.Goals as goal

pub returns-in_default : goal.returns-in_default
returns-in_default c =
    step_unlisted c.args.plan.now c.args.k c.args.work.now
    (ap component_of (sym c.component_number.ensures) ∙ sym c.from_number-numbered.ensures ∙ c.in_default.is)

pub step-put-requires : goal.step-put-requires
step-put-requires c =
    let left = c.sheet_end-left_end.ensures.bytes ∙ ap (λ (j : ℕ). sheet_in narrow j c.args.work.now) c.left_operand-left.ensures in
    step_lent c.requires.steppable.1 left c.requires.large

-- its own slot begins within the work buffer
pub slice_bounds-deliver_sheet-count : goal.slice_bounds-deliver_sheet-count
slice_bounds-deliver_sheet-count c = omega (arith, c.requires.steppable.0.room)

pub deliver_sheet-requires : goal.deliver_sheet-requires
deliver_sheet-requires c = rw c.step-put.auto.out c.step-put.ensures.1

pub returns : goal.returns
returns c =
    let plan = c.args.plan.now in
    let work = c.args.work.now in
    let k = c.args.k in
    let left = c.sheet_end-left_end.ensures.bytes ∙ ap (λ (j : ℕ). sheet_in narrow j work) c.left_operand-left.ensures in
    let right = c.sheet_end-right_end.ensures.bytes ∙ ap (λ (j : ℕ). sheet_in narrow j work) c.right_operand-right.ensures in
    let listed = ap component_of (sym c.component_number.ensures) ∙ sym c.from_number-numbered.ensures ∙ c.in-Some.is in
    let derived = c.step-put.ensures.0 ∙ ap₂ (step narrow c.in-Some.c k) left right in
    rw (part_back (slot_at narrow k) work)
    (step_taken plan k work listed c.deliver_sheet.result _ (c.deliver_sheet.ensures.0 ∙ ap₂ delivery derived (part_lent (slot_at narrow k) work)))
