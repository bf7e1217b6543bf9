-- One node after the other in `plan::take_steps`: it is in the set and its step is taken or refused, or it is not. Assumes nothing.
use mathlib.Core.Path.{sym, ap, ◌∙◌}
use Prim.Native.Nat.{ℕ}
use native.Mathlib.Omega.{arith}
use borrow.Author.Rules.{rules}
use Rattle.base.specs.Refusals.{code_in}
use Rattle.base.proofs.Told.{above_none}
use Rattle.calls.specs.Single.{outcome}
use Rattle.plan_form.proofs.FormLaws.{planned}
use Rattle.plan_leaves.proofs.Leaves.{walk_none}
use Rattle.plan.proofs.Taken.{steppable, walk_past, walk_more, walk_refused}
use Rattle.plan.proofs.take_steps.Goals.{then-has+else-not-lent+in_default, else-has}
use Rattle.plan.proofs.take_steps.Goals as goal

pub node_count-count-requires : goal.node_count-count-requires
node_count-count-requires c = (planned _ c.requires.walkable.0.formed).sizes

pub has-requires : goal.has-requires
has-requires c =
    let f = planned _ c.requires.walkable.0.formed in
    omega arith

pub may_use_stores-requires : goal.may_use_stores-requires
may_use_stores-requires c = steppable _ c.requires.walkable.0 c.loop-k.auto.work (omega arith) (omega arith)

pub step_on-requires-clause-steppable : goal.step_on-requires-clause-steppable
step_on-requires-clause-steppable c = (steppable _ c.requires.walkable.0 c.loop-k.auto.work (omega arith) (omega arith), search rules)

pub returns-in-Err : goal.returns-in-Err
returns-in-Err c =
    let f = planned _ c.requires.walkable.0.formed in
    let e = c.in-Err.refusal in (
      sym (c.loop-k.invariant ∙ walk_refused _ _ _ _ _ (omega arith) (sym c.has.ensures ∙ c.if-has.true) c.step_on.result _ c.step_on.ensures e c.in-Err.is),
      (above_none e, omega arith),
    )

pub loop-k-preserved : goal.loop-k-preserved
loop-k-preserved c =
    c.loop-k.invariant
    ∙ elim c.if-has.branch [
      | then-has+else-not-lent+in_default w ↦ rw w.work-is
          (walk_more _ _ _ _ _ (omega arith) (sym c.has.ensures ∙ w.if-has.true) w.step_on.result _ w.step_on.ensures (ap code_in w.in_default.is))
      | else-has w ↦ rw w.work-is (walk_past _ _ _ _ _ (omega arith) (sym c.has.ensures ∙ w.if-has.false))
    ]

pub returns : goal.returns
returns c =
    let f = planned _ c.requires.walkable.0.formed in
    (ap (λ (n : ℕ). outcome 0 n c.loop-k.work) c.node_count-count.ensures ∙ sym (c.loop-k.invariant ∙ walk_none _ _ _ _ _ (omega arith)), omega arith)
