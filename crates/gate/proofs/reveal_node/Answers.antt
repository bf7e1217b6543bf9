-- `gate::reveal_node` meets its contract. Assumes nothing.
use mathlib.Core.Path.{◌≡◌, subst}
use borrow.Author.Rules.{rules}
use Rattle.base.specs.Form.{narrow}
use Rattle.calls.specs.Walk.{walk}
use Rattle.plan_leaves.specs.Code.{nodes_from, walked, LeavesSay}
use Rattle.plan_leaves.specs.declared.Walked.{Walked}
use Rattle.rights.specs.Code.{Admitted}
use Rattle.gate.proofs.Revealing.{admitted_shown, leaves_shown, steps_shown, sheet_shown, all_clauses}
use Rattle.gate.proofs.reveal_node.Goals as goal

pub returns-in_default : goal.returns-in_default
returns-in_default c =
    let a = c.args in
    all_clauses a.plan.now a.owners.now a.reader a.wanted a.work.now a.out.now (search rules)
    (admitted_shown _ _ a.reader a.wanted _ _ c.admitted-admitted.result _ c.in_default.not-Next c.admitted-admitted.ensures c.walked_reply.ensures)

pub returns-in_default-leaves : goal.returns-in_default-leaves
returns-in_default-leaves c =
    let a = c.args in
    let permitted = subst (Admitted a.plan.now a.owners.now a.reader a.wanted a.work.now) c.in-Next.is c.admitted-admitted.ensures in
    all_clauses a.plan.now a.owners.now a.reader a.wanted a.work.now a.out.now (search rules)
    (leaves_shown _ _ a.reader a.wanted _ _ permitted c.stands_on-nodes.result c.stands_on-nodes.ensures c.check_leaves-leaves.result _
    c.in_default-leaves.not-Next c.check_leaves-leaves.ensures c.walked_reply-in_default-leaves.ensures)

pub returns-in_default-steps : goal.returns-in_default-steps
returns-in_default-steps c =
    let a = c.args in
    let nodes = c.stands_on-nodes.result in
    let permitted = subst (Admitted a.plan.now a.owners.now a.reader a.wanted a.work.now) c.in-Next.is c.admitted-admitted.ensures in
    let says = subst (LeavesSay nodes a.plan.now a.work.now) c.in-Next-leaves.is c.check_leaves-leaves.ensures in
    all_clauses a.plan.now a.owners.now a.reader a.wanted a.work.now a.out.now (search rules)
    (steps_shown _ _ a.reader a.wanted _ _ permitted nodes c.stands_on-nodes.ensures c.in-Next-leaves.k says c.walk_steps-steps.new.work
    c.walk_steps-steps.result _ c.in_default-steps.not-Accepted c.walk_steps-steps.ensures.1 c.walk_steps-steps.ensures.0 c.walked_reply-in_default-steps.ensures)

pub returns : goal.returns
returns c =
    let a = c.args in
    let nodes = c.stands_on-nodes.result in
    let after = c.walk_steps-steps.new.work in
    let permitted = subst (Admitted a.plan.now a.owners.now a.reader a.wanted a.work.now) c.in-Next.is c.admitted-admitted.ensures in
    let says = subst (LeavesSay nodes a.plan.now a.work.now) c.in-Next-leaves.is c.check_leaves-leaves.ensures in
    let took = subst (λ (w : Walked). walked nodes a.plan.now w after ≡ walk narrow a.plan.now (nodes_from nodes a.plan.now c.in-Next-leaves.k) a.work.now)
    c.in-Accepted.is c.walk_steps-steps.ensures.0 in
    all_clauses a.plan.now a.owners.now a.reader a.wanted a.work.now a.out.now (search rules)
    (sheet_shown _ _ a.reader a.wanted _ _ permitted nodes c.stands_on-nodes.ensures c.in-Next-leaves.k says after _ c.show_reply.result _ took c.show_reply.ensures)
