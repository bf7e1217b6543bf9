-- `plan_leaves::begin` meets its contract. Assumes nothing.
use mathlib.Core.Path.{sym, subst, ◌∙◌}
use native.Mathlib.Omega.{arith}
use borrow.Author.Rules.{rules}
use borrow.Author.Tests.{ltb-true}
use Rattle.sets.specs.Sets.{full_set}
use Rattle.plan_leaves.specs.Code.{LeavesSay}
use Rattle.plan_form.proofs.FormLaws.{planned}
use Rattle.plan_leaves.proofs.Leaves.{walkable, plan_malformed, plan_short, plan_begun, plan_done}
use Rattle.plan_leaves.proofs.begin.Goals as goal

pub returns-then-plan_fails : goal.returns-then-plan_fails
returns-then-plan_fails c = (plan_malformed _ c.args.work.now (sym c.plan_fails.ensures ∙ c.if-plan_fails.true), search rules)

pub returns-then-lacks_slots : goal.returns-then-lacks_slots
returns-then-lacks_slots c =
    (plan_short c.args.plan.now _ (sym c.plan_fails.ensures ∙ c.if-plan_fails.false) (ltb-true _ _ (sym c.lacks_slots.ensures ∙ c.if-lacks_slots.true)), search rules)

pub check_leaves-leaves-requires : goal.check_leaves-leaves-requires
check_leaves-leaves-requires c = walkable _ _ (sym c.plan_fails.ensures ∙ c.if-plan_fails.false) (sym c.lacks_slots.ensures ∙ c.if-lacks_slots.false)

pub returns-in_default : goal.returns-in_default
returns-in_default c =
    let w = walkable _ _ (sym c.plan_fails.ensures ∙ c.if-plan_fails.false) (sym c.lacks_slots.ensures ∙ c.if-lacks_slots.false) in
    plan_begun _ _ w c.check_leaves-leaves.result c.check_leaves-leaves.ensures

pub node_count-requires : goal.node_count-requires
node_count-requires c = (planned _ (sym c.plan_fails.ensures ∙ c.if-plan_fails.false)).sizes

pub returns-then-k-node_count : goal.returns-then-k-node_count
returns-then-k-node_count c =
    let w = walkable _ _ (sym c.plan_fails.ensures ∙ c.if-plan_fails.false) (sym c.lacks_slots.ensures ∙ c.if-lacks_slots.false) in
    let f = planned _ w.formed in
    let e = c.node_count.ensures in
    (plan_done _ _ w (subst (LeavesSay full_set _ _) c.in-Next.is c.check_leaves-leaves.ensures) (c.if-k-node_count.true ∙ e), omega arith)

pub returns : goal.returns
returns c =
    let w = walkable _ _ (sym c.plan_fails.ensures ∙ c.if-plan_fails.false) (sym c.lacks_slots.ensures ∙ c.if-lacks_slots.false) in
    plan_begun _ _ w _ (subst (LeavesSay full_set _ _) c.in-Next.is c.check_leaves-leaves.ensures)
