-- `rights::call_fails` meets its contract. Assumes nothing.
use mathlib.Core.Path.{sym, ◌∙◌}
use native.Mathlib.Omega.{arith}
use borrow.Author.Tests.{le-leb, lt-leb}
use Rattle.plan_form.specs.Form.{node_count}
use Rattle.plan_form.proofs.FormLaws.{planned}
use Rattle.rights.specs.Reveal.{call_fails}
use Rattle.rights.proofs.call_fails.Goals as goal

pub returns-then-plan_fails : goal.returns-then-plan_fails
unfolding call_fails
returns-then-plan_fails c = rw (sym c.plan_fails.ensures ∙ c.if-plan_fails.true)

pub node_count-requires : goal.node_count-requires
node_count-requires c = (planned _ (sym c.plan_fails.ensures ∙ c.if-plan_fails.false)).sizes

pub returns-then-node_count-wanted : goal.returns-then-node_count-wanted
unfolding call_fails
returns-then-node_count-wanted c =
    let e = c.node_count.ensures in
    rw (sym c.plan_fails.ensures ∙ c.if-plan_fails.false, le-leb (node_count c.args.plan.now) c.args.wanted (omega arith))

pub leaf_count-requires : goal.leaf_count-requires
leaf_count-requires c = (planned _ (sym c.plan_fails.ensures ∙ c.if-plan_fails.false)).sizes

pub overflow_mul-result : goal.overflow_mul-result
overflow_mul-result c =
    let f = planned _ (sym c.plan_fails.ensures ∙ c.if-plan_fails.false) in
    omega arith

pub returns : goal.returns
unfolding call_fails
returns c =
    let e = c.node_count.ensures in
    rw (sym c.plan_fails.ensures ∙ c.if-plan_fails.false, lt-leb (node_count c.args.plan.now) c.args.wanted (omega arith), c.leaf_count.ensures)
