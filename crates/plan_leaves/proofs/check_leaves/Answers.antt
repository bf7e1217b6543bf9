-- One leaf after the other in `plan_leaves::check_leaves`: it is in the set and passes or is refused, or it is not. Assumes nothing.
use mathlib.Core.Path.{sym, ap, ◌∙◌}
use native.Mathlib.Omega.{arith}
use Rattle.base.specs.Refusals.{code_in}
use Rattle.base.proofs.Told.{above_none, code_err}
use Rattle.plan_form.proofs.FormLaws.{planned}
use Rattle.plan_leaves.proofs.Leaves.{leaves_past, leaves_more, leaves_refused, leaves_none}
use Rattle.plan_leaves.proofs.check_leaves.Goals.{then-has+in_default, else-has}
use Rattle.plan_leaves.proofs.check_leaves.Goals as goal

pub leaf_count-leaves-requires : goal.leaf_count-leaves-requires
leaf_count-leaves-requires c = (planned _ c.requires.formed).sizes

pub has-requires : goal.has-requires
has-requires c =
    let f = planned _ c.requires.formed in
    omega arith

pub check_leaf-requires : goal.check_leaf-requires
check_leaf-requires c =
    let f = planned _ c.requires.formed in
    omega (arith, c.requires.room)

pub returns-in-Err : goal.returns-in-Err
returns-in-Err c =
    let f = planned _ c.requires.formed in
    let e = c.in-Err.refusal in
    record {
      says = λ rest.
          c.loop-k.invariant rest
          ∙ leaves_refused _ _ _ _ rest (omega arith) (sym c.has.ensures ∙ c.if-has.true) e (sym (code_err c.in-Err.is) ∙ c.check_leaf.ensures);
      next = (above_none e, omega arith);
    }

pub loop-k-preserved : goal.loop-k-preserved
loop-k-preserved c rest =
    c.loop-k.invariant rest
    ∙ elim c.if-has.branch [
      | then-has+in_default w ↦ leaves_more _ _ _ _ rest (omega arith) (sym c.has.ensures ∙ w.if-has.true) (sym w.check_leaf.ensures ∙ ap code_in w.in_default.is)
      | else-has w ↦ leaves_past _ _ _ _ rest (omega arith) (sym c.has.ensures ∙ w.if-has.false)
    ]

pub returns : goal.returns
returns c =
    let f = planned _ c.requires.formed in
    record { says = λ rest. c.loop-k.invariant rest ∙ leaves_none _ _ _ _ rest (omega arith); next = omega arith }
