-- Each turn of `shape::groups::all_same` compares one group.
use Rattle.base.specs.Form.{form_of}
use Rattle.base.specs.Checks.{holds_from}
use Rattle.base.proofs.Holding.{Holding}
use Rattle.shape.specs.Asked.{groups_meet}
use Rattle.shape.proofs.groups.all_same.Given as goal

abbrev pub invariant-loop-i : goal.invariant-loop-i
invariant-loop-i l =
    let meet = groups_meet (form_of l.f) l.g l.left l.right in
    Holding meet l.g l.i (holds_from l.g 0 meet)
