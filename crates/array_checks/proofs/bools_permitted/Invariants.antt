-- Each turn of `array_checks::bools_permitted` tests one value.
use Rattle.base.specs.Form.{form_of}
use Rattle.base.specs.Checks.{holds_from, bool_permitted}
use Rattle.array_checks.proofs.Gathering.{Gathering}
use Rattle.array_checks.proofs.bools_permitted.Given as goal

abbrev pub invariant-loop-i : goal.invariant-loop-i
invariant-loop-i l =
    let permitted = bool_permitted (form_of l.f) l.s in
    Gathering permitted l.t l.i l.bad (holds_from l.t 0 permitted)
