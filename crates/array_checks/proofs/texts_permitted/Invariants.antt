-- Each turn of `array_checks::texts_permitted` tests one text.
use Rattle.base.specs.Form.{form_of}
use Rattle.base.specs.Checks.{end_to_end}
use Rattle.array_checks.proofs.Running.{Running}
use Rattle.array_checks.proofs.texts_permitted.Given as goal

abbrev pub invariant-loop-i : goal.invariant-loop-i
invariant-loop-i l = Running (form_of l.f) l.s l.t l.i l.at l.bad (end_to_end (form_of l.f) l.s l.t 0 0)
