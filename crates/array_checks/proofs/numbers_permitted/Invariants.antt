-- Each turn of `array_checks::numbers_permitted` tests one number against the one before it.
use Rattle.std.proofs.Common.{◌≡◌}
use Rattle.base.specs.Form.{form_of}
use Rattle.base.specs.Decode.{list_number}
use Rattle.base.specs.Checks.{holds_from}
use Rattle.array_checks.proofs.Gathering.{Gathering}
use Rattle.array_checks.proofs.Falling.{previous, rises}
use Rattle.array_checks.proofs.numbers_permitted.Given as goal

abbrev pub invariant-loop-i : goal.invariant-loop-i
invariant-loop-i l =
    let number = list_number (form_of l.f) l.s l.g in
    (l.last ≡ previous number l.i) × Gathering (rises number) l.t l.i l.fallen (holds_from l.t 0 (rises number))
