-- Each turn of `array_checks::entry_faults` tests one entry, by both checks.
use Rattle.std.proofs.Common.{not, eqb}
use Rattle.base.specs.Form.{form_of}
use Rattle.base.specs.Checks.{holds_from, ends_permitted}
use Rattle.base.specs.Entries.{entry_holds}
use Rattle.array_checks.proofs.Gathering.{Gathering}
use Rattle.array_checks.proofs.entry_faults.Given as goal

abbrev pub invariant-loop-i : goal.invariant-loop-i
invariant-loop-i l =
    let ends = ends_permitted (form_of l.f) l.s in
    let entry = entry_holds (form_of l.f) l.floats l.s in
    Gathering ends l.n l.i (not (eqb l.bad 0)) (holds_from l.n 0 ends) × Gathering entry l.n l.i l.unordered (holds_from l.n 0 entry)
