-- Each turn of `bounds::zero::values_apart` tests one value.
use Rattle.base.specs.Form.{form_of}
use Rattle.base.specs.Checks.{holds_from}
use Rattle.base.proofs.Holding.{Holding}
use Rattle.bounds.specs.Asked.{value_apart}
use Rattle.bounds.proofs.zero.values_apart.Given as goal

abbrev pub invariant-loop-i : goal.invariant-loop-i
invariant-loop-i l = Holding (value_apart (form_of l.f) l.s) l.t l.i (holds_from l.t 0 (value_apart (form_of l.f) l.s))
