-- Each turn of `bounds::entries_asked` asks one entry.
use Rattle.base.specs.Form.{form_of}
use Rattle.base.specs.Checks.{holds_from}
use Rattle.base.proofs.Holding.{Holding}
use Rattle.bounds.specs.Asked.{entry_asked}
use Rattle.bounds.proofs.entries_asked.Given as goal

abbrev pub invariant-loop-i : goal.invariant-loop-i
invariant-loop-i l = Holding (entry_asked (form_of l.f) l.ask l.floats l.s) l.n l.i (holds_from l.n 0 (entry_asked (form_of l.f) l.ask l.floats l.s))
