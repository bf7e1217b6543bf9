-- Before each turn of `utilities::clear_hints` the hints before i are 0, and the others as they were.
use Rattle.std.proofs.Common.{◌≡◌, length, drop, ◌++◌}
use Rattle.std.specs.Prelude.{replicate}
use Rattle.utilities.specs.Noted.{hint_count}
use Rattle.utilities.proofs.clear_hints.Given as goal

abbrev pub invariant-loop-i : goal.invariant-loop-i
invariant-loop-i l = (length l.hints ≡ hint_count) × (l.hints ≡ replicate l.i 0 ++ drop l.i l.fn.hints)
