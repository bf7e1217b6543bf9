-- Before each turn of `octets::deliver` the first i bytes are those of `src`, and the others as they were.
use Rattle.std.proofs.Common.{◌≡◌, length, take, drop, ◌++◌}
use Rattle.octets.proofs.deliver.Given as goal

abbrev pub invariant-loop-i : goal.invariant-loop-i
invariant-loop-i l = (length l.out ≡ length l.fn.out) × (l.out ≡ take l.i l.src ++ drop l.i l.fn.out)
