-- The window stands in the buffer, which keeps its length.
use Rattle.std.proofs.Common.{◌≡◌, length}
use Rattle.lines.specs.Window.{Open}
use Rattle.replay.proofs.replay.Given as goal

abbrev pub invariant-loop : goal.invariant-loop
invariant-loop g l = Open l.window (length l.buf) × (length l.buf ≡ length l.fn.buf)
