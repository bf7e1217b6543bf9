-- Before each turn of `writer::put_bytes` the first i bytes are appended.
use Rattle.std.proofs.Common.{◌≡◌, ◌+◌, length, take, drop}
use Rattle.octets.specs.Wrote.{Wrote}
use Rattle.writer.proofs.put_bytes.Given as goal

abbrev pub invariant-loop-i : goal.invariant-loop-i
invariant-loop-i l = (length l.buf ≡ length l.fn.buf) × Wrote l.fn.buf l.at l.i (take l.i (drop l.from l.src)) l.buf (l.at + l.i)
