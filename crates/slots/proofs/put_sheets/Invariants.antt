-- Laying the sheets that are left, from slot k on, lays all.
use Rattle.std.proofs.Common.{◌≡◌, ◌+◌, length, drop}
use Rattle.lines.specs.Fields.{parts}
use Rattle.slots.specs.Sheets.{laid}
use Rattle.slots.proofs.put_sheets.Given as goal

abbrev pub invariant-loop-text : goal.invariant-loop-text
invariant-loop-text l =
    (l.k ≡ l.slot + length l.yielded)
    × (laid (drop (length l.yielded) (parts 44 l.fn.s)) l.k l.buf ≡ laid (parts 44 l.fn.s) l.slot l.fn.buf)
