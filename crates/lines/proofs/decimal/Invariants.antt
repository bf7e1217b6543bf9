-- The number so far, with the digits that are left, is the whole number.
use Rattle.std.proofs.Common.{◌≡◌, drop, Some}
use Rattle.lines.specs.Digits.{then_more, number_of}
use Rattle.lines.proofs.decimal.Given as goal

abbrev pub invariant-loop-b : goal.invariant-loop-b
invariant-loop-b l = then_more (drop l.b-index l.s) (Some l.value) ≡ number_of l.s
