-- The length that the line tells is within the filled buffers. Assumes nothing.
use Prim.Native.Nat.{ℕ}
use mathlib.Core.Path.{sym, ap, ◌∙◌}
use native.Mathlib.Omega.{arith}
use Rattle.answers.specs.Texts.{number_at}
use Rattle.answers.proofs.read.Goals as goal

pub in_buffers-requires : goal.in_buffers-requires
in_buffers-requires c =
    let line = c.args.line.now in
    (ap (λ (k : ℕ). number_at k line) (sym c.length_field.ensures) ∙ sym c.number_at.ensures ∙ c.in_ok-n.was, omega (arith, c.if-n-gt-ROOM.false))
