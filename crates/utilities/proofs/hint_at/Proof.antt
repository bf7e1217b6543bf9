-- `utilities::hint_at` meets its contract. Assumes nothing.
use mathlib.Core.Path.{ap, ◌∙◌}
use Prim.Native.Nat.{ℕ, ◌%◌}
use borrow.Author.Rules.{rules}
use mir.Syntax.{w64}
use mir.Val.{of_z}
use mir.Facts.{to_z-of_z}
use Rattle.utilities.specs.Noted.{hint_count}
use Rattle.utilities.proofs.hint_at.Statement.{statement}
use Rattle.utilities.proofs.hint_at.Tie as tie

returns : tie.Need-returns
returns c = ap (λ (n : ℕ). n % hint_count) (c.complement.ensures ∙ ap (of_z w64) (to_z-of_z c.ranges.x))

pub hint_at_spec : {M : Type 1} → statement M
hint_at_spec = tie.close (tie.spec (λ c κs. search rules) returns)
