-- The copied bytes, and those behind them. Assumes nothing.
use Rattle.std.proofs.Common.{refl, ◌∙◌}
use Rattle.std.proofs.Math.Nat.{zero-add}
use Rattle.lines.specs.Window.{slid}
use Rattle.lines.proofs.slide.Goals as goal

pub returns : goal.returns
unfolding slid
returns c = (refl, c.copy_within.ensures.after ∙ simp zero-add)
