-- `plan_leaves::check_leaf` meets its contract. Assumes nothing.
use mathlib.Core.Path.{ap, ◌∙◌}
use mathlib.Core.List.{List}
use Prim.Native.Nat.{ℕ}
use Rattle.base.specs.Form.{narrow}
use Rattle.base.specs.Checks.{read}
use Rattle.base.specs.Code.{code_of}
use Rattle.plan_leaves.proofs.check_leaf.Goals as goal

pub returns : goal.returns
returns c = c.check_sheet.ensures ∙ ap (λ (s : List ℕ). code_of (read narrow s)) c.sheet_end-end.ensures.bytes
