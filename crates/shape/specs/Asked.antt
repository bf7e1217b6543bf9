-- What one group of two sheets is asked.
use Rattle.std.specs.Prelude.{Bool, List, ℕ}
use Rattle.base.specs.Form.{Form}
use Rattle.base.specs.Decode.{group_at}
use Rattle.shape.specs.Shape.{same_group}

module _ (F : Form) where
  -- group i of g, on either side
  abbrev pub groups_meet : ℕ → List ℕ → List ℕ → ℕ → Bool
  groups_meet g s t i = same_group (group_at F s g i) (group_at F t g i)
