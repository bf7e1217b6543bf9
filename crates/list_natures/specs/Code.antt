-- What the code that derives a nature asks for.
use Rattle.std.specs.Prelude.{◌≡◌, true, false, List, ◌⊎◌, ℕ}
use Rattle.base.specs.Form.{Form, byte_at, nature_at, is_range_nature}
use Rattle.base.specs.Components.{family_of}
use Rattle.base.specs.declared.Component.{Component}
use Rattle.orders.specs.Parts.{is_int_copy}

-- 15 has kept category pairs from these
abbrev pub Reached : Form → Component → ℕ → List ℕ → Type 0
Reached F c type right = (is_int_copy (family_of c) type ≡ false) ⊎ (is_range_nature (byte_at F nature_at right) ≡ true)
