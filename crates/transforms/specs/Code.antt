-- What the code says of the right sheet.
use Rattle.std.specs.Prelude.{cond, List, ℕ}
use Rattle.base.specs.Form.{Form}
use Rattle.base.specs.Checks.{read}
use Rattle.base.specs.Code.{code_of}
use Rattle.base.specs.Components.{is_unary}
use Rattle.base.specs.declared.Family.{Family}

-- 3 to 5 of the right sheet, where the family reads it: the number of the first that fails, 0 where none does
unfoldable pub right_code_of : Form → Family → List ℕ → ℕ
right_code_of F family right = cond (is_unary family) 0 (code_of (read F right))
