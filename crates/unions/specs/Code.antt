-- What uniting lists asks for, and what it answers.
use Rattle.std.specs.Prelude.{◌≡◌, Bool, false, List, ◌⊎◌, ℕ}
use Rattle.numbers.specs.Result.{Result}
use Rattle.utilities.specs.Lists.{firsts}
use Rattle.base.specs.Form.{Form, byte_at, nature_at, whole_lists_nature, bool_lists_nature}
use Rattle.base.specs.Checks.{fields_fail}
use Rattle.category_lists.specs.Categories.{union}
use Rattle.category_lists.specs.Columnwise.{Listed, pick}

-- two sheets of whole or of bool categories, which passed 4 and have lists
pub record Uniting (F : Form) (left right : List ℕ) : Type 0 where
  pub left_listed : Listed F left
  pub right_listed : Listed F right
  pub left_fields : fields_fail F left ≡ false
  pub right_fields : fields_fail F right ≡ false
  pub same : byte_at F nature_at left ≡ byte_at F nature_at right
  pub joins : (byte_at F nature_at left ≡ whole_lists_nature) ⊎ (byte_at F nature_at left ≡ bool_lists_nature)

-- column j of both operands' lists
abbrev pub union_of : {X : Type 0} → (X → X → Bool) → List (List X) → List (List X) → ℕ → Result (List X)
union_of same ls ms j = union same (firsts same (pick ls j)) (firsts same (pick ms j))
