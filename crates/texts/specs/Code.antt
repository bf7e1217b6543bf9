-- What comparing and gathering texts asks for, and what it answers.
use Rattle.std.specs.Prelude.{◌≡◌, false, List, ℕ, ◌<◌, ℤ, pos, length, take, get_or}
use Rattle.utilities.specs.Lists.{firsts}
use Rattle.base.specs.Form.{Form, byte_at, nature_at, text_lists_nature}
use Rattle.base.specs.Checks.{fields_fail}
use Rattle.base.specs.Decode.{lists}
use Rattle.base.specs.Encode.{whole_bits}
use Rattle.category_lists.specs.Columnwise.{Listed, pick}
use Rattle.texts.specs.Joins.{as_part, JoinLies, same_join}

-- a sheet of texts that passed 3 and 4 and has lists
pub record Texts (F : Form) (s : List ℕ) : Type 0 where
  pub listed : Listed F s
  pub fields : fields_fail F s ≡ false
  pub is_text : byte_at F nature_at s ≡ text_lists_nature

-- the numbers xs, m of them, stand at the start of a store
pub record Starts (xs : List ℤ) (m : ℕ) (store : List ℤ) : Type 0 where
  pub count : m ≡ length xs
  pub start : take m store ≡ xs

-- what stands among the first k of a store, as far as it goes, are joins
abbrev pub Joins : Form → List ℕ → List ℕ → ℕ → List ℤ → Type 0
Joins F left right k store = (i : ℕ) → i < k → i < length store → JoinLies F left right (whole_bits (get_or store i (pos 0)))

-- the texts of column j, each once, as parts: first occurrences stay
abbrev pub parts_of : Form → List ℕ → ℕ → List ℤ
parts_of F s j = firsts (same_join F s s) (pick (lists F s as_part) j)
