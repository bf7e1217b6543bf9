-- What the codes of categories ask for, and what they answer.
use Rattle.std.specs.Prelude.{◌≡◌, Bool, true, false, List, ℕ, eqb}
use Rattle.numbers.specs.Result.{first_failing}
use Rattle.base.specs.Form.{Form, byte_at, nature_at, absent_nature, is_range_nature}
use Rattle.base.specs.declared.Component.{Component}
use Rattle.base.specs.declared.Component.TheVariants as C
use Rattle.base.specs.declared.Family.{Family}
use Rattle.base.specs.declared.Family.TheVariants as Fam
use Rattle.lending.specs.Code.{Read}
use Rattle.base.specs.Decode.{nature_in}
use Rattle.calls.specs.Natures.{both_list_checks}

-- categories: neither absent nor a range
pub record Lists (F : Form) (s : List ℕ) : Type 0 where
  pub read : Read F s
  pub present : eqb (byte_at F nature_at s) absent_nature ≡ false
  pub no_range : is_range_nature (byte_at F nature_at s) ≡ false

-- there is code for the family's rules for whole categories
abbrev pub has_rule : Family → Bool
has_rule Fam.Unary = true
has_rule Fam.Pair = true
has_rule Fam.Copy = false
has_rule Fam.Pool = false

-- the components that have a rule for texts: 02, S-2: "Add joins left text and right text"
abbrev pub joins : Component → Bool
joins C.Abs = false
joins C.Add = true
joins C.Subtract = false
joins C.Multiply = false
joins C.Divide = false
joins C.Modulo = false
joins C.Log = false
joins C.Power = false
joins C.Negative = false
joins C.Pool = false

-- 19, 20, 29 and 21 of two category operands, from their bytes: the number of the first that fails, 0 where none does
unfoldable pub both_lists_code_of : Form → ℕ → List ℕ → List ℕ → ℕ
both_lists_code_of F columns left right = first_failing (both_list_checks columns (nature_in F left) (nature_in F right))
