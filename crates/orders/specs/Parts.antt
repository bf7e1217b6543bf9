-- Parts of the checks of two operands, each answered by a function of its own.
use Rattle.std.specs.Prelude.{◌≡◌, Bool, false, cond, List, [], ℕ, pos, eqb}
use Rattle.numbers.specs.Result.{first_failing}
use Rattle.base.specs.Form.{Form, int_type}
use Rattle.base.specs.Sheet.{Fields, Sheet, absent}
use Rattle.base.specs.Decode.{fields_in}
use Rattle.base.specs.Checks.{sizes_fail}
use Rattle.base.specs.Code.{head_fields}
use Rattle.base.specs.declared.Family.{Family}
use Rattle.base.specs.declared.Family.TheVariants as Fam
use Rattle.base.specs.declared.Head.{Head}
use Rattle.orders.specs.Orders.{operand_checks}

-- the bytes of an operand, which passed 3, and its head
pub record Operand (F : Form) (s : List ℕ) (h : Head) : Type 0 where
  pub passed : sizes_fail F s ≡ false
  pub head : head_fields h ≡ fields_in F s

-- the code of a check and of those behind it
abbrev pub first : ℕ → Bool → ℕ → ℕ
first number fails rest = cond fails number rest

-- the code of checks in two parts: the later count where the earlier refuse nothing
abbrev pub next : ℕ → ℕ → ℕ
next code rest = cond (eqb code 0) rest code

-- 6 and 7 of both operands, then the rest
abbrev pub operands_code : Fields → Fields → ℕ → ℕ
operands_code x y rest = next (first_failing (operand_checks x)) (next (first_failing (operand_checks y)) rest)

-- a sheet of which no more than the fields is read
abbrev pub only : Fields → Sheet
only x = record { fields = x; node = pos 0; groups = []; nature = absent }

-- Modulo, Log and Power of type Int: the rules for categories that Modulo and Power have are on this type
abbrev pub is_int_copy : Family → ℕ → Bool
is_int_copy Fam.Unary type = false
is_int_copy Fam.Pair type = false
is_int_copy Fam.Copy type = eqb type int_type
is_int_copy Fam.Pool type = false
