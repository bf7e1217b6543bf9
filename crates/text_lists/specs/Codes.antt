-- Lists of texts joined or united: as texts, and as the numbers that the stores hold for them.
use Rattle.std.specs.Prelude.{Bool, true, false, List, ℕ, ℤ}
use Rattle.numbers.specs.Result.{Result}
use Rattle.utilities.specs.Lists.{firsts}
use Rattle.base.specs.Form.{Form}
use Rattle.category_lists.specs.Categories.{join_rule, same_text, combined, united}
use Rattle.texts.specs.Joins.{same_join}
use Rattle.texts.specs.Code.{Texts, parts_of}
use Rattle.text_columns.specs.Codes.{codes_by}

-- 02, S-2: two operands' lists, which Add joins and Pool unites, over the output columns
abbrev pub together : Bool → ℕ → List (List (List ℕ)) → List (List (List ℕ)) → Result (List (List (List ℕ)))
together true columns ls ms = combined same_text join_rule columns ls ms
together false columns ls ms = united same_text columns ls ms

-- two sheets of texts
pub record Joining (F : Form) (left right : List ℕ) : Type 0 where
  pub lefts : Texts F left
  pub rights : Texts F right

-- column j, each text once
unfoldable pub column_codes : Bool → Form → List ℕ → List ℕ → ℕ → List ℤ
column_codes joins F left right j = firsts (same_join F left right) (codes_by joins (parts_of F left j) (parts_of F right j))
