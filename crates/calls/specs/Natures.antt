-- `propagate_unary_nature`, `propagate_binary_nature` and Pool's: 17 to 26, 28 and 29, and the nature derived.
use Rattle.std.specs.Prelude.{Bool, not, List, [], ◌∷◌, ◌++◌, ℕ, ℤ, eqb, Float}
use Rattle.std.proofs.Math.Option.{Option, none}
use Rattle.numbers.specs.Result.{Result, ok, refused, and_then, Check, check, checked}
use Rattle.numbers.specs.Kind.{Span, whole, float, eq_z}
use Rattle.utilities.specs.Columns.{spreads}
use Rattle.base.specs.Form.{Form, float_lists_nature}
use Rattle.base.specs.Sheet.{Nature, absent, whole_range, float_range, whole_lists, bool_lists, float_lists, text_lists}
use Rattle.base.specs.Encode.{nature_number, entry_count}
use Rattle.base.specs.declared.Component.{Component}
use Rattle.ends.specs.Ends.{end_rule}
use Rattle.ends.specs.Ranges.{whole_rule, range_pair, range_alone}
use Rattle.category_lists.specs.Categories.{category_rule, text_rule, same_text, ruled, combined, mapped, united, limited, kept}

-- the rule of one operand's categories. 01: "Bool has none anywhere". 02, S-2: text has none; Add's rule on two texts is `text_rule`
abbrev pub rule_for : Component → ℕ → Nature → Option (ℤ → ℤ → Result ℤ)
rule_for c type absent = none
rule_for c type (whole_range rs) = none
rule_for c type (float_range rs) = none
rule_for c type (whole_lists ls) = category_rule c type
rule_for c type (bool_lists ls) = none
rule_for c type (float_lists ls) = none
rule_for c type (text_lists ls) = none

abbrev pub whole_lists_of : Nature → List (List ℤ)
whole_lists_of absent = []
whole_lists_of (whole_range rs) = []
whole_lists_of (float_range rs) = []
whole_lists_of (whole_lists ls) = ls
whole_lists_of (bool_lists ls) = []
whole_lists_of (float_lists ls) = []
whole_lists_of (text_lists ls) = []

abbrev pub bool_lists_of : Nature → List (List ℕ)
bool_lists_of absent = []
bool_lists_of (whole_range rs) = []
bool_lists_of (float_range rs) = []
bool_lists_of (whole_lists ls) = []
bool_lists_of (bool_lists ls) = ls
bool_lists_of (float_lists ls) = []
bool_lists_of (text_lists ls) = []

abbrev pub text_lists_of : Nature → List (List (List ℕ))
text_lists_of absent = []
text_lists_of (whole_range rs) = []
text_lists_of (float_range rs) = []
text_lists_of (whole_lists ls) = []
text_lists_of (bool_lists ls) = []
text_lists_of (float_lists ls) = []
text_lists_of (text_lists ls) = ls

-- of an operand, by the output's columns, its nature's number and how many lists it has. 19: "Float categories are to be combined or mapped"; 20: "A category
-- operand has no lists"; 29, 02, S-5: "the number of category lists is neither one nor the output's column count, directly after 20"
abbrev pub list_checks_of : ℕ → ℕ → ℕ → List Check
list_checks_of columns nature lists = check 19 (eqb nature float_lists_nature) ∷ check 20 (eqb lists 0) ∷ check 29 (not (spreads columns lists)) ∷ []

abbrev pub list_checks : ℕ → Nature → List Check
list_checks columns k = list_checks_of columns (nature_number k) (entry_count k)

-- 02, S-5: "19, 20 and 29 finish on left before right"; 21: "The category kinds differ"
abbrev pub both_list_checks : ℕ → Nature → Nature → List Check
both_list_checks columns l r = list_checks columns l ++ list_checks columns r ++ (check 21 (not (eqb (nature_number l) (nature_number r))) ∷ [])

-- 02, S-1: the lists of Pool, which are of one kind (21) and not float (19); the other natures are never reached
abbrev pub united_nature : ℕ → Nature → Nature → Result Nature
united_nature columns absent r = ok absent
united_nature columns (whole_range rs) r = ok absent
united_nature columns (float_range rs) r = ok absent
united_nature columns (whole_lists ls) r = and_then (united eq_z columns ls (whole_lists_of r)) (λ ns. ok (whole_lists ns))
united_nature columns (bool_lists ls) r = and_then (united eqb columns ls (bool_lists_of r)) (λ ns. ok (bool_lists ns))
united_nature columns (float_lists ls) r = ok absent
united_nature columns (text_lists ls) r = and_then (united same_text columns ls (text_lists_of r)) (λ ns. ok (text_lists ns))

-- two category operands of Pool: 19, 20, 29 and 21, then left's lists followed by right's
unfoldable pub lists_united : ℕ → Nature → Nature → Result Nature
lists_united columns l r = checked (both_list_checks columns l r) (united_nature columns l r)

module _ (F : Form) (c : Component) (type columns : ℕ) where
  -- 22, then the product of two operands' lists, which are of one kind (21); 26, and of texts 28
  abbrev pub combined_nature : Nature → Nature → Result Nature
  combined_nature absent r = refused 22
  combined_nature (whole_range rs) r = refused 22
  combined_nature (float_range rs) r = refused 22
  combined_nature (whole_lists ls) r = ruled (category_rule c type) (λ rule. limited F.category_limit (combined eq_z rule columns ls (whole_lists_of r)))
  combined_nature (bool_lists ls) r = refused 22
  combined_nature (float_lists ls) r = refused 22
  combined_nature (text_lists ls) r = ruled (text_rule c) (λ rule. and_then (combined same_text rule columns ls (text_lists_of r)) (λ ns. kept F (text_lists ns)))

  -- two category operands: 19, 20, 29, 21 and 22, then the product
  unfoldable pub lists_pair : Nature → Nature → Result Nature
  lists_pair l r = checked (both_list_checks columns l r) (combined_nature l r)

-- two natures, of which two categories make what `together` says
module _ (c : Component) (type columns : ℕ) (together : Nature → Nature → Result Nature) where
  unfoldable pub whole_range_with : List (Span ℤ) → Nature → Result Nature
  whole_range_with xs absent = ok absent
  whole_range_with xs (whole_range ys) = and_then (range_pair (whole_rule c type) columns xs ys) (λ zs. ok (whole_range zs))
  whole_range_with xs (float_range ys) = refused 17
  whole_range_with xs (whole_lists ms) = ok absent
  whole_range_with xs (bool_lists ms) = ok absent
  whole_range_with xs (float_lists ms) = ok absent
  whole_range_with xs (text_lists ms) = ok absent

  -- 17: "One range is whole, the other float"
  unfoldable pub float_range_with : List (Span Float) → Nature → Result Nature
  float_range_with xs absent = ok absent
  float_range_with xs (whole_range ys) = refused 17
  float_range_with xs (float_range ys) = and_then (range_pair (end_rule float c) columns xs ys) (λ zs. ok (float_range zs))
  float_range_with xs (whole_lists ms) = ok absent
  float_range_with xs (bool_lists ms) = ok absent
  float_range_with xs (float_lists ms) = ok absent
  float_range_with xs (text_lists ms) = ok absent

  unfoldable pub lists_with : Nature → Nature → Result Nature
  lists_with l absent = ok absent
  lists_with l (whole_range ys) = ok absent
  lists_with l (float_range ys) = ok absent
  lists_with l (whole_lists ms) = together l (whole_lists ms)
  lists_with l (bool_lists ms) = together l (bool_lists ms)
  lists_with l (float_lists ms) = together l (float_lists ms)
  lists_with l (text_lists ms) = together l (text_lists ms)

  -- 01: "Either nature absent, or range with categories, gives absent"; 02, S-1: "Nature is absent as for the other pairs"
  unfoldable pub two_natures : Nature → Nature → Result Nature
  two_natures absent r = ok absent
  two_natures (whole_range xs) r = whole_range_with xs r
  two_natures (float_range xs) r = float_range_with xs r
  two_natures (whole_lists ls) r = lists_with (whole_lists ls) r
  two_natures (bool_lists ls) r = lists_with (bool_lists ls) r
  two_natures (float_lists ls) r = lists_with (float_lists ls) r
  two_natures (text_lists ls) r = lists_with (text_lists ls) r

-- `propagate_binary_nature`
abbrev pub binary_nature : Form → Component → ℕ → ℕ → Nature → Nature → Result Nature
binary_nature F c type columns l r = two_natures c type columns (lists_pair F c type columns) l r

-- 17 to 21 and 29 of Pool, and the nature that it derives, however many categories and texts it holds: 24 of the rows comes before 26 and 28
abbrev pub pool_nature : Component → ℕ → ℕ → Nature → Nature → Result Nature
pool_nature c type columns l r = two_natures c type columns (lists_united columns) l r

module _ (limit : ℕ) (c : Component) (type columns : ℕ) where
  -- one category operand: 19, 20, 29 and 22, then the mapping
  unfoldable pub lists_alone : Nature → Result Nature
  lists_alone l =
      checked (list_checks columns l)
      (ruled (rule_for c type l) (λ rule. limited limit (mapped eq_z rule columns (whole_lists_of l))))

  -- `propagate_unary_nature`
  unfoldable pub unary_nature : Nature → Result Nature
  unary_nature absent = ok absent
  unary_nature (whole_range xs) = and_then (range_alone (end_rule whole c) columns xs) (λ zs. ok (whole_range zs))
  unary_nature (float_range xs) = and_then (range_alone (end_rule float c) columns xs) (λ zs. ok (float_range zs))
  unary_nature (whole_lists ls) = lists_alone (whole_lists ls)
  unary_nature (bool_lists ls) = lists_alone (bool_lists ls)
  unary_nature (float_lists ls) = lists_alone (float_lists ls)
  unary_nature (text_lists ls) = lists_alone (text_lists ls)
