-- 01, "Categories", and 02, S-1, S-2 and S-6: lists mapped or combined by a rule, or united.
use Rattle.std.specs.Prelude.{Bool, true, false, cond, ◌&&◌, List, [], ◌∷◌, ◌++◌, ℕ, ◌-◌, ◌%◌, suc, ℤ, pos, negsuc, nat_abs, eqb, ltb}
use Rattle.std.proofs.Math.Option.{Option, none, some}
use Rattle.std.proofs.Math.IntN.{pow}
use Rattle.numbers.specs.Result.{Result, ok, refused, and_then}
use Rattle.numbers.specs.Checked.{in_range, checked_of}
use Rattle.numbers.specs.Kind.{whole, fitting}
use Rattle.utilities.specs.Lists.{firsts, standardized}
use Rattle.base.specs.Form.{Form, int_type}
use Rattle.base.specs.Sheet.{Nature, whole_lists}
use Rattle.base.specs.Encode.{value_count, text_size}
use Rattle.base.specs.declared.Component.{Component}
use Rattle.base.specs.declared.Component.TheVariants as C
use Rattle.utilities.specs.Columns.{each, each_pair}

-- the magnitude, which -2 ^ 63 does not have in 64 signed bits
abbrev pub abs_whole : ℤ → Result ℤ
abs_whole a = fitting (checked_of (pos (nat_abs a)))

-- the remainder that is never negative and is below the divisor's magnitude
abbrev pub remainder : ℤ → ℤ → ℤ
remainder (pos n) b = pos (n % nat_abs b)
remainder (negsuc n) b = pos (nat_abs b - suc (n % nat_abs b))

abbrev pub mod_whole : ℤ → ℤ → Result ℤ
mod_whole a b = cond (eqb (nat_abs b) 0) (refused 24) (ok (remainder a b))

-- 25: "A category under Power overflows"
abbrev pub power_whole : ℤ → ℤ → Result ℤ
power_whole a (pos n) = cond (in_range (pow a n)) (ok (pow a n)) (refused 25)
power_whole a (negsuc n) = refused 25

-- 01: "Whole rules exist for 1 to 5, 9, 6 and Int Power. Float Power has none". `none` is 22; Abs and Negative read the left alone.
-- (For 6 to 8 this is never reached: 15 refuses categories on the right of Modulo, Log and Int Power. Nor for Pool, which unites lists.)
unfoldable pub category_rule : Component → ℕ → Option (ℤ → ℤ → Result ℤ)
category_rule C.Abs type = some (λ a b. abs_whole a)
category_rule C.Add type = some whole.add
category_rule C.Subtract type = some whole.sub
category_rule C.Multiply type = some whole.mul
category_rule C.Divide type = some whole.div
category_rule C.Modulo type = cond (eqb type int_type) (some mod_whole) none
category_rule C.Log type = none
category_rule C.Power type = cond (eqb type int_type) (some power_whole) none
category_rule C.Negative type = some (λ a b. whole.neg a)
category_rule C.Pool type = none

-- 22: "The component has no rule for this category kind"
abbrev pub ruled : {X E : Type 0} → Option (E → E → Result E) → ((E → E → Result E) → Result X) → Result X
ruled none rest = refused 22
ruled (some rule) rest = rest rule

-- the rule itself. Of 1 to 5 and 9, which alone have code, it is that of every type
abbrev pub rule_of : Component → ℤ → ℤ → Result ℤ
rule_of c a b = ruled (category_rule c int_type) (λ rule. rule a b)

-- 02, S-2: "Add joins left text and right text, .. Every other component has no rule for them under 22, but Pool unites them"
abbrev pub join_rule : List ℕ → List ℕ → Result (List ℕ)
join_rule x y = ok (x ++ y)

abbrev pub text_rule : Component → Option (List ℕ → List ℕ → Result (List ℕ))
text_rule C.Abs = none
text_rule C.Add = some join_rule
text_rule C.Subtract = none
text_rule C.Multiply = none
text_rule C.Divide = none
text_rule C.Modulo = none
text_rule C.Log = none
text_rule C.Power = none
text_rule C.Negative = none
text_rule C.Pool = none

-- 02, S-2: "equal bytes count as repeats"
unfoldable pub same_text : List ℕ → List ℕ → Bool
same_text [] [] = true
same_text [] (y ∷ ys) = false
same_text (x ∷ xs) [] = false
same_text (x ∷ xs) (y ∷ ys) = eqb x y && same_text xs ys

-- ---- lists of any elements, by their rule and their equality: of whole numbers, by `category_rule` and `eq_z`; of texts, by `text_rule` and `same_text`

-- 01: "Pairs run left outer, right inner"; "The first pair that fails ends the whole product"
unfoldable pub pairs : {X : Type 0} → (X → X → Result X) → List X → List X → Result (List X)
pairs rule [] bs = ok []
pairs rule (a ∷ us) bs = and_then (each (rule a) bs) (λ cs. and_then (pairs rule us bs) (λ ds. ok (cs ++ ds)))

module _ {X : Type 0} (same : X → X → Bool) (rule : X → X → Result X) where
  -- 01: "first occurrences stay"
  unfoldable pub product : List X → List X → Result (List X)
  product us bs = and_then (pairs rule us bs) (λ cs. ok (firsts same cs))

  -- two operands' lists, over the output columns
  unfoldable pub combined : ℕ → List (List X) → List (List X) → Result (List (List X))
  combined columns ls ms = each_pair product (standardized same columns ls) (standardized same columns ms)

  -- 02, S-6: "Mapping a category list now yields first occurrences only". (This replaces 01's "and keep repeats")
  unfoldable pub image : List X → Result (List X)
  image us = and_then (each (λ a. rule a a) us) (λ cs. ok (firsts same cs))

  -- 01: "Abs and Negative map whole numbers": one operand's lists, over the output columns
  unfoldable pub mapped : ℕ → List (List X) → Result (List (List X))
  mapped columns ls = each image (standardized same columns ls)

-- 02, S-1: "Categories, bool too, are left's followed by right's, repeats gone"
module _ {X : Type 0} (same : X → X → Bool) where
  unfoldable pub union : List X → List X → Result (List X)
  union us bs = ok (firsts same (us ++ bs))

  unfoldable pub united : ℕ → List (List X) → List (List X) → Result (List (List X))
  united columns ls ms = each_pair union (standardized same columns ls) (standardized same columns ms)

-- 26: "The result holds over 128 categories, counted as they would be written"; tested only if no pair fails. 02, S-6: "Code 26 on Abs and Negative counts what
-- is left"
unfoldable pub kept_to : ℕ → Nature → Result Nature
kept_to limit k = cond (ltb limit (value_count k)) (refused 26) (ok k)

-- 28, 02, S-2: "the result's text exceeds 1,024 bytes after repeats go, directly after 26"
unfoldable pub text_kept : ℕ → Nature → Result Nature
text_kept limit k = cond (ltb limit (text_size k)) (refused 28) (ok k)

-- 26, then 28
abbrev pub kept : Form → Nature → Result Nature
kept F k = and_then (kept_to F.category_limit k) (text_kept F.text_limit)

-- the nature of lists that keep to the limit
abbrev pub limited : ℕ → Result (List (List ℤ)) → Result Nature
limited limit g = and_then g (λ ls. kept_to limit (whole_lists ls))
