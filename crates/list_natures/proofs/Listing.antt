-- Category operands: where 22 refuses, and the rule on whole categories where none does.
--     paired                                   which components have a rule on two
--     other_pair, no_rule, pair_ruled          two operands that are combined
--     alone_fails, other_alone, alone_ruled    one
-- Assumes nothing.
use mathlib.Core.Path.{◌≡◌, refl, sym, ap, ap₂, ◌∙◌}
use mathlib.Core.Bool.{Bool, true, false, cond}
use mathlib.Core.List.{List}
use mathlib.Core.Logic.{⊎_elim}
use mathlib.Core.Option.{Option, none, some}
use Prim.Native.Nat.{ℕ}
use lib.IntN.{ℤ}
use Rattle.numbers.specs.Result.{Result, refused, first_failing}
use Rattle.numbers.specs.Kind.{eq_z}
use Rattle.base.specs.Form.{Form, byte_at, nature_at}
use Rattle.base.specs.Sheet.{Nature}
use Rattle.base.specs.Decode.{as_whole, nature_in, lists}
use Rattle.base.specs.Components.{family_of, is_unary}
use Rattle.base.specs.Refusals.{number_of}
use Rattle.base.specs.declared.refusals.Refusal.{Refusal}
use Rattle.base.specs.declared.Component.{Component}
use Rattle.base.specs.declared.Component.TheVariants as C
use Rattle.base.specs.declared.Family.{Family}
use Rattle.base.specs.declared.Family.TheVariants as Fam
use Rattle.base.proofs.Told.{numbered}
use Rattle.base.proofs.Natures.{nature_whole_lists, nature_bool_lists, nature_text_lists}
use Rattle.category_lists.specs.Categories.{category_rule, ruled, rule_of, combined, mapped, limited}
use Rattle.orders.specs.Parts.{is_int_copy}
use Rattle.orders.proofs.Refusals.{checked_passes, checked_refuses}
use Rattle.calls.specs.Natures.{rule_for, whole_lists_of, list_checks, both_list_checks, combined_nature, lists_pair, lists_alone}
use Rattle.list_codes.specs.Code.{has_rule}
use Rattle.list_codes.proofs.Numbers.{yes_no}
use Rattle.list_codes.proofs.Codes.{list_numbered, Fine, kinds, Joint, pair_joins}
use Rattle.list_natures.specs.Code.{Reached}

-- ---- the rules

rule_is : (c : Component) (type : ℕ) → is_int_copy (family_of c) type ≡ false → category_rule c type ≡ cond (has_rule (family_of c)) (some (rule_of c)) none
unfolding category_rule
rule_is C.Abs type h = refl
rule_is C.Add type h = refl
rule_is C.Subtract type h = refl
rule_is C.Multiply type h = refl
rule_is C.Divide type h = refl
rule_is C.Modulo type h = rw h
rule_is C.Log type h = refl
rule_is C.Power type h = rw h
rule_is C.Negative type h = refl
rule_is C.Pool type h = refl

ruled_apart : (f : Family) (type : ℕ) → has_rule f ≡ true → is_int_copy f type ≡ false
ruled_apart Fam.Unary type h = refl
ruled_apart Fam.Pair type h = refl
ruled_apart Fam.Copy type h = absurd (yes_no (sym h))
ruled_apart Fam.Pool type h = refl

-- of the components that read both operands, those of one family have such a rule
pub paired : (f : Family) → is_unary f ≡ false → has_rule f ≡ true → f ≡ Fam.Pair
paired Fam.Unary u h = absurd (yes_no u)
paired Fam.Pair u h = refl
paired Fam.Copy u h = absurd (yes_no (sym h))
paired Fam.Pool u h = absurd (yes_no (sym h))

rule_some : (c : Component) (type : ℕ) → has_rule (family_of c) ≡ true → category_rule c type ≡ some (rule_of c)
rule_some c type h = rule_is c type (ruled_apart (family_of c) type h) ∙ ap (λ (t : Bool). cond t (some (rule_of c)) none) h

-- ---- two operands

module _ (c : Component) (type columns : ℕ) where
  module _ (F : Form) (left right : List ℕ) (z : first_failing (both_list_checks columns (nature_in F left) (nature_in F right)) ≡ 0) where
    abbrev pair : Result Nature
    pair = lists_pair F c type columns (nature_in F left) (nature_in F right)

    -- by left's nature
    opened : {l : Nature} → nature_in F left ≡ l → pair ≡ combined_nature F c type columns l (nature_in F right)
    opened e = pair_joins columns (nature_in F left) (nature_in F right) z F c type ∙ ap (λ (k : Nature). combined_nature F c type columns k (nature_in F right)) e

    -- there is no rule for bool categories
    pub other_pair : Joint F left right → (byte_at F nature_at left ≡ 6 → ⊥) → (byte_at F nature_at left ≡ 3 → ⊥) → pair ≡ refused 22
    other_pair a text other =
        ⊎_elim (λ e. absurd (other e)) (λ h. ⊎_elim (λ e. opened (nature_bool_lists F left e)) (λ e. absurd (text e)) h) (kinds a.left_fine)

    module _ (a : Joint F left right) (e : byte_at F nature_at left ≡ 3) where
      abbrev paired_by : Option (ℤ → ℤ → Result ℤ) → Result Nature
      paired_by o = ruled o (λ rule. limited F.category_limit (combined eq_z rule columns (lists F left as_whole) (lists F right as_whole)))

      whole_pair : pair ≡ paired_by (category_rule c type)
      whole_pair =
          pair_joins columns (nature_in F left) (nature_in F right) z F c type
          ∙ ap₂ (λ (x y : Nature). combined_nature F c type columns x y) (nature_whole_lists F left e) (nature_whole_lists F right (sym a.same ∙ e))

      pub no_rule : Reached F c type right → has_rule (family_of c) ≡ false → pair ≡ refused 22
      no_rule reached n =
          ⊎_elim
          (λ h. whole_pair ∙ ap (λ (o : Option (ℤ → ℤ → Result ℤ)). paired_by o) (rule_is c type h ∙ ap (λ (t : Bool). cond t (some (rule_of c)) none) n))
          (λ h. absurd (yes_no (sym h ∙ a.right_fine.lists.no_range)))
          reached

      pub pair_ruled : has_rule (family_of c) ≡ true → pair ≡ limited F.category_limit (combined eq_z (rule_of c) columns (lists F left as_whole) (lists F right as_whole))
      pair_ruled h = whole_pair ∙ ap (λ (o : Option (ℤ → ℤ → Result ℤ)). paired_by o) (rule_some c type h)

-- ---- one operand

module _ (limit : ℕ) (c : Component) (type columns : ℕ) where
  abbrev mapping : Nature → Result Nature
  mapping l = ruled (rule_for c type l) (λ rule. limited limit (mapped eq_z rule columns (whole_lists_of l)))

  module _ (F : Form) (s : List ℕ) where
    pub alone_fails : (e : Refusal) → number_of e ≡ first_failing (list_checks columns (nature_in F s)) → lists_alone limit c type columns (nature_in F s) ≡ refused (number_of e)
    unfolding lists_alone
    alone_fails e h = checked_refuses (mapping (nature_in F s)) (list_checks columns (nature_in F s)) (sym h) (numbered e)

    module _ (z : first_failing (list_checks columns (nature_in F s)) ≡ 0) where
      alone_opened : lists_alone limit c type columns (nature_in F s) ≡ mapping (nature_in F s)
      unfolding lists_alone
      alone_opened = checked_passes (mapping (nature_in F s)) (list_checks columns (nature_in F s)) (list_numbered columns (nature_in F s)) z

      -- there is no rule for bool categories and texts
      pub other_alone : Fine F s → (byte_at F nature_at s ≡ 3 → ⊥) → lists_alone limit c type columns (nature_in F s) ≡ refused 22
      other_alone f other =
          ⊎_elim
          (λ e. absurd (other e))
          (λ h.
          ⊎_elim
          (λ e. alone_opened ∙ ap (λ (k : Nature). mapping k) (nature_bool_lists F s e))
          (λ e. alone_opened ∙ ap (λ (k : Nature). mapping k) (nature_text_lists F s e))
          h)
          (kinds f)

      pub alone_ruled : byte_at F nature_at s ≡ 3 → has_rule (family_of c) ≡ true → lists_alone limit c type columns (nature_in F s) ≡ limited limit (mapped eq_z (rule_of c) columns (lists F s as_whole))
      alone_ruled e h =
          alone_opened
          ∙ ap (λ (k : Nature). mapping k) (nature_whole_lists F s e)
          ∙ ap (λ (o : Option (ℤ → ℤ → Result ℤ)). ruled o (λ rule. limited limit (mapped eq_z rule columns (lists F s as_whole)))) (rule_some c type h)
