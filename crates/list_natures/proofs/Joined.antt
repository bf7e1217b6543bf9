-- Two operands of text: the rule for texts, if the component has one.
--     no_join, join    by whether the component joins texts
--     joins_both       a component that does is of the pairs, so that its texts' stores are lent
-- Assumes nothing.
use mathlib.Core.Path.{◌≡◌, refl, sym, ap, ap₂, ◌∙◌}
use mathlib.Core.Bool.{true, false}
use mathlib.Core.List.{List}
use mathlib.Core.Logic.{inl}
use mathlib.Core.Option.{Option, none, some}
use Prim.Native.Nat.{ℕ}
use Rattle.numbers.specs.Result.{Result, refused, and_then}
use Rattle.base.specs.Form.{Form, byte_at, nature_at, text_lists_nature}
use Rattle.base.specs.Sheet.{Nature, text_lists}
use Rattle.base.specs.Decode.{nature_in, lists, text_in}
use Rattle.base.specs.Components.{family_of}
use Rattle.base.specs.declared.Component.{Component}
use Rattle.base.specs.declared.Component.TheVariants as C
use Rattle.base.specs.declared.Family.TheVariants as Fam
use Rattle.base.proofs.Natures.{nature_text_lists}
use Rattle.category_lists.specs.Categories.{text_rule, join_rule, same_text, ruled, combined, kept}
use Rattle.calls.specs.Natures.{combined_nature}
use Rattle.lending.specs.Code.{holds_texts, joins_texts}
use Rattle.lending.proofs.Lending.{texts_held, texts_joined}
use Rattle.texts.specs.Code.{Texts}
use Rattle.text_lists.specs.Codes.{Joining}
use Rattle.list_codes.specs.Code.{joins}
use Rattle.list_codes.proofs.Numbers.{yes_no}

joins_rule : (c : Component) → joins c ≡ true → text_rule c ≡ some join_rule
joins_rule C.Abs e = absurd (yes_no (sym e))
joins_rule C.Add e = refl
joins_rule C.Subtract e = absurd (yes_no (sym e))
joins_rule C.Multiply e = absurd (yes_no (sym e))
joins_rule C.Divide e = absurd (yes_no (sym e))
joins_rule C.Modulo e = absurd (yes_no (sym e))
joins_rule C.Log e = absurd (yes_no (sym e))
joins_rule C.Power e = absurd (yes_no (sym e))
joins_rule C.Negative e = absurd (yes_no (sym e))
joins_rule C.Pool e = absurd (yes_no (sym e))

no_joins_rule : (c : Component) → joins c ≡ false → text_rule c ≡ none
no_joins_rule C.Abs e = refl
no_joins_rule C.Add e = absurd (yes_no e)
no_joins_rule C.Subtract e = refl
no_joins_rule C.Multiply e = refl
no_joins_rule C.Divide e = refl
no_joins_rule C.Modulo e = refl
no_joins_rule C.Log e = refl
no_joins_rule C.Power e = refl
no_joins_rule C.Negative e = refl
no_joins_rule C.Pool e = refl

joins_pair : (c : Component) → joins c ≡ true → family_of c ≡ Fam.Pair
joins_pair C.Abs e = absurd (yes_no (sym e))
joins_pair C.Add e = refl
joins_pair C.Subtract e = absurd (yes_no (sym e))
joins_pair C.Multiply e = absurd (yes_no (sym e))
joins_pair C.Divide e = absurd (yes_no (sym e))
joins_pair C.Modulo e = absurd (yes_no (sym e))
joins_pair C.Log e = absurd (yes_no (sym e))
joins_pair C.Power e = absurd (yes_no (sym e))
joins_pair C.Negative e = absurd (yes_no (sym e))
joins_pair C.Pool e = absurd (yes_no (sym e))

module _ (F : Form) (left right : List ℕ) (x : byte_at F nature_at left ≡ text_lists_nature) (y : byte_at F nature_at right ≡ text_lists_nature) (c : Component) (type columns : ℕ) where
  abbrev by_rule : Option (List ℕ → List ℕ → Result (List ℕ)) → Result Nature
  by_rule o = ruled o (λ rule. and_then (combined same_text rule columns (lists F left (text_in F left)) (lists F right (text_in F right))) (λ ns. kept F (text_lists ns)))

  texts_pair : combined_nature F c type columns (nature_in F left) (nature_in F right) ≡ by_rule (text_rule c)
  texts_pair = ap₂ (λ (a b : Nature). combined_nature F c type columns a b) (nature_text_lists F left x) (nature_text_lists F right y)

  pub no_join : joins c ≡ false → combined_nature F c type columns (nature_in F left) (nature_in F right) ≡ refused 22
  no_join e = texts_pair ∙ ap (λ (o : Option (List ℕ → List ℕ → Result (List ℕ))). by_rule o) (no_joins_rule c e)

  pub join : joins c ≡ true
      → combined_nature F c type columns (nature_in F left) (nature_in F right)
      ≡ and_then (combined same_text join_rule columns (lists F left (text_in F left)) (lists F right (text_in F right))) (λ ns. kept F (text_lists ns))
  join e = texts_pair ∙ ap (λ (o : Option (List ℕ → List ℕ → Result (List ℕ))). by_rule o) (joins_rule c e)

-- a sheet of texts was read
texts_read : {F : Form} {s : List ℕ} → Texts F s → holds_texts F s ≡ true
texts_read t = texts_held (record { sizes = t.listed.passed; fields = t.fields }) t.is_text

pub joins_both : (F : Form) (left right : List ℕ) → Joining F left right → (c : Component) → joins c ≡ true → joins_texts (family_of c) F left right ≡ true
joins_both F left right j c e = texts_joined F left right (inl (joins_pair c e)) (texts_read j.lefts) (texts_read j.rights)
