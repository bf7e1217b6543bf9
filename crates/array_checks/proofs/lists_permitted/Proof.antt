-- `array_checks::lists_permitted` meets its contract: numbers and values are tested apart, and values only where they are bools. Assumes nothing.
use Rattle.std.proofs.Common.{◌≡◌, ℕ, Bool, true, false, not, ◌&&◌, ◌||◌, eqb, List, sym, ◌∙◌, ap₂, rules, eq-eqb, ne_eqb}
use mathlib.Core.Bool.{and-true}
use Rattle.base.specs.Form.{Form, form_of, byte_at, nature_at, category_count, bool_lists_nature}
use Rattle.base.specs.Checks.{holds_from, number_permitted, lists_permitted, bool_permitted}
use Rattle.base.proofs.Holding.{holds_both}
use Rattle.array_checks.proofs.lists_permitted.Statement.{statement}
use Rattle.array_checks.proofs.lists_permitted.Tie as tie

module _ (F : Form) (s : List ℕ) {t : ℕ} (count : t ≡ category_count F s) where
  -- the test of a value, where b says whether they are bools
  tested : (b : Bool) → eqb (byte_at F nature_at s) bool_lists_nature ≡ b → holds_from t 0 (λ i. number_permitted F s i && (not b || bool_permitted F s i)) ≡ lists_permitted F s
  unfolding lists_permitted
  tested b e = ap₂ (λ (n : ℕ) (b : Bool). holds_from n 0 (λ i. number_permitted F s i && (not b || bool_permitted F s i))) count (sym e)

  bools : byte_at F nature_at s ≡ bool_lists_nature → (holds_from t 0 (number_permitted F s) && holds_from t 0 (bool_permitted F s)) ≡ lists_permitted F s
  bools e = holds_both (number_permitted F s) (bool_permitted F s) t 0 ∙ tested true (eq-eqb (byte_at F nature_at s) bool_lists_nature e)

  others : (byte_at F nature_at s ≡ bool_lists_nature → ⊥) → holds_from t 0 (number_permitted F s) ≡ lists_permitted F s
  others e = (λ j. holds_from t 0 (λ i. sym (and-true (number_permitted F s i)) j)) ∙ tested false (ne_eqb (byte_at F nature_at s) bool_lists_nature e)

returns : tie.Need-returns-then-nature_of-eq-BOOL_LISTS
returns c =
    let k = c.before.before in
    ap₂ ◌&&◌ c.numbers_permitted-numbers.ensures c.bools_permitted.ensures
    ∙ bools (form_of c.args.f) c.args.s.now c.requires.categories (sym c.nature_of.ensures ∙ c.if-nature_of-eq-BOOL_LISTS.true)

returns-2 : tie.Need-returns
returns-2 c =
    let k = c.before in
    c.numbers_permitted-numbers.ensures
    ∙ others (form_of c.args.f) c.args.s.now c.requires.categories (λ e. c.if-nature_of-eq-BOOL_LISTS.false (c.nature_of.ensures ∙ e))

pub lists_permitted_spec : {M : Type 1} → statement M
lists_permitted_spec = tie.close (tie.spec (λ c κs. search rules) (λ c κs. search rules) (λ c κs. search rules) returns returns-2)
