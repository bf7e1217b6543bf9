-- Category operands: which of 19, 20, 29 and 21 refuses, and what they are where none does.
--     list_numbered, both_numbered, both_code, code_is        these in parts, as the code makes them
--     fine, kinds, no_text, categories, fine_listed, joint    operands that pass
--     pair_fails, pair_joins                                  two operands that are combined
--     union_fails, union_joins                                two that are united
-- Assumes nothing.
use mathlib.Core.Path.{◌≡◌, refl, sym, ap, ap₂, ◌∙◌}
use mathlib.Core.Bool.{false, cond, not}
use mathlib.Core.List.{List, [], ◌∷◌, ◌++◌}
use mathlib.Core.Logic.{◌⊎◌, inl, inr, ⊎_elim}
use Prim.Native.Nat.{ℕ, zero, suc, ◌≤◌, ◌<◌}
use native.Mathlib.Omega.{arith}
use lib.Dec.{eqb}
use borrow.Author.Tests.{eqb-true, eqb-false, ne_eqb, not-false}
use Rattle.numbers.specs.Result.{refused, check, first_failing}
use Rattle.utilities.specs.Lists.{every}
use Rattle.base.specs.Form.{Form, byte_at, nature_at, is_range_nature, list_count, whole_lists_nature, float_lists_nature}
use Rattle.base.specs.Sheet.{Nature}
use Rattle.base.specs.Decode.{nature_in}
use Rattle.base.specs.Encode.{nature_number, entry_count}
use Rattle.base.specs.declared.Component.{Component}
use Rattle.base.proofs.Permitted.{permitted, nature_within}
use Rattle.category_lists.specs.Columnwise.{Listed}
use Rattle.orders.specs.Parts.{next}
use Rattle.orders.proofs.Refusals.{Numbered, first_append, checked_passes, checked_refuses}
use Rattle.orders.proofs.Passing.{Passing, all_pass, pass_parts}
use Rattle.calls.specs.Natures.{list_checks_of, list_checks, both_list_checks, united_nature, lists_united, combined_nature, lists_pair}
use Rattle.list_codes.specs.Code.{Lists, both_lists_code_of}
use Rattle.list_codes.proofs.Numbers.{yes_no, number_of, count_of}

-- ---- 19, 20 and 29 of each, and 21

-- no check has the number 0
pub list_numbered : (columns : ℕ) (k : Nature) → Numbered (list_checks columns k)
unfolding every
list_numbered columns k = record { all = refl }

pub both_numbered : (columns : ℕ) (l r : Nature) → Numbered (both_list_checks columns l r)
unfolding every
both_numbered columns l r = record { all = refl }

-- left's before right's, and then the kinds
pub both_code : (columns : ℕ) (l r : Nature)
    → first_failing (both_list_checks columns l r)
    ≡ next (first_failing (list_checks columns l)) (next (first_failing (list_checks columns r)) (cond (not (eqb (nature_number l) (nature_number r))) 21 0))
unfolding first_failing
both_code columns l r =
    let x = list_checks columns l in
    let y = list_checks columns r in
    let kinds = check 21 (not (eqb (nature_number l) (nature_number r))) ∷ [] in
    first_append x (y ++ kinds) (list_numbered columns l) ∙ ap (next (first_failing x)) (first_append y kinds (list_numbered columns r))

-- ---- an operand

pub code_is : {F : Form} {s : List ℕ} → Lists F s → (columns : ℕ) {n k : ℕ} → n ≡ list_count F s → k ≡ first_failing (list_checks_of columns (byte_at F nature_at s) n)
    → k ≡ first_failing (list_checks columns (nature_in F s))
code_is {F} {s} l columns e h = h ∙ ap₂ (λ (m n : ℕ). first_failing (list_checks_of columns m n)) (sym (number_of F s l.read)) (e ∙ sym (count_of F s l))

-- categories that 19 and 20 pass
pub record Fine (F : Form) (s : List ℕ) : Type 0 where
  pub lists : Lists F s
  pub no_float : eqb (nature_number (nature_in F s)) float_lists_nature ≡ false
  pub some_lists : eqb (entry_count (nature_in F s)) 0 ≡ false

passing_fine : {F : Form} {s : List ℕ} → Lists F s → (columns : ℕ) → Passing (list_checks columns (nature_in F s)) → Fine F s
passing_fine l columns p = record { lists = l; no_float = p.0; some_lists = p.1.0 }

pub fine : {F : Form} {s : List ℕ} → Lists F s → (columns : ℕ) → first_failing (list_checks columns (nature_in F s)) ≡ 0 → Fine F s
fine {F} {s} l columns e = passing_fine l columns (all_pass (list_checks columns (nature_in F s)) (list_numbered columns (nature_in F s)) e)

module _ {F : Form} {s : List ℕ} (f : Fine F s) where
  not_float : byte_at F nature_at s ≡ 5 → ⊥
  not_float e = eqb-false (nature_number (nature_in F s)) 5 f.no_float (number_of F s f.lists.read ∙ e)

  -- whole, bool or text
  pub kinds : (byte_at F nature_at s ≡ 3) ⊎ ((byte_at F nature_at s ≡ 4) ⊎ (byte_at F nature_at s ≡ 6))
  kinds = go (byte_at F nature_at s) (nature_within F s (permitted F s f.lists.read.fields)) f.lists.present f.lists.no_range not_float
    where
      go : (k : ℕ) → k ≤ 6 → eqb k 0 ≡ false → is_range_nature k ≡ false → (k ≡ 5 → ⊥) → (k ≡ 3) ⊎ ((k ≡ 4) ⊎ (k ≡ 6))
      go zero h p r x = absurd (yes_no p)
      go (suc zero) h p r x = absurd (yes_no r)
      go (suc (suc zero)) h p r x = absurd (yes_no r)
      go (suc (suc (suc zero))) h p r x = inl refl
      go (suc (suc (suc (suc zero)))) h p r x = inr (inl refl)
      go (suc (suc (suc (suc (suc zero))))) h p r x = absurd (x refl)
      go (suc (suc (suc (suc (suc (suc zero)))))) h p r x = inr (inr refl)
      go (suc (suc (suc (suc (suc (suc (suc k))))))) h p r x = absurd (omega arith)

  -- whole or bool, where it is no text
  pub no_text : (byte_at F nature_at s ≡ 6 → ⊥) → (byte_at F nature_at s ≡ 3) ⊎ (byte_at F nature_at s ≡ 4)
  no_text other = ⊎_elim (λ e. inl e) (λ h. ⊎_elim (λ e. inr e) (λ e. absurd (other e)) h) kinds

  pub categories : whole_lists_nature ≤ byte_at F nature_at s
  categories = ⊎_elim (λ e. omega (arith, e)) (λ h. ⊎_elim (λ e. omega (arith, e)) (λ e. omega (arith, e)) h) kinds

  pub fine_listed : Listed F s
  fine_listed =
      let other = eqb-false (entry_count (nature_in F s)) 0 f.some_lists in
      let same = count_of F s f.lists in
      record { passed = f.lists.read.sizes; no_range = f.lists.no_range; some = go (list_count F s) (λ z. other (same ∙ z)) }
    where
      go : (n : ℕ) → (n ≡ 0 → ⊥) → 0 < n
      go n h = omega (arith, h)

-- two operands that 19, 20, 29 and 21 pass
pub record Joint (F : Form) (left right : List ℕ) : Type 0 where
  pub left_fine : Fine F left
  pub right_fine : Fine F right
  pub same : byte_at F nature_at left ≡ byte_at F nature_at right

pub joint : {F : Form} {left right : List ℕ} → Lists F left → Lists F right → (columns : ℕ)
    → first_failing (both_list_checks columns (nature_in F left) (nature_in F right)) ≡ 0 → Joint F left right
joint {F} {left} {right} x y columns e =
    let l = nature_in F left in
    let r = nature_in F right in
    let kinds = check 21 (not (eqb (nature_number l) (nature_number r))) ∷ [] in
    let lefts = pass_parts (list_checks columns l) (list_checks columns r ++ kinds) (all_pass (both_list_checks columns l r) (both_numbered columns l r) e) in
    let rights = pass_parts (list_checks columns r) kinds lefts.1 in
    let number = eqb-true (nature_number l) (nature_number r) (not-false (eqb (nature_number l) (nature_number r)) rights.1.0) in
    record {
      left_fine = passing_fine x columns lefts.0;
      right_fine = passing_fine y columns rights.0;
      same = sym (number_of F left x.read) ∙ number ∙ number_of F right y.read;
    }

-- ---- two operands

module _ (columns : ℕ) (l r : Nature) where
  pub pair_fails : {k : ℕ} → k ≡ first_failing (both_list_checks columns l r) → (k ≡ 0 → ⊥) → (F : Form) (c : Component) (type : ℕ) → lists_pair F c type columns l r ≡ refused k
  unfolding lists_pair
  pair_fails {k} e h F c type = checked_refuses (combined_nature F c type columns l r) (both_list_checks columns l r) (sym e) (ne_eqb k 0 h)

  pub union_fails : {k : ℕ} → k ≡ first_failing (both_list_checks columns l r) → (k ≡ 0 → ⊥) → lists_united columns l r ≡ refused k
  unfolding lists_united
  union_fails {k} e h = checked_refuses (united_nature columns l r) (both_list_checks columns l r) (sym e) (ne_eqb k 0 h)

  module _ (e : first_failing (both_list_checks columns l r) ≡ 0) where
    pub pair_joins : (F : Form) (c : Component) (type : ℕ) → lists_pair F c type columns l r ≡ combined_nature F c type columns l r
    unfolding lists_pair
    pair_joins F c type = checked_passes (combined_nature F c type columns l r) (both_list_checks columns l r) (both_numbered columns l r) e

    pub union_joins : lists_united columns l r ≡ united_nature columns l r
    unfolding lists_united
    union_joins = checked_passes (united_nature columns l r) (both_list_checks columns l r) (both_numbered columns l r) e

-- what the code says of two operands' bytes, it says of their natures
pub both_of : (F : Form) (columns : ℕ) (left right : List ℕ)
    → both_lists_code_of F columns left right ≡ first_failing (both_list_checks columns (nature_in F left) (nature_in F right))
unfolding both_lists_code_of
both_of F columns left right = refl
