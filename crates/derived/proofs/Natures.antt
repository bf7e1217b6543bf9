-- Laws of the nature that is derived.
--     two_natures_lem                         of two natures, by the cases that have an answer of their own: nothing, 17, two ranges of one kind, and
--                                         two of categories
--     categories_together                 two of categories make what categories make together
--     kept_to_lem, kept_value, ruled_value    what 22, 26 and 28 pass is what it was
--     mapped_lists, paired_lists, united_lists
--                                         one or two of categories make nothing, or lists without repeats
-- Assumes nothing.
use mathlib.Core.Path.{◌≡◌, refl, sym, subst}
use mathlib.Core.Bool.{true}
use mathlib.Core.List.{List}
use mathlib.Core.Option.{Option, none, some}
use Prim.Native.Nat.{ℕ}
use lib.Dec.{T, eqb, ltb}
use lib.IntN.{ℤ}
use lib.Ieee.{Float}
use Rattle.numbers.specs.Result.{Result, ok, refused, and_then}
use Rattle.numbers.specs.Kind.{Span, float, eq_z}
use Rattle.utilities.specs.Lists.{every, distinct}
use Rattle.base.specs.Form.{Form}
use Rattle.base.specs.Sheet.{Nature, absent, whole_range, float_range, whole_lists, bool_lists, float_lists, text_lists, is_lists}
use Rattle.base.specs.Encode.{value_count, text_size}
use Rattle.base.specs.declared.Component.{Component}
use Rattle.ends.specs.Ends.{end_rule}
use Rattle.ends.specs.Ranges.{whole_rule, range_pair}
use Rattle.category_lists.specs.Categories.{category_rule, text_rule, same_text, ruled, combined, mapped, united, kept_to, text_kept, kept, limited}
use Rattle.category_lists.proofs.Distinct.{mapped_distinct, combined_distinct, united_distinct}
use Rattle.calls.specs.Natures.{rule_for, whole_lists_of, bool_lists_of, text_lists_of, list_checks, both_list_checks, united_nature, lists_united, combined_nature, lists_pair, lists_alone, whole_range_with, float_range_with, lists_with, two_natures}
use Rattle.derived.proofs.Values.{IfOk, value_then, value_either, value_passed, value_from}

module _ (X : Result Nature → Type 0) (c : Component) (type columns : ℕ) (together : Nature → Nature → Result Nature) (nothing : X (ok absent)) (mixed : X (refused 17)) where
  abbrev OfWholes : List (Span ℤ) → List (Span ℤ) → Type 0
  OfWholes xs ys = X (and_then (range_pair (whole_rule c type) columns xs ys) (λ zs. ok (whole_range zs)))

  abbrev OfFloats : List (Span Float) → List (Span Float) → Type 0
  OfFloats xs ys = X (and_then (range_pair (end_rule float c) columns xs ys) (λ zs. ok (float_range zs)))

  whole_with : (xs : List (Span ℤ)) (r : Nature) → ((ys : List (Span ℤ)) → r ≡ whole_range ys → OfWholes xs ys) → X (whole_range_with c type columns together xs r)
  unfolding whole_range_with
  whole_with xs absent h = nothing
  whole_with xs (whole_range ys) h = h ys refl
  whole_with xs (float_range ys) h = mixed
  whole_with xs (whole_lists ms) h = nothing
  whole_with xs (bool_lists ms) h = nothing
  whole_with xs (float_lists ms) h = nothing
  whole_with xs (text_lists ms) h = nothing

  float_with : (xs : List (Span Float)) (r : Nature) → ((ys : List (Span Float)) → r ≡ float_range ys → OfFloats xs ys) → X (float_range_with c type columns together xs r)
  unfolding float_range_with
  float_with xs absent h = nothing
  float_with xs (whole_range ys) h = mixed
  float_with xs (float_range ys) h = h ys refl
  float_with xs (whole_lists ms) h = nothing
  float_with xs (bool_lists ms) h = nothing
  float_with xs (float_lists ms) h = nothing
  float_with xs (text_lists ms) h = nothing

  lists_with_lem : (l r : Nature) → X (together l r) → X (lists_with c type columns together l r)
  unfolding lists_with
  lists_with_lem l absent h = nothing
  lists_with_lem l (whole_range ys) h = nothing
  lists_with_lem l (float_range ys) h = nothing
  lists_with_lem l (whole_lists ms) h = h
  lists_with_lem l (bool_lists ms) h = h
  lists_with_lem l (float_lists ms) h = h
  lists_with_lem l (text_lists ms) h = h

  pub two_natures_lem : (l r : Nature) → ((xs ys : List (Span ℤ)) → l ≡ whole_range xs → r ≡ whole_range ys → OfWholes xs ys)
      → ((xs ys : List (Span Float)) → l ≡ float_range xs → r ≡ float_range ys → OfFloats xs ys) → X (together l r) → X (two_natures c type columns together l r)
  unfolding two_natures
  two_natures_lem absent r f g h = nothing
  two_natures_lem (whole_range xs) r f g h = whole_with xs r (λ ys e. f xs ys refl e)
  two_natures_lem (float_range xs) r f g h = float_with xs r (λ ys e. g xs ys refl e)
  two_natures_lem (whole_lists ls) r f g h = lists_with_lem (whole_lists ls) r h
  two_natures_lem (bool_lists ls) r f g h = lists_with_lem (bool_lists ls) r h
  two_natures_lem (float_lists ls) r f g h = lists_with_lem (float_lists ls) r h
  two_natures_lem (text_lists ls) r f g h = lists_with_lem (text_lists ls) r h

-- ---- two of categories

module _ (c : Component) (type columns : ℕ) (together : Nature → Nature → Result Nature) where
  with_categories : (l r : Nature) → is_lists r ≡ true → lists_with c type columns together l r ≡ together l r
  unfolding lists_with
  with_categories l absent q = absurd (subst T (sym q) tt)
  with_categories l (whole_range ys) q = absurd (subst T (sym q) tt)
  with_categories l (float_range ys) q = absurd (subst T (sym q) tt)
  with_categories l (whole_lists ms) q = refl
  with_categories l (bool_lists ms) q = refl
  with_categories l (float_lists ms) q = refl
  with_categories l (text_lists ms) q = refl

  pub categories_together : (l r : Nature) → is_lists l ≡ true → is_lists r ≡ true → two_natures c type columns together l r ≡ together l r
  unfolding two_natures
  categories_together absent r p q = absurd (subst T (sym p) tt)
  categories_together (whole_range xs) r p q = absurd (subst T (sym p) tt)
  categories_together (float_range xs) r p q = absurd (subst T (sym p) tt)
  categories_together (whole_lists ls) r p q = with_categories (whole_lists ls) r q
  categories_together (bool_lists ls) r p q = with_categories (bool_lists ls) r q
  categories_together (float_lists ls) r p q = with_categories (float_lists ls) r q
  categories_together (text_lists ls) r p q = with_categories (text_lists ls) r q

-- ---- what keeps to the limits is what it was

module _ (Q : Nature → Type 0) where
  pub kept_to_lem : (limit : ℕ) (k : Nature) → Q k → IfOk Q (kept_to limit k)
  unfolding kept_to
  kept_to_lem limit k q = value_either Q (ltb limit (value_count k)) (refused 26) (ok k) tt q

  pub kept_value : (F : Form) (k : Nature) → Q k → IfOk Q (kept F k)
  unfolding text_kept
  kept_value F k q =
      value_then Q Q (kept_to F.category_limit k) (text_kept F.text_limit) (kept_to_lem F.category_limit k q)
      (λ n p. value_either Q (ltb F.text_limit (text_size n)) (refused 28) (ok n) tt p)

  pub ruled_value : {E : Type 0} (o : Option (E → E → Result E)) (rest : (E → E → Result E) → Result Nature) → ((rule : E → E → Result E) → IfOk Q (rest rule)) → IfOk Q (ruled o rest)
  ruled_value none rest h = tt
  ruled_value (some rule) rest h = h rule

-- ---- what categories make

-- what holds of the absent nature and of lists without repeats
pub record OfLists (Q : Nature → Type 0) : Type 0 where
  pub nothing : Q absent
  pub wholes : (ls : List (List ℤ)) → every (distinct eq_z) ls ≡ true → Q (whole_lists ls)
  pub bools : (ls : List (List ℕ)) → every (distinct eqb) ls ≡ true → Q (bool_lists ls)
  pub texts : (ls : List (List (List ℕ))) → every (distinct same_text) ls ≡ true → Q (text_lists ls)

module _ (Q : Nature → Type 0) (law : OfLists Q) (c : Component) (type columns : ℕ) where
  united_value : (l r : Nature) → IfOk Q (united_nature columns l r)
  united_value absent r = law.nothing
  united_value (whole_range rs) r = law.nothing
  united_value (float_range rs) r = law.nothing
  united_value (whole_lists ls) r =
      value_from Q (united eq_z columns ls (whole_lists_of r)) _ (λ ns e. law.wholes ns (united_distinct eq_z columns ls (whole_lists_of r) e))
  united_value (bool_lists ls) r =
      value_from Q (united eqb columns ls (bool_lists_of r)) _ (λ ns e. law.bools ns (united_distinct eqb columns ls (bool_lists_of r) e))
  united_value (float_lists ls) r = law.nothing
  united_value (text_lists ls) r =
      value_from Q (united same_text columns ls (text_lists_of r)) _ (λ ns e. law.texts ns (united_distinct same_text columns ls (text_lists_of r) e))

  limited_value : (limit : ℕ) (g : Result (List (List ℤ))) → ((ns : List (List ℤ)) → g ≡ ok ns → every (distinct eq_z) ns ≡ true) → IfOk Q (limited limit g)
  limited_value limit g h = value_from Q g _ (λ ns e. kept_to_lem Q limit (whole_lists ns) (law.wholes ns (h ns e)))

  combined_value : (F : Form) (l r : Nature) → IfOk Q (combined_nature F c type columns l r)
  combined_value F absent r = tt
  combined_value F (whole_range rs) r = tt
  combined_value F (float_range rs) r = tt
  combined_value F (whole_lists ls) r =
      ruled_value Q (category_rule c type) _
      (λ rule. limited_value F.category_limit (combined eq_z rule columns ls (whole_lists_of r)) (λ ns e. combined_distinct eq_z rule columns ls (whole_lists_of r) e))
  combined_value F (bool_lists ls) r = tt
  combined_value F (float_lists ls) r = tt
  combined_value F (text_lists ls) r =
      ruled_value Q (text_rule c) _
      (λ rule. value_from Q (combined same_text rule columns ls (text_lists_of r)) _
      (λ ns e. kept_value Q F (text_lists ns) (law.texts ns (combined_distinct same_text rule columns ls (text_lists_of r) e))))

  pub united_lists : (l r : Nature) → IfOk Q (lists_united columns l r)
  unfolding lists_united
  united_lists l r = value_passed Q (both_list_checks columns l r) _ (λ passing. united_value l r)

  pub paired_lists : (F : Form) (l r : Nature) → IfOk Q (lists_pair F c type columns l r)
  unfolding lists_pair
  paired_lists F l r = value_passed Q (both_list_checks columns l r) _ (λ passing. combined_value F l r)

  pub mapped_lists : (limit : ℕ) (l : Nature) → IfOk Q (lists_alone limit c type columns l)
  unfolding lists_alone
  mapped_lists limit l =
      value_passed Q (list_checks columns l) _
      (λ passing. ruled_value Q (rule_for c type l) _
      (λ rule. limited_value limit (mapped eq_z rule columns (whole_lists_of l)) (λ ns e. mapped_distinct eq_z rule columns (whole_lists_of l) e)))
