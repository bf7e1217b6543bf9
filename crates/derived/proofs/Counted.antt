-- What is derived has an entry or a list for each column, whatever the operands are: 18 has counted their entries, and 29 of 02, S-5 their lists.
--     derived_counted                a derived nature other than the absent one has as many entries or lists as its sheet states columns
--     maps_counted, pairs_counted    where categories are mapped, or two of categories combined or united, each operand has one list or as many
--                                    as the output has columns
-- Assumes nothing.
use mathlib.Core.Path.{◌≡◌, refl, sym, ap, subst, ◌∙◌}
use mathlib.Core.Bool.{Bool, true, false, cond}
use mathlib.Core.List.{List, map}
use mathlib.Core.Logic.{◌⊎◌, inl, inr, ⊎_elim}
use mathlib.Core.Option.{some}
use Prim.Native.Nat.{ℕ}
use native.Mathlib.Omega.{arith}
use lib.Dec.{T, eqb}
use lib.IntN.{ℤ}
use lib.ListN.{length, length-map}
use borrow.Author.Tests.{not-false}
use Rattle.numbers.specs.Result.{Result, ok, and_then, checked}
use Rattle.numbers.specs.Kind.{Span, whole, float, eq_z}
use Rattle.utilities.specs.Lists.{firsts, repeated, standardized}
use Rattle.utilities.specs.Columns.{spreads, each, each_pair}
use Rattle.utilities.proofs.Repeated.{one_or_each, repeated_length}
use Rattle.base.specs.Form.{Form, whole_lists_nature, bool_lists_nature, text_lists_nature}
use Rattle.base.specs.Sheet.{Nature, absent, whole_range, float_range, whole_lists, bool_lists, float_lists, text_lists, is_lists, Sheet}
use Rattle.base.specs.Encode.{nature_number, entry_count}
use Rattle.base.specs.Components.{family_of, is_unary}
use Rattle.base.specs.declared.Component.{Component}
use Rattle.base.specs.declared.Family.{Family}
use Rattle.base.specs.declared.Family.TheVariants as Fam
use Rattle.ends.specs.Ends.{end_rule}
use Rattle.ends.specs.Ranges.{whole_rule, range_pair, range_alone}
use Rattle.category_lists.specs.Categories.{category_rule, text_rule, same_text, product, combined, image, mapped, union, united, limited}
use Rattle.shape.specs.Shape.{columns_of}
use Rattle.orders.proofs.Passing.{Passing}
use Rattle.calls.specs.Natures.{whole_lists_of, bool_lists_of, text_lists_of, list_checks, both_list_checks, united_nature, lists_united, combined_nature, lists_pair, lists_alone, two_natures, binary_nature, pool_nature, unary_nature}
use Rattle.calls.specs.Derive.{derive}
use Rattle.derived.proofs.Each.{each_length, pair_length}
use Rattle.derived.proofs.Values.{IfOk, value_known, value_then, value_passed, passed_so}
use Rattle.derived.proofs.Natures.{two_natures_lem, categories_together, kept_to_lem, kept_value, ruled_value}
use Rattle.derived.proofs.Families.{nature_by, of_derived}

-- ---- lists that 18 or 29 has counted

module _ (columns : ℕ) where
  -- one for each column
  abbrev Full : {X : Type 0} → List X → Type 0
  Full xs = length xs ≡ columns

  abbrev Spreading : {X : Type 0} → List X → Type 0
  Spreading xs = spreads columns (length xs) ≡ true

  spread_full : {X : Type 0} (xs : List X) → Spreading xs → Full (repeated columns xs)
  spread_full xs p = repeated_length columns xs (one_or_each columns (length xs) p)

  module _ {X Y : Type 0} where
    pair_full : (rule : X → X → Result Y) (xs ys : List X) → Spreading xs → Spreading ys → IfOk Full (each_pair rule (repeated columns xs) (repeated columns ys))
    pair_full rule xs ys p q =
        value_known Full (each_pair rule (repeated columns xs) (repeated columns ys))
        (λ zs e. omega (arith, pair_length rule (repeated columns xs) (repeated columns ys) e, spread_full xs p, spread_full ys q))

    each_full : (rule : X → Result Y) (xs : List X) → Spreading xs → IfOk Full (each rule (repeated columns xs))
    each_full rule xs p = value_known Full (each rule (repeated columns xs)) (λ zs e. each_length rule (repeated columns xs) e ∙ spread_full xs p)

  module _ {X : Type 0} (same : X → X → Bool) where
    lists_full : (op : List X → List X → Result (List X)) (ls ms : List (List X)) → Spreading ls × Spreading ms
        → IfOk Full (each_pair op (standardized same columns ls) (standardized same columns ms))
    unfolding standardized
    lists_full op ls ms p = pair_full op (map (firsts same) ls) (map (firsts same) ms) (rw length-map p.0) (rw length-map p.1)

    maps_full : (op : List X → Result (List X)) (ls : List (List X)) → Spreading ls → IfOk Full (each op (standardized same columns ls))
    unfolding standardized
    maps_full op ls p = each_full op (map (firsts same) ls) (rw length-map p)

  module _ {E : Type 0} (rule : Span E → Span E → Result (Span E)) where
    range_full : (xs ys : List (Span E)) → IfOk Full (range_pair rule columns xs ys)
    unfolding range_pair
    range_full xs ys = value_passed Full _ _ (λ passing. pair_full rule xs ys (not-false _ passing.0) (not-false _ passing.1.0))

    alone_full : (xs : List (Span E)) → IfOk Full (range_alone rule columns xs)
    unfolding range_alone
    alone_full xs = value_passed Full _ _ (λ passing. each_full (λ x. rule x x) xs (not-false _ passing.0))

-- ---- natures

-- 29 of an operand, and of two
abbrev Spread : ℕ → Nature → Type 0
Spread columns k = spreads columns (entry_count k) ≡ true

abbrev BothSpread : ℕ → Nature → Nature → Type 0
BothSpread columns l r = Spread columns l × Spread columns r

-- absent, or an entry or a list for each column
abbrev PerColumn : ℕ → Nature → Type 0
PerColumn columns k = (k ≡ absent) ⊎ (entry_count k ≡ columns)

both_spread : (columns : ℕ) (l r : Nature) → Passing (both_list_checks columns l r) → BothSpread columns l r
both_spread columns l r p = (not-false _ p.1.1.0, not-false _ p.1.1.1.1.1.0)

-- how many lists a nature has of a kind: its own, or none
abbrev of_kind : ℕ → Nature → ℕ
of_kind kind k = cond (eqb kind (nature_number k)) (entry_count k) 0

own_lists : (k : Nature)
    → (length (whole_lists_of k) ≡ of_kind whole_lists_nature k) × (length (bool_lists_of k) ≡ of_kind bool_lists_nature k) × (length (text_lists_of k) ≡ of_kind text_lists_nature k)
own_lists absent = (refl, refl, refl)
own_lists (whole_range rs) = (refl, refl, refl)
own_lists (float_range rs) = (refl, refl, refl)
own_lists (whole_lists ls) = (refl, refl, refl)
own_lists (bool_lists ls) = (refl, refl, refl)
own_lists (float_lists ls) = (refl, refl, refl)
own_lists (text_lists ls) = (refl, refl, refl)

-- by 21, right's lists are of left's kind
kind_spread : (columns : ℕ) (l r : Nature) {n : ℕ} → Passing (both_list_checks columns l r) → n ≡ of_kind (nature_number l) r → Spread columns l × (spreads columns n ≡ true)
kind_spread columns l r p e =
    let s = both_spread columns l r p in
    (s.0, rw (e, not-false (eqb (nature_number l) (nature_number r)) p.1.1.1.1.1.1.0) s.1)

module _ (c : Component) (type columns : ℕ) where
  nature_counted : {X : Type 0} (to : List X → Nature) → ((xs : List X) → entry_count (to xs) ≡ length xs) → (g : Result (List X)) → IfOk (Full columns) g
      → IfOk (PerColumn columns) (and_then g (λ xs. ok (to xs)))
  nature_counted to h g full = value_then (Full columns) (PerColumn columns) g _ full (λ xs e. inr (h xs ∙ e))

  united_counted : (l r : Nature) → Passing (both_list_checks columns l r) → IfOk (PerColumn columns) (united_nature columns l r)
  unfolding united
  united_counted absent r p = inl refl
  united_counted (whole_range rs) r p = inl refl
  united_counted (float_range rs) r p = inl refl
  united_counted (whole_lists ls) r p =
      nature_counted whole_lists (λ ns. refl) (united eq_z columns ls (whole_lists_of r))
      (lists_full columns eq_z (union eq_z) ls (whole_lists_of r) (kind_spread columns (whole_lists ls) r p (own_lists r).0))
  united_counted (bool_lists ls) r p =
      nature_counted bool_lists (λ ns. refl) (united eqb columns ls (bool_lists_of r))
      (lists_full columns eqb (union eqb) ls (bool_lists_of r) (kind_spread columns (bool_lists ls) r p (own_lists r).1))
  united_counted (float_lists ls) r p = inl refl
  united_counted (text_lists ls) r p =
      nature_counted text_lists (λ ns. refl) (united same_text columns ls (text_lists_of r))
      (lists_full columns same_text (union same_text) ls (text_lists_of r) (kind_spread columns (text_lists ls) r p (own_lists r).2))

  limited_counted : (limit : ℕ) (g : Result (List (List ℤ))) → IfOk (Full columns) g → IfOk (PerColumn columns) (limited limit g)
  limited_counted limit g full = value_then (Full columns) (PerColumn columns) g _ full (λ ns e. kept_to_lem (PerColumn columns) limit (whole_lists ns) (inr e))

  combined_counted : (F : Form) (l r : Nature) → Passing (both_list_checks columns l r) → IfOk (PerColumn columns) (combined_nature F c type columns l r)
  unfolding combined
  combined_counted F absent r p = tt
  combined_counted F (whole_range rs) r p = tt
  combined_counted F (float_range rs) r p = tt
  combined_counted F (whole_lists ls) r p =
      ruled_value (PerColumn columns) (category_rule c type) _
      (λ rule.
      limited_counted F.category_limit (combined eq_z rule columns ls (whole_lists_of r))
      (lists_full columns eq_z (product eq_z rule) ls (whole_lists_of r) (kind_spread columns (whole_lists ls) r p (own_lists r).0)))
  combined_counted F (bool_lists ls) r p = tt
  combined_counted F (float_lists ls) r p = tt
  combined_counted F (text_lists ls) r p =
      ruled_value (PerColumn columns) (text_rule c) _
      (λ rule.
      value_then (Full columns) (PerColumn columns) (combined same_text rule columns ls (text_lists_of r)) _
      (lists_full columns same_text (product same_text rule) ls (text_lists_of r) (kind_spread columns (text_lists ls) r p (own_lists r).2))
      (λ ns e. kept_value (PerColumn columns) F (text_lists ns) (inr e)))

  -- two natures, of which two of categories are counted together
  two_counted : (together : Nature → Nature → Result Nature) (l r : Nature) → IfOk (PerColumn columns) (together l r) → IfOk (PerColumn columns) (two_natures c type columns together l r)
  two_counted together l r h =
      two_natures_lem (λ g. IfOk (PerColumn columns) g) c type columns together (inl refl) tt l r
      (λ xs ys e f. nature_counted whole_range (λ zs. refl) (range_pair (whole_rule c type) columns xs ys) (range_full columns (whole_rule c type) xs ys))
      (λ xs ys e f. nature_counted float_range (λ zs. refl) (range_pair (end_rule float c) columns xs ys) (range_full columns (end_rule float c) xs ys))
      h

  binary_counted : (F : Form) (l r : Nature) → IfOk (PerColumn columns) (binary_nature F c type columns l r)
  unfolding lists_pair
  binary_counted F l r =
      two_counted (lists_pair F c type columns) l r (value_passed (PerColumn columns) (both_list_checks columns l r) _ (λ passing. combined_counted F l r passing))

  pool_counted : (l r : Nature) → IfOk (PerColumn columns) (pool_nature c type columns l r)
  unfolding lists_united
  pool_counted l r = two_counted (lists_united columns) l r (value_passed (PerColumn columns) (both_list_checks columns l r) _ (λ passing. united_counted l r passing))

  unary_counted : (limit : ℕ) (l : Nature) → IfOk (PerColumn columns) (unary_nature limit c type columns l)
  unfolding unary_nature lists_alone mapped
  unary_counted limit absent = inl refl
  unary_counted limit (whole_range xs) = nature_counted whole_range (λ zs. refl) (range_alone (end_rule whole c) columns xs) (alone_full columns (end_rule whole c) xs)
  unary_counted limit (float_range xs) = nature_counted float_range (λ zs. refl) (range_alone (end_rule float c) columns xs) (alone_full columns (end_rule float c) xs)
  unary_counted limit (whole_lists ls) =
      value_passed (PerColumn columns) (list_checks columns (whole_lists ls)) _
      (λ passing.
      ruled_value (PerColumn columns) (category_rule c type) _
      (λ rule. limited_counted limit (mapped eq_z rule columns ls) (maps_full columns eq_z (image eq_z rule) ls (not-false _ passing.1.1.0))))
  unary_counted limit (bool_lists ls) = value_passed (PerColumn columns) (list_checks columns (bool_lists ls)) _ (λ passing. tt)
  unary_counted limit (float_lists ls) = value_passed (PerColumn columns) (list_checks columns (float_lists ls)) _ (λ passing. tt)
  unary_counted limit (text_lists ls) = value_passed (PerColumn columns) (list_checks columns (text_lists ls)) _ (λ passing. tt)

-- ---- operands, whose lists 29 has counted

module _ (F : Form) (c : Component) (type columns : ℕ) where
  lists_spread : (l : Nature) → IfOk (λ k. Spread columns l) (lists_alone F.category_limit c type columns l)
  unfolding lists_alone
  lists_spread l = passed_so (Spread columns l) (list_checks columns l) _ (λ passing. not-false _ passing.1.1.0)

  alone_spread : (l : Nature) → is_lists l ≡ true → IfOk (λ k. Spread columns l) (unary_nature F.category_limit c type columns l)
  unfolding unary_nature
  alone_spread absent p = absurd (subst T (sym p) tt)
  alone_spread (whole_range xs) p = absurd (subst T (sym p) tt)
  alone_spread (float_range xs) p = absurd (subst T (sym p) tt)
  alone_spread (whole_lists ls) p = lists_spread (whole_lists ls)
  alone_spread (bool_lists ls) p = lists_spread (bool_lists ls)
  alone_spread (float_lists ls) p = lists_spread (float_lists ls)
  alone_spread (text_lists ls) p = lists_spread (text_lists ls)

  both_passed : (l r : Nature) (rest : Result Nature) → IfOk (λ k. BothSpread columns l r) (checked (both_list_checks columns l r) rest)
  both_passed l r rest = passed_so (BothSpread columns l r) (both_list_checks columns l r) rest (both_spread columns l r)

  module _ (l r : Nature) (p : is_lists l ≡ true) (q : is_lists r ≡ true) where
    pair_spread : IfOk (λ k. BothSpread columns l r) (binary_nature F c type columns l r)
    unfolding lists_pair
    pair_spread = rw (categories_together c type columns (lists_pair F c type columns) l r p q) (both_passed l r _)

    pool_spread : IfOk (λ k. BothSpread columns l r) (pool_nature c type columns l r)
    unfolding lists_united
    pool_spread = rw (categories_together c type columns (lists_united columns) l r p q) (both_passed l r _)

-- ---- sheets

module _ (F : Form) (c : Component) (l r s : Sheet) where
  pub derived_counted : derive F c l r ≡ ok s → (s.nature ≡ absent) ⊎ (s.fields.columns ≡ some (entry_count s.nature))
  derived_counted e =
      let h = of_derived F c l r PerColumn (go (family_of c)) e in
      ⊎_elim (λ a. inl a) (λ a. inr (h.0 ∙ ap some (sym a))) h.1
    where
      go : (f : Family) (columns : ℕ) → IfOk (PerColumn columns) (nature_by F c f columns l r)
      go Fam.Unary columns = unary_counted c l.fields.data_type columns F.category_limit l.nature
      go Fam.Pair columns = binary_counted c l.fields.data_type columns F l.nature r.nature
      go Fam.Copy columns = binary_counted c l.fields.data_type columns F l.nature r.nature
      go Fam.Pool columns = pool_counted c l.fields.data_type columns l.nature r.nature

  pub maps_counted : family_of c ≡ Fam.Unary → derive F c l r ≡ ok s → is_lists l.nature ≡ true → spreads (columns_of s.fields) (entry_count l.nature) ≡ true
  maps_counted u e p = (of_derived F c l r (λ columns k. Spread columns l.nature) (λ columns. rw u (alone_spread F c l.fields.data_type columns l.nature p)) e).1

  pub pairs_counted : is_unary (family_of c) ≡ false → derive F c l r ≡ ok s → is_lists l.nature ≡ true → is_lists r.nature ≡ true
      → (spreads (columns_of s.fields) (entry_count l.nature) ≡ true) × (spreads (columns_of s.fields) (entry_count r.nature) ≡ true)
  pairs_counted u e p q = (of_derived F c l r (λ columns k. BothSpread columns l.nature r.nature) (go (family_of c) u) e).1
    where
      go : (f : Family) → is_unary f ≡ false → (columns : ℕ) → IfOk (λ k. BothSpread columns l.nature r.nature) (nature_by F c f columns l r)
      go Fam.Unary u columns = absurd (subst T u tt)
      go Fam.Pair u columns = pair_spread F c l.fields.data_type columns l.nature r.nature p q
      go Fam.Copy u columns = pair_spread F c l.fields.data_type columns l.nature r.nature p q
      go Fam.Pool u columns = pool_spread F c l.fields.data_type columns l.nature r.nature p q
