-- The ranges of a derived sheet are what the end rules make of its operands' ranges, entry by entry; whatever else a component derives is no range.
--     derived_ranges    what holds of entries under every end rule holds of every entry of a derived sheet, 16 of Modulo included
-- Assumes nothing.
use mathlib.Core.Path.{◌≡◌, subst}
use mathlib.Core.Bool.{true}
use mathlib.Core.List.{List}
use Prim.Native.Nat.{ℕ}
use lib.IntN.{ℤ}
use lib.Ieee.{Float}
use borrow.Author.Tests.{not-false}
use Rattle.numbers.specs.Result.{Result, Check}
use Rattle.numbers.specs.Kind.{Span, whole, float}
use Rattle.utilities.specs.Lists.{repeated}
use Rattle.base.specs.Form.{Form}
use Rattle.base.specs.Sheet.{Nature, absent, whole_range, float_range, whole_lists, bool_lists, float_lists, text_lists, Sheet}
use Rattle.base.specs.Bounds.{positive, every_entry, lowers_positive}
use Rattle.base.specs.declared.Component.{Component}
use Rattle.base.specs.declared.Component.TheVariants as C
use Rattle.base.specs.declared.Family.{Family}
use Rattle.base.specs.declared.Family.TheVariants as Fam
use Rattle.ends.specs.Ends.{end_rule}
use Rattle.ends.specs.Ranges.{whole_rule, range_pair, range_alone}
use Rattle.orders.specs.Orders.{pair_checks, copy_checks, pool_checks}
use Rattle.orders.proofs.Passing.{Passing}
use Rattle.calls.specs.Natures.{lists_united, lists_pair, lists_alone, two_natures, binary_nature, pool_nature, unary_nature}
use Rattle.calls.specs.Derive.{derive_unary, derive_pair, derive_copy, derive_pool, derive_by, derive}
use Rattle.round_trip.specs.WellFormed.{Each}
use Rattle.derived.proofs.Each.{each_repeated, each_both, each_any, every_each}
use Rattle.derived.proofs.Values.{IfOk, value_more, value_then, value_passed, each_values, pair_values}
use Rattle.derived.proofs.Fitted.{Any}
use Rattle.derived.proofs.Natures.{two_natures_lem, OfLists, mapped_lists, paired_lists, united_lists}
use Rattle.derived.proofs.Families.{checks_by, nature_by, OverColumns, by_family}
use Rattle.derived.proofs.Ordered.{Asked}

-- P of every entry of a whole range, S of every entry of a float range
abbrev pub OfEntries : (Span ℤ → Type 0) → (Span Float → Type 0) → Nature → Type 0
OfEntries P S absent = Unit {0}
OfEntries P S (whole_range rs) = Each P rs
OfEntries P S (float_range rs) = Each S rs
OfEntries P S (whole_lists ls) = Unit {0}
OfEntries P S (bool_lists ls) = Unit {0}
OfEntries P S (float_lists ls) = Unit {0}
OfEntries P S (text_lists ls) = Unit {0}

-- ---- lists of entries

module _ {E : Type 0} (P P' Q : Span E → Type 0) (rule : Span E → Span E → Result (Span E)) (columns : ℕ) where
  range_values : ((x y : Span E) → P x → P' y → IfOk Q (rule x y)) → (xs ys : List (Span E)) → Each P xs → Each P' ys → IfOk (Each Q) (range_pair rule columns xs ys)
  unfolding range_pair
  range_values h xs ys p q =
      value_passed (Each Q) _ _
      (λ passing. pair_values P P' Q rule h (repeated columns xs) (repeated columns ys) (each_repeated P columns xs p) (each_repeated P' columns ys q))

  alone_values : ((x : Span E) → P x → IfOk Q (rule x x)) → (xs : List (Span E)) → Each P xs → IfOk (Each Q) (range_alone rule columns xs)
  unfolding range_alone
  alone_values h xs p = value_passed (Each Q) _ _ (λ passing. each_values P P' Q (λ x. rule x x) h (repeated columns xs) (each_repeated P columns xs p))

-- ---- what is asked of the right: nothing, or by 16 of Modulo a lower above 0

any_right : (k : Nature) → OfEntries Any Any k
any_right absent = tt
any_right (whole_range rs) = each_any rs
any_right (float_range rs) = each_any rs
any_right (whole_lists ls) = tt
any_right (bool_lists ls) = tt
any_right (float_lists ls) = tt
any_right (text_lists ls) = tt

positive_right : (k : Nature) → lowers_positive k ≡ true → OfEntries (Asked whole C.Modulo) (Asked float C.Modulo) k
unfolding lowers_positive every_entry
positive_right absent e = tt
positive_right (whole_range rs) e = every_each (λ r. positive whole r.lower) rs e
positive_right (float_range rs) e = every_each (λ r. positive float r.lower) rs e
positive_right (whole_lists ls) e = tt
positive_right (bool_lists ls) e = tt
positive_right (float_lists ls) e = tt
positive_right (text_lists ls) e = tt

-- the end rules make entries that are Q and T of entries that are P and S
module _ (P Q : Span ℤ → Type 0) (S T : Span Float → Type 0)
    (wholes : (c : Component) (type : ℕ) (x y : Span ℤ) → P x → P y → Asked whole c y → IfOk Q (whole_rule c type x y))
    (floats : (c : Component) (x y : Span Float) → S x → S y → Asked float c y → IfOk T (end_rule float c x y)) where
  abbrev Operand : Nature → Type 0
  Operand = OfEntries P S

  abbrev Derived : Nature → Type 0
  Derived = OfEntries Q T

  module _ (c : Component) (type columns : ℕ) where
    abbrev Right : Nature → Type 0
    Right = OfEntries (Asked whole c) (Asked float c)

    -- ---- categories make no range

    no_range : OfLists Derived
    no_range = record { nothing = tt; wholes = λ ls h. tt; bools = λ ls h. tt; texts = λ ls h. tt }

    alone_value : (limit : ℕ) (l : Nature) → IfOk Derived (lists_alone limit c type columns l)
    alone_value = mapped_lists Derived no_range c type columns

    -- ---- two natures, of which two categories make no range together

    two_values : (together : Nature → Nature → Result Nature) (l r : Nature) → Operand l → Operand r → Right r → IfOk Derived (together l r)
        → IfOk Derived (two_natures c type columns together l r)
    two_values together l r p q h k =
        two_natures_lem (λ g. IfOk Derived g) c type columns together tt tt l r
        (λ xs ys e f.
        value_then (Each Q) Derived (range_pair (whole_rule c type) columns xs ys) _
        (range_values P (λ y. P y × Asked whole c y) Q (whole_rule c type) columns (λ x y p q. wholes c type x y p q.0 q.1) xs ys (subst Operand e p)
        (each_both P (Asked whole c) ys (subst Operand f q) (subst Right f h)))
        (λ zs m. m))
        (λ xs ys e f.
        value_then (Each T) Derived (range_pair (end_rule float c) columns xs ys) _
        (range_values S (λ y. S y × Asked float c y) T (end_rule float c) columns (λ x y p q. floats c x y p q.0 q.1) xs ys (subst Operand e p)
        (each_both S (Asked float c) ys (subst Operand f q) (subst Right f h)))
        (λ zs m. m))
        k

    binary_values : (F : Form) (l r : Nature) → Operand l → Operand r → Right r → IfOk Derived (binary_nature F c type columns l r)
    binary_values F l r p q h = two_values (lists_pair F c type columns) l r p q h (paired_lists Derived no_range c type columns F l r)

    pool_values : (l r : Nature) → Operand l → Operand r → Right r → IfOk Derived (pool_nature c type columns l r)
    pool_values l r p q h = two_values (lists_united columns) l r p q h (united_lists Derived no_range c type columns l r)

    unary_values : (limit : ℕ) (l : Nature) → ((x : Span ℤ) → P x → IfOk Q (end_rule whole c x x)) → ((x : Span Float) → S x → IfOk T (end_rule float c x x))
        → Operand l → IfOk Derived (unary_nature limit c type columns l)
    unfolding unary_nature
    unary_values limit absent f g p = tt
    unary_values limit (whole_range xs) f g p = value_then (Each Q) Derived (range_alone (end_rule whole c) columns xs) _ (alone_values P P Q (end_rule whole c) columns f xs p) (λ zs r. r)
    unary_values limit (float_range xs) f g p = value_then (Each T) Derived (range_alone (end_rule float c) columns xs) _ (alone_values S S T (end_rule float c) columns g xs p) (λ zs r. r)
    unary_values limit (whole_lists ls) f g p = alone_value limit (whole_lists ls)
    unary_values limit (bool_lists ls) f g p = alone_value limit (bool_lists ls)
    unary_values limit (float_lists ls) f g p = alone_value limit (float_lists ls)
    unary_values limit (text_lists ls) f g p = alone_value limit (text_lists ls)

  -- ---- the sheet

  abbrev DerivedSheet : Sheet → Type 0
  DerivedSheet s = Derived s.nature

  module _ (F : Form) (c : Component) (l r : Sheet) (p : Operand l.nature) (q : Operand r.nature) where
    -- what a family's checks leave of the right
    abbrev Rightly : List Check → Type 0
    Rightly cs = Passing cs → OfEntries (Asked whole c) (Asked float c) r.nature

    ranges_by : (f : Family) → ((columns : ℕ) → Passing (checks_by c f l r) → IfOk Derived (nature_by F c f columns l r)) → IfOk DerivedSheet (derive_by F c f l r)
    ranges_by f h =
        value_more (OverColumns (λ columns k. Derived k)) DerivedSheet (derive_by F c f l r) (by_family F c l r (λ columns k. Derived k) f h) (λ s m. m.1)

    pair_ranges : Rightly (pair_checks l r) → IfOk DerivedSheet (derive_pair F c l r)
    pair_ranges h = ranges_by Fam.Pair (λ columns passing. binary_values c l.fields.data_type columns F l.nature r.nature p q (h passing))

    copy_ranges : Rightly (copy_checks c l r) → IfOk DerivedSheet (derive_copy F c l r)
    copy_ranges h = ranges_by Fam.Copy (λ columns passing. binary_values c l.fields.data_type columns F l.nature r.nature p q (h passing))

    pool_ranges : Rightly (pool_checks l r) → IfOk DerivedSheet (derive_pool F c l r)
    pool_ranges h = ranges_by Fam.Pool (λ columns passing. pool_values c l.fields.data_type columns l.nature r.nature p q (h passing))

    unary_ranges : ((x : Span ℤ) → P x → IfOk Q (end_rule whole c x x)) → ((x : Span Float) → S x → IfOk T (end_rule float c x x)) → IfOk DerivedSheet (derive_unary F c l)
    unary_ranges f g = ranges_by Fam.Unary (λ columns passing. unary_values c l.fields.data_type columns F.category_limit l.nature f g p)

  pub derived_ranges : (F : Form) (c : Component) (l r : Sheet) → Operand l.nature → Operand r.nature → IfOk DerivedSheet (derive F c l r)
  unfolding derive whole_rule
  derived_ranges F C.Abs l r p q = unary_ranges F C.Abs l r p q (λ x h. wholes C.Abs 0 x x h h tt) (λ x h. floats C.Abs x x h h tt)
  derived_ranges F C.Add l r p q = pair_ranges F C.Add l r p q (λ passing. any_right r.nature)
  derived_ranges F C.Subtract l r p q = pair_ranges F C.Subtract l r p q (λ passing. any_right r.nature)
  derived_ranges F C.Multiply l r p q = pair_ranges F C.Multiply l r p q (λ passing. any_right r.nature)
  derived_ranges F C.Divide l r p q = pair_ranges F C.Divide l r p q (λ passing. any_right r.nature)
  derived_ranges F C.Modulo l r p q =
      copy_ranges F C.Modulo l r p q (λ passing. positive_right r.nature (not-false (lowers_positive r.nature) passing.1.1.1.1.1.1.0))
  derived_ranges F C.Log l r p q = copy_ranges F C.Log l r p q (λ passing. any_right r.nature)
  derived_ranges F C.Power l r p q = copy_ranges F C.Power l r p q (λ passing. any_right r.nature)
  derived_ranges F C.Negative l r p q = unary_ranges F C.Negative l r p q (λ x h. wholes C.Negative 0 x x h h tt) (λ x h. floats C.Negative x x h h tt)
  derived_ranges F C.Pool l r p q = pool_ranges F C.Pool l r p q (λ passing. any_right r.nature)
