-- Pool's nature is never refused by 26 or 28, which come behind the rows' 24.
--     Early          a value, or a refusal that does not come behind the rows
--     pool_early     Pool's nature
-- Assumes nothing.
use mathlib.Core.Path.{◌≡◌, refl, sym, ap, subst, ◌∙◌}
use mathlib.Core.Bool.{Bool, true, false, cond, not}
use mathlib.Core.List.{List, [], ◌∷◌}
use mathlib.Core.Option.{Option, none, some}
use Prim.Native.Nat.{ℕ}
use lib.IntN.{ℤ}
use lib.Ieee.{Float}
use lib.Dec.{T, eqb}
use borrow.Author.Tests.{not-true}
use Rattle.numbers.specs.Result.{Result, ok, refused, and_then, Check, checked}
use Rattle.numbers.specs.Kind.{Kind, Span, whole, float, eq_z, lesser, greater}
use Rattle.utilities.specs.Lists.{every, repeated, standardized}
use Rattle.utilities.specs.Columns.{each_pair}
use Rattle.utilities.proofs.Built.{both_hold}
use Rattle.base.specs.Sheet.{Nature, absent, whole_range, float_range, whole_lists, bool_lists, float_lists, text_lists}
use Rattle.base.specs.Components.{family_of}
use Rattle.base.specs.declared.Component.{Component}
use Rattle.base.specs.declared.Component.TheVariants as C
use Rattle.base.specs.declared.Family.{Family}
use Rattle.base.specs.declared.Family.TheVariants as Fam
use Rattle.ends.specs.Ends.{from_two, pool_ends, end_rule}
use Rattle.ends.specs.Ranges.{whole_rule, range_pair}
use Rattle.category_lists.specs.Categories.{same_text, union, united}
use Rattle.calls.specs.Natures.{whole_lists_of, bool_lists_of, text_lists_of, both_list_checks, united_nature, lists_united, whole_range_with, float_range_with, lists_with, two_natures, pool_nature}
use Rattle.pool_fields.specs.Code.{late}

-- a value, or a refusal that does not come behind the rows
abbrev pub Early : {X : Type 0} → Result X → Type 0
Early (ok x) = Unit {0}
Early (refused k) = late k ≡ false

then_early : {X Y : Type 0} (g : Result X) (rest : X → Result Y) → Early g → ((x : X) → Early (rest x)) → Early (and_then g rest)
then_early (ok x) rest p f = f x
then_early (refused k) rest p f = p

cond_early : {X : Type 0} (t : Bool) (k : ℕ) (rest : Result X) → late k ≡ false → Early rest → Early (cond t (refused k) rest)
cond_early true k rest h p = h
cond_early false k rest h p = p

checked_early : {X : Type 0} (cs : List Check) (rest : Result X) → every (λ c. not (late c.number)) cs ≡ true → Early rest → Early (checked cs rest)
unfolding checked every
checked_early [] rest e p = p
checked_early (c ∷ cs) rest e p =
    let b = both_hold (not (late c.number)) (every (λ c. not (late c.number)) cs) e in
    cond_early c.fails c.number (checked cs rest) (not-true (late c.number) b.0) (checked_early cs rest b.1 p)

each_early : {X Y : Type 0} (rule : X → X → Result Y) → ((x y : X) → Early (rule x y)) → (xs ys : List X) → Early (each_pair rule xs ys)
unfolding each_pair
each_early rule h [] ys = tt
each_early rule h (x ∷ xs) [] = tt
each_early rule h (x ∷ xs) (y ∷ ys) = then_early (rule x y) _ (h x y) (λ z. then_early (each_pair rule xs ys) _ (each_early rule h xs ys) (λ zs. tt))

range_early : {E : Type 0} (rule : Span E → Span E → Result (Span E)) → ((x y : Span E) → Early (rule x y)) → (columns : ℕ) (xs ys : List (Span E)) → Early (range_pair rule columns xs ys)
unfolding range_pair every
range_early rule h columns xs ys = checked_early _ (each_pair rule (repeated columns xs) (repeated columns ys)) refl (each_early rule h (repeated columns xs) (repeated columns ys))

two_early : {E : Type 0} (op : E → E → E) (x y : Option E) → Early (from_two (λ a b. ok (op a b)) x y)
unfolding from_two
two_early op none y = tt
two_early op (some a) none = tt
two_early op (some a) (some b) = tt

-- no end of Pool is computed
ends_early : {E : Type 0} (K : Kind E) (x y : Span E) → Early (pool_ends K x y)
unfolding pool_ends
ends_early K x y =
    let low = from_two (λ a d. ok (lesser K a d)) x.lower y.lower in
    let high = from_two (λ c f. ok (greater K f c)) x.upper y.upper in
    then_early low _ (two_early (λ a d. lesser K a d) x.lower y.lower) (λ l. then_early high _ (two_early (λ c f. greater K f c) x.upper y.upper) (λ u. tt))

union_early : {X : Type 0} (same : X → X → Bool) (columns : ℕ) (ls ms : List (List X)) → Early (united same columns ls ms)
unfolding united union
union_early same columns ls ms = each_early (union same) (λ us bs. tt) (standardized same columns ls) (standardized same columns ms)

united_early : (columns : ℕ) (l r : Nature) → Early (united_nature columns l r)
united_early columns absent r = tt
united_early columns (whole_range xs) r = tt
united_early columns (float_range xs) r = tt
united_early columns (whole_lists ls) r = then_early (united eq_z columns ls (whole_lists_of r)) _ (union_early eq_z columns ls (whole_lists_of r)) (λ ns. tt)
united_early columns (bool_lists ls) r = then_early (united eqb columns ls (bool_lists_of r)) _ (union_early eqb columns ls (bool_lists_of r)) (λ ns. tt)
united_early columns (float_lists ls) r = tt
united_early columns (text_lists ls) r = then_early (united same_text columns ls (text_lists_of r)) _ (union_early same_text columns ls (text_lists_of r)) (λ ns. tt)

together_early : (columns : ℕ) (l r : Nature) → Early (lists_united columns l r)
unfolding lists_united every
together_early columns l r = checked_early (both_list_checks columns l r) (united_nature columns l r) refl (united_early columns l r)

module _ (type columns : ℕ) where
  whole_early : (xs : List (Span ℤ)) (r : Nature) → Early (whole_range_with C.Pool type columns (lists_united columns) xs r)
  unfolding whole_range_with whole_rule end_rule
  whole_early xs absent = tt
  whole_early xs (whole_range ys) = then_early (range_pair (whole_rule C.Pool type) columns xs ys) _ (range_early (whole_rule C.Pool type) (ends_early whole) columns xs ys) (λ zs. tt)
  whole_early xs (float_range ys) = refl
  whole_early xs (whole_lists ms) = tt
  whole_early xs (bool_lists ms) = tt
  whole_early xs (float_lists ms) = tt
  whole_early xs (text_lists ms) = tt

  float_early : (xs : List (Span Float)) (r : Nature) → Early (float_range_with C.Pool type columns (lists_united columns) xs r)
  unfolding float_range_with end_rule
  float_early xs absent = tt
  float_early xs (whole_range ys) = refl
  float_early xs (float_range ys) = then_early (range_pair (end_rule float C.Pool) columns xs ys) _ (range_early (end_rule float C.Pool) (ends_early float) columns xs ys) (λ zs. tt)
  float_early xs (whole_lists ms) = tt
  float_early xs (bool_lists ms) = tt
  float_early xs (float_lists ms) = tt
  float_early xs (text_lists ms) = tt

  lists_early : (l r : Nature) → Early (lists_with C.Pool type columns (lists_united columns) l r)
  unfolding lists_with
  lists_early l absent = tt
  lists_early l (whole_range ys) = tt
  lists_early l (float_range ys) = tt
  lists_early l (whole_lists ms) = together_early columns l (whole_lists ms)
  lists_early l (bool_lists ms) = together_early columns l (bool_lists ms)
  lists_early l (float_lists ms) = together_early columns l (float_lists ms)
  lists_early l (text_lists ms) = together_early columns l (text_lists ms)

  two_natures_early : (l r : Nature) → Early (pool_nature C.Pool type columns l r)
  unfolding two_natures
  two_natures_early absent r = tt
  two_natures_early (whole_range xs) r = whole_early xs r
  two_natures_early (float_range xs) r = float_early xs r
  two_natures_early (whole_lists ls) r = lists_early (whole_lists ls) r
  two_natures_early (bool_lists ls) r = lists_early (bool_lists ls) r
  two_natures_early (float_lists ls) r = lists_early (float_lists ls) r
  two_natures_early (text_lists ls) r = lists_early (text_lists ls) r

-- the family has one component
abbrev is_pool : Family → Bool
is_pool Fam.Unary = false
is_pool Fam.Pair = false
is_pool Fam.Copy = false
is_pool Fam.Pool = true

no_pool : {f : Family} → is_pool f ≡ false → f ≡ Fam.Pool → ⊥
no_pool h e = subst T (sym (ap is_pool e) ∙ h) tt

is_pool_lem : (c : Component) → family_of c ≡ Fam.Pool → c ≡ C.Pool
is_pool_lem C.Abs e = absurd (no_pool refl e)
is_pool_lem C.Add e = absurd (no_pool refl e)
is_pool_lem C.Subtract e = absurd (no_pool refl e)
is_pool_lem C.Multiply e = absurd (no_pool refl e)
is_pool_lem C.Divide e = absurd (no_pool refl e)
is_pool_lem C.Modulo e = absurd (no_pool refl e)
is_pool_lem C.Log e = absurd (no_pool refl e)
is_pool_lem C.Power e = absurd (no_pool refl e)
is_pool_lem C.Negative e = absurd (no_pool refl e)
is_pool_lem C.Pool e = refl

pub pool_early : (c : Component) → family_of c ≡ Fam.Pool → (type columns : ℕ) (l r : Nature) → Early (pool_nature c type columns l r)
pool_early c e type columns l r = subst (λ (c : Component). Early (pool_nature c type columns l r)) (sym (is_pool_lem c e)) (two_natures_early type columns l r)
