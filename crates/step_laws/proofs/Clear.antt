-- The numbers that a step may refuse with, rule by rule: below 30, and not 25 (`given`). Every rule but that of categories under Int Power keeps to them.
-- Assumes nothing.
use mathlib.Core.Path.{◌≡◌, refl, sym, ap, subst, ◌∙◌}
use mathlib.Core.Bool.{Bool, true, false, cond, not, ◌&&◌, ◌||◌}
use mathlib.Core.List.{List, [], ◌∷◌}
use mathlib.Core.Option.{Option, none, some}
use Prim.Native.Nat.{ℕ}
use lib.IntN.{ℤ, pos, nat_abs, neg_ℤ, ◌+ℤ◌, ◌-ℤ◌, ◌*ℤ◌}
use lib.Dec.{T, eqb, ltb}
use lib.ListN.{length}
use Rattle.numbers.specs.Result.{Result, ok, refused, and_then, Check, check, checked}
use Rattle.numbers.specs.Checked.{checked_of, quotient_of}
use Rattle.numbers.specs.Kind.{Kind, Span, whole, float, fitting}
use Rattle.std.specs.declared.option.Option as Rust
use Rattle.std.specs.declared.option.Option.TheVariants.{Some, None}
use Rattle.utilities.specs.Lists.{every, standardized, repeated}
use Rattle.utilities.proofs.Built.{both_hold}
use Rattle.utilities.specs.Columns.{spreads, each, each_pair}
use Rattle.base.specs.Form.{Form, int_type}
use Rattle.base.specs.Sheet.{Nature, whole_lists}
use Rattle.base.specs.Encode.{value_count, text_size}
use Rattle.base.specs.Components.{family_of}
use Rattle.base.specs.declared.Component.{Component}
use Rattle.base.specs.declared.Component.TheVariants as C
use Rattle.ends.specs.Ends.{both, present, from_two, from_one, from_both, add_ends, sub_ends, neg_ends, abs_lower, abs_upper, abs_ends, corners, mul_corners, mul_ends, div_corners, div_upper, div_lower, div_present, div_by, div_ends, mod_ends, pool_ends, end_rule}
use Rattle.ends.specs.Ranges.{whole_rule, range_pair, range_alone}
use Rattle.category_lists.specs.Categories.{category_rule, text_rule, pairs, product, combined, image, mapped, union, united, kept_to, text_kept, kept, limited}
use Rattle.shape.specs.Shape.{rows_sum}
use Rattle.orders.specs.Parts.{is_int_copy}
use Rattle.orders.proofs.Passing.{Passing}

-- a number that a step gives: 25 is none, and neither are 30 and what is above it
abbrev pub given : ℕ → Bool
given k = ltb k 30 && not (eqb k 25)

-- a number that is none of these is not given
pub not_given : {n : ℕ} (k : ℕ) → given k ≡ false → given n ≡ true → n ≡ k → ⊥
not_given k f h e = subst T (sym h ∙ ap given e ∙ f) tt

-- of two answers, each with its number, one is chosen
pub chosen_given : {X : Type 0} (code : X → ℕ) (t : Bool) (a b : X) → given (code a) ≡ true → given (code b) ≡ true → given (code (cond t a b)) ≡ true
chosen_given code true a b p q = p
chosen_given code false a b p q = q

-- a value, or a refusal with such a number
pub data Clear {X : Type 0} : Result X → Type 0 where
  value : {x : X} → Clear (ok x)
  other : {k : ℕ} → given k ≡ true → Clear (refused k)

pub clear_refused : {X : Type 0} {g : Result X} (k : ℕ) → Clear g → g ≡ refused k → given k ≡ true
clear_refused {X} {g} k c e = go (subst Clear e c)
  where
    go : Clear {X = X} (refused k) → given k ≡ true
    go (other h) = h

pub then_clear : {X Y : Type 0} {g : Result X} (rest : X → Result Y) → Clear g → ((x : X) → Clear (rest x)) → Clear (and_then g rest)
then_clear rest value f = f _
then_clear rest (other h) f = other h

pub cond_clear : {X : Type 0} (t : Bool) {g h : Result X} → Clear g → Clear h → Clear (cond t g h)
cond_clear true p q = p
cond_clear false p q = q

-- the checks of a list have such numbers
abbrev pub others : List Check → Bool
others cs = every (λ c. given c.number) cs

-- what follows the checks is reached only where none fails
pub checked_clear : {X : Type 0} {rest : Result X} (cs : List Check) → others cs ≡ true → (Passing cs → Clear rest) → Clear (checked cs rest)
unfolding checked every
checked_clear [] h f = f tt
checked_clear {rest} (c ∷ cs) h f =
    let b = both_hold (given c.number) (others cs) h in
    go c.fails refl b.0 (λ e. checked_clear cs b.1 (λ p. f (e, p)))
  where
    go : (t : Bool) → c.fails ≡ t → given c.number ≡ true → (c.fails ≡ false → Clear (checked cs rest))
        → Clear (cond t (refused c.number) (checked cs rest))
    go true e n next = other n
    go false e n next = next e

-- ---- arithmetic of the two kinds

fitting_clear : (c : Rust.Option ℤ) → Clear (fitting c)
fitting_clear (Some z) = value
fitting_clear None = other refl

pub record ClearKind {E : Type 0} (K : Kind E) : Type 0 where
  pub neg : (a : E) → Clear (K.neg a)
  pub add : (a b : E) → Clear (K.add a b)
  pub sub : (a b : E) → Clear (K.sub a b)
  pub mul : (a b : E) → Clear (K.mul a b)
  pub div : (a b : E) → Clear (K.div a b)
  pub last : (a : E) → Clear (K.last a)

pub whole_clear : ClearKind whole
whole_clear = record {
  neg = λ a. fitting_clear (checked_of (neg_ℤ a));
  add = λ a b. fitting_clear (checked_of (a +ℤ b));
  sub = λ a b. fitting_clear (checked_of (a -ℤ b));
  mul = λ a b. fitting_clear (checked_of (a *ℤ b));
  div = λ a b. fitting_clear (quotient_of a b);
  last = λ a. fitting_clear (checked_of (a -ℤ pos 1));
}

pub float_clear : ClearKind float
float_clear = record {
  neg = λ a. value;
  add = λ a b. value;
  sub = λ a b. value;
  mul = λ a b. value;
  div = λ a b. value;
  last = λ a. value;
}

-- the rows of Pool
pub rows_clear : (x y : Option ℤ) → Clear (rows_sum x y)
unfolding rows_sum
rows_clear none y = value
rows_clear (some a) none = value
rows_clear (some a) (some b) = then_clear _ (fitting_clear (checked_of (a +ℤ b))) (λ n. value)

-- ---- range ends

module _ {E : Type 0} where
  present_clear : {g : Result E} → Clear g → Clear (present g)
  present_clear p = then_clear _ p (λ x. value)

  both_clear : {l u : Result (Option E)} → Clear l → Clear u → Clear (both l u)
  both_clear p q = then_clear _ p (λ x. then_clear _ q (λ y. value))

  two_clear : (op : E → E → Result E) → ((a b : E) → Clear (op a b)) → (x y : Option E) → Clear (from_two op x y)
  unfolding from_two
  two_clear op f none y = value
  two_clear op f (some a) none = value
  two_clear op f (some a) (some b) = present_clear (f a b)

  one_clear : (op : E → Result E) → ((a : E) → Clear (op a)) → (x : Option E) → Clear (from_one op x)
  unfolding from_one
  one_clear op f none = value
  one_clear op f (some a) = present_clear (f a)

  ends_clear : (rule : E → E → Result (Span E)) → ((a c : E) → Clear (rule a c)) → (x y : Option E) → Clear (from_both x y rule)
  unfolding from_both
  ends_clear rule f none y = value
  ends_clear rule f (some a) none = value
  ends_clear rule f (some a) (some c) = f a c

module _ {E : Type 0} {K : Kind E} (k : ClearKind K) where
  abs_lower_clear : (a c : E) → Clear (abs_lower K a c)
  unfolding abs_lower
  abs_lower_clear a c = cond_clear (K.lt K.zero a) value (k.neg c)

  abs_upper_clear : (a c : E) → Clear (abs_upper K a c)
  unfolding abs_upper
  abs_upper_clear a c = then_clear _ (k.add a c) (λ s. cond_clear (K.lt K.zero s) value (k.neg a))

  abs_clear : (x : Span E) → Clear (abs_ends K x)
  unfolding abs_ends
  abs_clear x = ends_clear _ (λ a c. both_clear (present_clear (abs_lower_clear a c)) (present_clear (abs_upper_clear a c))) x.lower x.upper

  corners_clear : {p q r s : Result E} → Clear p → Clear q → Clear r → Clear s → Clear (corners K p q r s)
  unfolding corners
  corners_clear p q r s = then_clear _ p (λ a. then_clear _ q (λ b. then_clear _ r (λ c. then_clear _ s (λ d. value))))

  mul_clear : (x y : Span E) → Clear (mul_ends K x y)
  unfolding mul_ends mul_corners
  mul_clear x y =
      ends_clear _
      (λ a c. ends_clear _ (λ d f. corners_clear (k.mul a d) (k.mul a f) (k.mul c d) (k.mul c f)) y.lower y.upper)
      x.lower x.upper

  by_clear : (a c : E) (x y : Option E) → Clear (div_by K a c x y)
  unfolding div_by div_present div_corners div_upper div_lower
  by_clear a c none none = other refl
  by_clear a c none (some f) = cond_clear (K.lt f K.zero) value (other refl)
  by_clear a c (some d) none = cond_clear (K.lt K.zero d) value (other refl)
  by_clear a c (some d) (some f) =
      cond_clear (K.lt K.zero d || K.lt f K.zero) (corners_clear (k.div a f) (k.div a d) (k.div c f) (k.div c d))
      (cond_clear (K.is_zero d && not (K.is_zero f)) (then_clear _ (k.div a f) (λ p. then_clear _ (k.div c f) (λ q. value)))
      (cond_clear (not (K.is_zero d) && K.is_zero f) (then_clear _ (k.div a d) (λ p. then_clear _ (k.div c d) (λ q. value)))
      value))

  pub rule_clear : (c : Component) (x y : Span E) → Clear (end_rule K c x y)
  unfolding end_rule add_ends sub_ends div_ends mod_ends neg_ends pool_ends
  rule_clear C.Abs x y = abs_clear x
  rule_clear C.Add x y = both_clear (two_clear K.add k.add x.lower y.lower) (two_clear K.add k.add x.upper y.upper)
  rule_clear C.Subtract x y = both_clear (two_clear K.sub k.sub x.lower y.upper) (two_clear K.sub k.sub x.upper y.lower)
  rule_clear C.Multiply x y = mul_clear x y
  rule_clear C.Divide x y = ends_clear _ (λ a c. by_clear a c y.lower y.upper) x.lower x.upper
  rule_clear C.Modulo x y = both_clear value (one_clear K.last k.last y.upper)
  rule_clear C.Log x y = value
  rule_clear C.Power x y = value
  rule_clear C.Negative x y = both_clear (one_clear K.neg k.neg x.upper) (one_clear K.neg k.neg x.lower)
  rule_clear C.Pool x y = both_clear (two_clear _ (λ a d. value) x.lower y.lower) (two_clear _ (λ c f. value) x.upper y.upper)

pub whole_rule_clear : (c : Component) (type : ℕ) (x y : Span ℤ) → Clear (whole_rule c type x y)
unfolding whole_rule
whole_rule_clear C.Abs type x y = rule_clear whole_clear C.Abs x y
whole_rule_clear C.Add type x y = rule_clear whole_clear C.Add x y
whole_rule_clear C.Subtract type x y = rule_clear whole_clear C.Subtract x y
whole_rule_clear C.Multiply type x y = rule_clear whole_clear C.Multiply x y
whole_rule_clear C.Divide type x y = rule_clear whole_clear C.Divide x y
whole_rule_clear C.Modulo type x y = cond_clear (eqb type int_type) (rule_clear whole_clear C.Modulo x y) value
whole_rule_clear C.Log type x y = rule_clear whole_clear C.Log x y
whole_rule_clear C.Power type x y = rule_clear whole_clear C.Power x y
whole_rule_clear C.Negative type x y = rule_clear whole_clear C.Negative x y
whole_rule_clear C.Pool type x y = rule_clear whole_clear C.Pool x y

-- ---- columns

module _ {X Y : Type 0} where
  each_pair_clear : (rule : X → X → Result Y) → ((x y : X) → Clear (rule x y)) → (xs ys : List X) → Clear (each_pair rule xs ys)
  unfolding each_pair
  each_pair_clear rule f [] ys = value
  each_pair_clear rule f (x ∷ xs) [] = value
  each_pair_clear rule f (x ∷ xs) (y ∷ ys) = then_clear _ (f x y) (λ z. then_clear _ (each_pair_clear rule f xs ys) (λ zs. value))

  each_clear : (rule : X → Result Y) → ((x : X) → Clear (rule x)) → (xs : List X) → Clear (each rule xs)
  unfolding each
  each_clear rule f [] = value
  each_clear rule f (x ∷ xs) = then_clear _ (f x) (λ z. then_clear _ (each_clear rule f xs) (λ zs. value))

module _ {E : Type 0} (rule : Span E → Span E → Result (Span E)) (f : (x y : Span E) → Clear (rule x y)) (columns : ℕ) where
  pub range_pair_clear : (xs ys : List (Span E)) → Clear (range_pair rule columns xs ys)
  unfolding range_pair every
  range_pair_clear xs ys =
      checked_clear (check 18 (not (spreads columns (length xs))) ∷ check 18 (not (spreads columns (length ys))) ∷ []) refl
      (λ p. each_pair_clear rule f (repeated columns xs) (repeated columns ys))

  pub range_alone_clear : (xs : List (Span E)) → Clear (range_alone rule columns xs)
  unfolding range_alone every
  range_alone_clear xs = checked_clear (check 18 (not (spreads columns (length xs))) ∷ []) refl (λ p. each_clear _ (λ x. f x x) (repeated columns xs))

-- ---- categories

module _ {X : Type 0} (same : X → X → Bool) (rule : X → X → Result X) (f : (a b : X) → Clear (rule a b)) where
  pairs_clear : (us bs : List X) → Clear (pairs rule us bs)
  unfolding pairs
  pairs_clear [] bs = value
  pairs_clear (a ∷ us) bs = then_clear _ (each_clear (rule a) (f a) bs) (λ cs. then_clear _ (pairs_clear us bs) (λ ds. value))

  product_clear : (us bs : List X) → Clear (product same rule us bs)
  unfolding product
  product_clear us bs = then_clear _ (pairs_clear us bs) (λ cs. value)

  pub combined_clear : (columns : ℕ) (ls ms : List (List X)) → Clear (combined same rule columns ls ms)
  unfolding combined
  combined_clear columns ls ms = each_pair_clear (product same rule) product_clear (standardized same columns ls) (standardized same columns ms)

  image_clear : (us : List X) → Clear (image same rule us)
  unfolding image
  image_clear us = then_clear _ (each_clear _ (λ a. f a a) us) (λ cs. value)

  pub mapped_clear : (columns : ℕ) (ls : List (List X)) → Clear (mapped same rule columns ls)
  unfolding mapped
  mapped_clear columns ls = each_clear (image same rule) image_clear (standardized same columns ls)

module _ {X : Type 0} (same : X → X → Bool) where
  union_clear : (us bs : List X) → Clear (union same us bs)
  unfolding union
  union_clear us bs = value

  pub united_clear : (columns : ℕ) (ls ms : List (List X)) → Clear (united same columns ls ms)
  unfolding united
  united_clear columns ls ms = each_pair_clear (union same) union_clear (standardized same columns ls) (standardized same columns ms)

kept_to_clear : (limit : ℕ) (k : Nature) → Clear (kept_to limit k)
unfolding kept_to
kept_to_clear limit k = cond_clear (ltb limit (value_count k)) (other refl) value

text_kept_clear : (limit : ℕ) (k : Nature) → Clear (text_kept limit k)
unfolding text_kept
text_kept_clear limit k = cond_clear (ltb limit (text_size k)) (other refl) value

-- 26, then 28
pub kept_clear : (F : Form) (k : Nature) → Clear (kept F k)
kept_clear F k = then_clear _ (kept_to_clear F.category_limit k) (text_kept_clear F.text_limit)

pub limited_clear : (limit : ℕ) {g : Result (List (List ℤ))} → Clear g → Clear (limited limit g)
limited_clear limit p = then_clear _ p (λ ls. kept_to_clear limit (whole_lists ls))

-- a component has no rule, or one that refuses with such numbers alone
pub data ClearRule {E : Type 0} : Option (E → E → Result E) → Type 0 where
  no_rule : ClearRule none
  by_rule : {rule : E → E → Result E} → ((a b : E) → Clear (rule a b)) → ClearRule (some rule)

-- Int Power's rule is the one that may give 25
pub category_clear : (c : Component) (type : ℕ) → is_int_copy (family_of c) type ≡ false → ClearRule (category_rule c type)
unfolding category_rule
category_clear C.Abs type e = by_rule (λ a b. fitting_clear (checked_of (pos (nat_abs a))))
category_clear C.Add type e = by_rule whole_clear.add
category_clear C.Subtract type e = by_rule whole_clear.sub
category_clear C.Multiply type e = by_rule whole_clear.mul
category_clear C.Divide type e = by_rule whole_clear.div
category_clear C.Modulo type e = rw e no_rule
category_clear C.Log type e = no_rule
category_clear C.Power type e = rw e no_rule
category_clear C.Negative type e = by_rule (λ a b. whole_clear.neg a)
category_clear C.Pool type e = no_rule

-- texts are joined by Add alone
pub text_rule_clear : (c : Component) → ClearRule (text_rule c)
text_rule_clear C.Abs = no_rule
text_rule_clear C.Add = by_rule (λ x y. value)
text_rule_clear C.Subtract = no_rule
text_rule_clear C.Multiply = no_rule
text_rule_clear C.Divide = no_rule
text_rule_clear C.Modulo = no_rule
text_rule_clear C.Log = no_rule
text_rule_clear C.Power = no_rule
text_rule_clear C.Negative = no_rule
text_rule_clear C.Pool = no_rule
