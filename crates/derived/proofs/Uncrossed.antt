-- With 02, S-4's Subtract no rule inverts a range: every whole range in a sheet that a component derives, of operands that pass 5, passes 5.
--     derived_whole    under all ten components, in any stored form, whatever else the operands hold
--     modulo_alone     of Modulo 16 is needed: its end rule alone inverts a range
-- Assumes nothing.
use mathlib.Core.Path.{◌≡◌, refl, ap, subst}
use mathlib.Core.Bool.{Bool, true, false, cond, not}
use mathlib.Core.List.{List}
use mathlib.Core.Option.{some}
use Prim.Native.Nat.{ℕ, ◌^◌}
use native.Mathlib.Omega.{arith}
use lib.Dec.{ltb}
use lib.IntN.{ℤ, pos, negsuc, neg_ℤ, ◌+ℤ◌, ◌-ℤ◌}
use lib.Signed.{mag}
use borrow.Author.Tests.{not-false}
use Rattle.numbers.specs.Result.{ok}
use Rattle.numbers.specs.Checked.{checked_of}
use Rattle.numbers.specs.Kind.{Span, span_of, whole, float, fitting}
use Rattle.std.specs.declared.option.Option.TheVariants.{Some, None}
use Rattle.numbers.proofs.Parts.{add_is, neg_is, sub_eq, lt_true, lt_false, true_lt, false_lt}
use Rattle.utilities.specs.Lists.{every}
use Rattle.base.specs.Form.{Form}
use Rattle.base.specs.Sheet.{Nature, absent, whole_range, float_range, whole_lists, bool_lists, float_lists, text_lists, Sheet}
use Rattle.base.specs.Checks.{crossed, whole_holds, bounds_fail}
use Rattle.base.specs.declared.Component.{Component}
use Rattle.base.specs.declared.Component.TheVariants as C
use Rattle.ends.specs.Ends.{from_one, mod_ends, end_rule}
use Rattle.ends.specs.Ranges.{whole_rule}
use Rattle.calls.specs.Derive.{derive}
use Rattle.round_trip.specs.WellFormed.{Each}
use Rattle.derived.proofs.Each.{each_weaken, each_any, every_each, each_every}
use Rattle.derived.proofs.Values.{IfOk, value_is, any_value}
use Rattle.derived.proofs.Fitted.{Any, whole_rule_is}
use Rattle.derived.proofs.Ordered.{Ordered, Asked, Entry, KindOrdered, rule_ordered}
use Rattle.derived.proofs.Pooled.{whole_along, whole_entry}
use Rattle.derived.proofs.Ranged.{OfEntries, derived_ranges}

-- ---- whole numbers, whose results are exact or refused

exact : (P : ℤ → Type 0) (z : ℤ) → P z → IfOk P (fitting (checked_of z))
unfolding checked_of
exact P z p = go (ltb (mag z) (2 ^ 63))
  where
    go : (t : Bool) → IfOk P (fitting (cond t (Some z) None))
    go true = p
    go false = tt

-- ltZ a b, of sums, differences and negations, by naturals
whole_ordered : KindOrdered whole Any
whole_ordered = record {
  same = λ a. false_lt a a (omega arith);
  back = λ a b h. false_lt b a (omega (arith, lt_true a b h));
  along = whole_along;
  add = λ a c d f p q.
      exact _ (a +ℤ d)
      (exact _ (c +ℤ f) (false_lt (c +ℤ f) (a +ℤ d) (omega (arith, lt_false c a p.ordered, lt_false f d q.ordered, add_is a d, add_is c f))));
  sub = λ a c d f p q.
      exact _ (a -ℤ f)
      (exact _ (c -ℤ d) (false_lt (c -ℤ d) (a -ℤ f) (omega (arith, lt_false c a p.ordered, lt_false f d q.ordered, sub_eq a f, sub_eq c d))));
  neg = λ a c p. exact _ (neg_ℤ c) (exact _ (neg_ℤ a) (false_lt (neg_ℤ a) (neg_ℤ c) (omega (arith, lt_false c a p.ordered, neg_is a, neg_is c))));
  mirrored = λ c p. exact _ (neg_ℤ c) (λ h. false_lt c (neg_ℤ c) (omega (arith, lt_true (pos 0) c h, neg_is c)));
  sum = λ a c p.
      exact _ (a +ℤ c) (
        λ h. true_lt (pos 0) (a +ℤ c) (omega (arith, lt_true (pos 0) a h, lt_false c a p.ordered, add_is a c)),
        λ h. true_lt (pos 0) c (omega (arith, lt_true (pos 0) (a +ℤ c) h, lt_false c a p.ordered, add_is a c)),
      );
  last = λ d f p h. exact _ (f -ℤ pos 1) (false_lt (f -ℤ pos 1) (pos 0) (omega (arith, lt_true (pos 0) d h, lt_false f d p.ordered, sub_eq f (pos 1))));
}

rule_keeps : (c : Component) (type : ℕ) (x y : Span ℤ) → Entry whole Any x → Entry whole Any y → Asked whole c y → IfOk (Ordered whole) (whole_rule c type x y)
unfolding crossed
rule_keeps c type x y p q h = whole_rule_is (λ g. IfOk (Ordered whole) g) c type x y (rule_ordered whole Any whole_ordered c x y p q h) refl

-- ---- 5 of a sheet

operand : (k : Nature) → bounds_fail k ≡ false → OfEntries (Entry whole Any) Any k
unfolding bounds_fail
operand absent e = tt
operand (whole_range rs) e =
    each_weaken (λ x. whole_holds x ≡ true) (Entry whole Any) whole_entry rs (every_each whole_holds rs (not-false (every whole_holds rs) e))
operand (float_range rs) e = each_any rs
operand (whole_lists ls) e = tt
operand (bool_lists ls) e = tt
operand (float_lists ls) e = tt
operand (text_lists ls) e = tt

passes : (zs : List (Span ℤ)) → Each (Ordered whole) zs → bounds_fail (whole_range zs) ≡ false
unfolding bounds_fail
passes zs h = ap not (each_every whole_holds zs (each_weaken (Ordered whole) (λ z. whole_holds z ≡ true) (λ z e. ap not e) zs h))

-- a derived sheet's whole entries
abbrev DerivedEntries : Sheet → Type 0
DerivedEntries s = OfEntries (Ordered whole) Any s.nature

entries : (F : Form) (c : Component) (l r : Sheet) → OfEntries (Entry whole Any) Any l.nature → OfEntries (Entry whole Any) Any r.nature → IfOk DerivedEntries (derive F c l r)
entries = derived_ranges (Entry whole Any) (Ordered whole) Any Any rule_keeps (λ c x y p q h. any_value (end_rule float c x y))

pub derived_whole : (F : Form) (c : Component) (l r s : Sheet) → bounds_fail l.nature ≡ false → bounds_fail r.nature ≡ false → derive F c l r ≡ ok s
    → (zs : List (Span ℤ)) → s.nature ≡ whole_range zs → bounds_fail s.nature ≡ false
derived_whole F c l r s p q e zs k =
    let h = value_is DerivedEntries (derive F c l r) (entries F c l r (operand l.nature p) (operand r.nature q)) e in
    rw k (passes zs (subst (OfEntries (Ordered whole) Any) k h))

-- [1, 2] by [-5, 0] has the ends [0, -1]
pub modulo_alone :
    (end_rule whole C.Modulo (span_of (some (pos 1)) (some (pos 2))) (span_of (some (negsuc 4)) (some (pos 0))) ≡ ok (span_of (some (pos 0)) (some (negsuc 0))))
    × (whole_holds (span_of (some (pos 0)) (some (negsuc 0))) ≡ false)
unfolding end_rule mod_ends from_one checked_of crossed
modulo_alone = (refl, refl)
