-- The nature derived of two natures, or of one: it fits the columns, and it holds the exact results. Assumes nothing.
use mathlib.Core.Path.{◌≡◌, refl, sym, subst, ◌∙◌}
use mathlib.Core.List.Memᴰ
use mathlib.Core.List.{List}
use mathlib.Core.Logic.{inr}
use mathlib.Core.Option.{Option, none, some}
use Prim.Native.Nat.{ℕ, ◌<◌}
use lib.IntN.{ℤ, nat_abs}
use Rattle.numbers.specs.Result.{Result, ok, and_then}
use Rattle.numbers.specs.Kind.{Span, whole, eq_z}
use Rattle.numbers.proofs.Choices.{eq_z_true}
use Rattle.numbers.proofs.Parts.{abs_zero}
use Rattle.numbers.proofs.Results.{ok_same, never, then_ok_inv}
use Rattle.base.specs.Form.{Form}
use Rattle.base.specs.Sheet.{Nature, absent, whole_range, float_range, whole_lists, bool_lists, float_lists, text_lists}
use Rattle.base.specs.declared.Component.{Component}
use Rattle.base.specs.declared.Component.TheVariants as C
use Rattle.ends.specs.Ends.{end_rule}
use Rattle.ends.specs.Ranges.{whole_rule, range_pair, range_alone}
use Rattle.category_lists.specs.Categories.{category_rule, ruled, product, combined, image, mapped, union, united, limited}
use Rattle.calls.specs.Natures.{lists_united, lists_pair, lists_alone, whole_range_with, lists_with, two_natures, binary_nature, pool_nature, unary_nature}
use Rattle.derived.proofs.Answers.{checked_rest}
use Rattle.containment.specs.Exact.{Side, exact}
use Rattle.containment.specs.Demand.{entry_for, InList, Keeps, ListOffZero, OneOrPerColumn}
use Rattle.containment.specs.Asks.{Defined, Asks}
use Rattle.containment.specs.Good.{Fitting, Spread, Admitted}
use Rattle.containment.proofs.Entries.{span_defined}
use Rattle.containment.proofs.Ranges.{pair_many, pair_keeps, alone_many, alone_keeps}
use Rattle.containment.proofs.Lists.{product_found, image_found, paired_many, paired_keeps, mapped_paired, found_exact, union_exact, limited_ok}

-- ---- what is admitted

pub admitted_asks : (c : Component) (ys : List (Span ℤ)) (j : ℕ) → Admitted c (whole_range ys) j → Asks c (entry_for ys j)
admitted_asks C.Abs ys j k = tt
admitted_asks C.Add ys j k = tt
admitted_asks C.Subtract ys j k = tt
admitted_asks C.Multiply ys j k = tt
admitted_asks C.Divide ys j k = k
admitted_asks C.Modulo ys j k = k
admitted_asks C.Log ys j k = k
admitted_asks C.Power ys j k = k
admitted_asks C.Negative ys j k = tt
admitted_asks C.Pool ys j k = tt

list_off_zero : (o : Option (List ℤ)) (b : ℤ) → ListOffZero o → InList o b → nat_abs b ≡ 0 → ⊥
list_off_zero none b z q e = z
list_off_zero (some l) b z q e = z (Memᴰ.cast (sym (abs_zero b e)) q)

-- a divisor or an exponent that keeps to the right nature has a result
pub admitted_defined : (c : Component) (r : Nature) (j : ℕ) (b : ℤ) → Admitted c r j → Keeps r j b → Defined c b
admitted_defined C.Abs r j b k q = tt
admitted_defined C.Add r j b k q = tt
admitted_defined C.Subtract r j b k q = tt
admitted_defined C.Multiply r j b k q = tt
admitted_defined C.Divide absent j b k q = absurd k
admitted_defined C.Divide (whole_range rs) j b k q = span_defined C.Divide (entry_for rs j) b k q
admitted_defined C.Divide (float_range rs) j b k q = absurd k
admitted_defined C.Divide (whole_lists ls) j b k q = list_off_zero (entry_for ls j) b k q
admitted_defined C.Divide (bool_lists ls) j b k q = absurd k
admitted_defined C.Divide (float_lists ls) j b k q = absurd k
admitted_defined C.Divide (text_lists ls) j b k q = absurd k
admitted_defined C.Modulo absent j b k q = absurd k
admitted_defined C.Modulo (whole_range rs) j b k q = span_defined C.Modulo (entry_for rs j) b k q
admitted_defined C.Modulo (float_range rs) j b k q = absurd k
admitted_defined C.Modulo (whole_lists ls) j b k q = absurd k
admitted_defined C.Modulo (bool_lists ls) j b k q = absurd k
admitted_defined C.Modulo (float_lists ls) j b k q = absurd k
admitted_defined C.Modulo (text_lists ls) j b k q = absurd k
admitted_defined C.Log r j b k q = k
admitted_defined C.Power absent j b k q = absurd k
admitted_defined C.Power (whole_range rs) j b k q = span_defined C.Power (entry_for rs j) b k q
admitted_defined C.Power (float_range rs) j b k q = absurd k
admitted_defined C.Power (whole_lists ls) j b k q = absurd k
admitted_defined C.Power (bool_lists ls) j b k q = absurd k
admitted_defined C.Power (float_lists ls) j b k q = absurd k
admitted_defined C.Power (text_lists ls) j b k q = absurd k
admitted_defined C.Negative r j b k q = tt
admitted_defined C.Pool r j b k q = tt

-- ---- what is derived

pub record Derived (side : Side) (c : Component) (columns : ℕ) (l r k : Nature) : Type 0 where
  pub fits : Fitting k columns
  pub keeps : (j : ℕ) → j < columns → (a b v : ℤ) → Admitted c r j → Keeps l j a → Keeps r j b → exact side c a b ≡ some v → Keeps k j v

ruled_inv : {X : Type 0} (o : Option (ℤ → ℤ → Result ℤ)) (rest : (ℤ → ℤ → Result ℤ) → Result X) {x : X} → ruled o rest ≡ ok x
    → (rule : ℤ → ℤ → Result ℤ) × (o ≡ some rule) × (rest rule ≡ ok x)
ruled_inv none rest e = absurd (never (sym e))
ruled_inv (some rule) rest e = (rule, refl, e)

module _ (side : Side) (c : Component) (type columns : ℕ) where
  nothing : (l r : Nature) {k : Nature} → ok absent ≡ ok k → Derived side c columns l r k
  nothing l r e = subst (λ (k : Nature). Derived side c columns l r k) (ok_same e) (record { fits = tt; keeps = λ j h a b v q p t w. tt })

  ranges : (xs ys : List (Span ℤ)) {k : Nature} → and_then (range_pair (whole_rule c type) columns xs ys) (λ zs. ok (whole_range zs)) ≡ ok k
      → Derived side c columns (whole_range xs) (whole_range ys) k
  ranges xs ys e =
      let s = then_ok_inv (range_pair (whole_rule c type) columns xs ys) _ e in
      subst (λ (k : Nature). Derived side c columns (whole_range xs) (whole_range ys) k) (ok_same s.after)
      (record {
        fits = inr (pair_many side c columns xs ys s.value type s.is);
        keeps = λ j h a b v q p t w. pair_keeps side c columns xs ys s.value type j a b v s.is h (admitted_asks c ys j q) p t w;
      })

  -- what two category operands make
  abbrev Together : (Nature → Nature → Result Nature) → Type 0
  Together together =
      (ls ms : List (List ℤ)) (k : Nature) → OneOrPerColumn ls columns → OneOrPerColumn ms columns
      → together (whole_lists ls) (whole_lists ms) ≡ ok k → Derived side c columns (whole_lists ls) (whole_lists ms) k

  two_derived : (together : Nature → Nature → Result Nature) (l r : Nature) {k : Nature} → Together together → Spread l columns → Spread r columns
      → two_natures c type columns together l r ≡ ok k → Derived side c columns l r k
  unfolding two_natures whole_range_with lists_with
  two_derived together absent r law o p e = nothing absent r e
  two_derived together (whole_range xs) absent law o p e = nothing (whole_range xs) absent e
  two_derived together (whole_range xs) (whole_range ys) law o p e = ranges xs ys e
  two_derived together (whole_range xs) (float_range ys) law o p e = absurd p
  two_derived together (whole_range xs) (whole_lists ms) law o p e = nothing (whole_range xs) (whole_lists ms) e
  two_derived together (whole_range xs) (bool_lists ms) law o p e = absurd p
  two_derived together (whole_range xs) (float_lists ms) law o p e = absurd p
  two_derived together (whole_range xs) (text_lists ms) law o p e = absurd p
  two_derived together (float_range xs) r law o p e = absurd o
  two_derived together (whole_lists ls) absent law o p e = nothing (whole_lists ls) absent e
  two_derived together (whole_lists ls) (whole_range ys) law o p e = nothing (whole_lists ls) (whole_range ys) e
  two_derived together (whole_lists ls) (float_range ys) law o p e = absurd p
  two_derived together (whole_lists ls) (whole_lists ms) {k} law o p e = law ls ms k o p e
  two_derived together (whole_lists ls) (bool_lists ms) law o p e = absurd p
  two_derived together (whole_lists ls) (float_lists ms) law o p e = absurd p
  two_derived together (whole_lists ls) (text_lists ms) law o p e = absurd p
  two_derived together (bool_lists ls) r law o p e = absurd o
  two_derived together (float_lists ls) r law o p e = absurd o
  two_derived together (text_lists ls) r law o p e = absurd o

  module _ (F : Form) where
    lists : Together (lists_pair F c type columns)
    unfolding lists_pair combined
    lists ls ms k o p e =
        let f = ruled_inv (category_rule c type) (λ rule. limited F.category_limit (combined eq_z rule columns ls ms)) (checked_rest _ _ e) in
        let g = limited_ok F.category_limit (combined eq_z f.0 columns ls ms) f.2 in
        let op = product eq_z f.0 in
        subst (λ (k : Nature). Derived side c columns (whole_lists ls) (whole_lists ms) k) g.2
        (record {
          fits = inr (paired_many eq_z op columns ls ms g.0 o p g.1);
          keeps = λ j h a b v q m n w.
              paired_keeps eq_z op columns ls ms g.0 o p g.1 eq_z_true a b v
              (λ x y z e m n. found_exact side c type f.0 a b v z f.1 (product_found eq_z eq_z_true f.0 a b x y e m n) w) j h m n;
        })

    pub binary_derived : (l r : Nature) {k : Nature} → Spread l columns → Spread r columns
        → binary_nature F c type columns l r ≡ ok k → Derived side c columns l r k
    binary_derived l r = two_derived (lists_pair F c type columns) l r lists

  module _ (limit : ℕ) where
    -- a component that reads the left alone asks nothing of the right, and its result is the left's
    module _ (r : Nature) (asks : (o : Option (Span ℤ)) → Asks c o) (left : (a b : ℤ) → exact side c a a ≡ exact side c a b) where
      alone_range : (xs : List (Span ℤ)) {k : Nature} → and_then (range_alone (end_rule whole c) columns xs) (λ zs. ok (whole_range zs)) ≡ ok k
          → Derived side c columns (whole_range xs) r k
      alone_range xs e =
          let s = then_ok_inv (range_alone (end_rule whole c) columns xs) _ e in
          subst (λ (k : Nature). Derived side c columns (whole_range xs) r k) (ok_same s.after)
          (record {
            fits = inr (alone_many side c columns xs s.value s.is);
            keeps = λ j h a b v q p t w. alone_keeps side c columns xs s.value s.is j a v h (asks (entry_for xs j)) p (left a b ∙ w);
          })

      alone_lists : (ls : List (List ℤ)) {k : Nature} → OneOrPerColumn ls columns → lists_alone limit c type columns (whole_lists ls) ≡ ok k
          → Derived side c columns (whole_lists ls) r k
      unfolding lists_alone
      alone_lists ls o e =
          let f = ruled_inv (category_rule c type) (λ rule. limited limit (mapped eq_z rule columns ls)) (checked_rest _ _ e) in
          let g = limited_ok limit (mapped eq_z f.0 columns ls) f.2 in
          let op : List ℤ → List ℤ → Result (List ℤ) = λ l m. image eq_z f.0 l in
          let e = mapped_paired eq_z f.0 columns ls g.1 in
          subst (λ (k : Nature). Derived side c columns (whole_lists ls) r k) g.2
          (record {
            fits = inr (paired_many eq_z op columns ls ls g.0 o o e);
            keeps = λ j h a b v q m n w.
                paired_keeps eq_z op columns ls ls g.0 o o e eq_z_true a a v
                (λ x y z e m n. found_exact side c type f.0 a a v z f.1 (image_found eq_z eq_z_true f.0 a x e m) (left a b ∙ w)) j h m m;
          })

      pub unary_derived : (l : Nature) {k : Nature} → Spread l columns → unary_nature limit c type columns l ≡ ok k → Derived side c columns l r k
      unfolding unary_nature
      unary_derived absent o e = nothing absent r e
      unary_derived (whole_range xs) o e = alone_range xs e
      unary_derived (float_range xs) o e = absurd o
      unary_derived (whole_lists ls) o e = alone_lists ls o e
      unary_derived (bool_lists ls) o e = absurd o
      unary_derived (float_lists ls) o e = absurd o
      unary_derived (text_lists ls) o e = absurd o

module _ (side : Side) (type columns : ℕ) where
  unions : Together side C.Pool type columns (lists_united columns)
  unfolding lists_united united
  unions ls ms k o p e =
      let s = then_ok_inv (united eq_z columns ls ms) _ (checked_rest _ _ e) in
      subst (λ (k : Nature). Derived side C.Pool columns (whole_lists ls) (whole_lists ms) k) (ok_same s.after)
      (record {
        fits = inr (paired_many eq_z (union eq_z) columns ls ms s.value o p s.is);
        keeps = λ j h a b v q m n w.
            paired_keeps eq_z (union eq_z) columns ls ms s.value o p s.is eq_z_true a b v (λ x y z e m n. union_exact side a b v x y e m n w) j h m n;
      })

  pub pool_derived : (l r : Nature) {k : Nature} → Spread l columns → Spread r columns
      → pool_nature C.Pool type columns l r ≡ ok k → Derived side C.Pool columns l r k
  pool_derived l r = two_derived side C.Pool type columns (lists_united columns) l r unions
