-- Demand 3's premise on the counts of a leaf's lists as it was before 02, S-5: on an accepted plan it follows from the one that S-5 leaves, since 29 has tested
-- the counts of which that one says nothing.
--     leaf_whole    of every leaf
-- Assumes nothing.
use mathlib.Core.Path.{◌≡◌, refl, sym, ap, ap₂, subst, ◌∙◌}
use mathlib.Core.Bool.{true, false}
use mathlib.Core.List.{List}
use mathlib.Core.Logic.{⊎_elim}
use mathlib.Core.Option.{Option, get_or}
use Prim.Native.Nat.{ℕ, ◌<◌}
use lib.ListN.{length}
use Rattle.numbers.specs.Result.{ok}
use Rattle.numbers.proofs.Results.{ok_same, then_ok_inv}
use Rattle.utilities.specs.Columns.{spreads}
use Rattle.utilities.proofs.Repeated.{one_or_each}
use Rattle.base.specs.Form.{Form, narrow}
use Rattle.base.specs.Sheet.{Sheet, Fields, Nature, is_lists}
use Rattle.base.specs.Encode.{entry_count}
use Rattle.base.specs.Components.{family_of, is_unary}
use Rattle.base.specs.declared.Component.{Component}
use Rattle.base.specs.declared.Family.{Family}
use Rattle.base.specs.declared.Family.TheVariants as Fam
use Rattle.std.specs.declared.option.Option as Rust
use Rattle.shape.specs.Shape.{columns_of}
use Rattle.orders.specs.Orders.{unary_checks}
use Rattle.calls.specs.Natures.{unary_nature}
use Rattle.calls.specs.Derive.{derive_unary, derive}
use Rattle.plan_form.specs.Form.{leaf_count, left_of, right_of}
use Rattle.derived.proofs.Answers.{checked_rest}
use Rattle.derived.proofs.Derived.{numbered_rest}
use Rattle.derived.proofs.Counted.{maps_counted, pairs_counted}
use Rattle.containment.specs.Demand.{OneOrPerColumn, WholeNature, Combines, SpreadsBy, Spreads, Counted, Premises, sheet_of}
use Rattle.containment.proofs.Slots.{Derives}
use Rattle.containment.proofs.Accepted.{Accepted, sheet_after}

-- ---- one step

-- 29 over some columns
abbrev Passes : Option ℕ → Nature → Type 0
Passes columns k = spreads (get_or columns 0) (entry_count k) ≡ true

-- a mapping's columns are left's
mapped_fields : (F : Form) (c : Component) (l r s : Sheet) → family_of c ≡ Fam.Unary → derive F c l r ≡ ok s → s.fields ≡ l.fields
unfolding derive derive_unary
mapped_fields F c l r s u e =
    let d : derive_unary F c l ≡ ok s = rw u at e in
    let t = then_ok_inv (unary_nature F.category_limit c l.fields.data_type (columns_of l.fields) l.nature) _ (checked_rest (unary_checks l.fields) _ d) in
    ap (λ (s : Sheet). s.fields) (sym (ok_same t.after))

-- ---- a leaf whose lists some step spreads

module _ {p work after : List ℕ} (a : Accepted p work after) where
  abbrev sheet : ℕ → Sheet
  sheet = sheet_of narrow p work after

  module _ (leaf k : ℕ) (d : Derives p k after after) where
    derived : derive narrow d.component (sheet (left_of p k)) (sheet (right_of p k)) ≡ ok d.sheet
    derived = ap₂ (λ (x y : Sheet). derive narrow d.component x y) (sheet_after a (left_of p k)) (sheet_after a (right_of p k)) ∙ d.derived

    step_fields : (sheet k).fields ≡ d.sheet.fields
    step_fields = ap (λ (s : Sheet). s.fields) (sheet_after a k ∙ d.is) ∙ (numbered_rest (family_of d.component) k d.sheet).0

    maps_own : family_of d.component ≡ Fam.Unary → left_of p k ≡ leaf → is_lists (sheet leaf).nature ≡ true → Passes (sheet leaf).fields.columns (sheet leaf).nature
    maps_own u i h =
        let l = sheet (left_of p k) in
        let passes = maps_counted narrow d.component l (sheet (right_of p k)) d.sheet u derived (subst (λ (n : ℕ). is_lists (sheet n).nature ≡ true) (sym i) h) in
        let own = subst (λ (f : Fields). Passes f.columns l.nature) (mapped_fields narrow d.component l (sheet (right_of p k)) d.sheet u derived) passes in
        subst (λ (n : ℕ). Passes (sheet n).fields.columns (sheet n).nature) i own

    combines_own : is_unary (family_of d.component) ≡ false → Combines p sheet leaf k → Passes (sheet leaf).fields.columns (sheet leaf).nature
    combines_own u c =
        let both = pairs_counted narrow d.component (sheet (left_of p k)) (sheet (right_of p k)) d.sheet u derived c.left c.right in
        let Own : ℕ → Type 0 = λ n. Passes d.sheet.fields.columns (sheet n).nature in
        let own : Own leaf = ⊎_elim (λ i. subst Own i both.0) (λ i. subst Own i both.1) c.reads in
        let columns = ap (λ (f : Fields). f.columns) (sym step_fields) ∙ c.own_columns in
        subst (λ (o : Option ℕ). Passes o (sheet leaf).nature) columns own

    spreads_own : (f : Family) → family_of d.component ≡ f → is_lists (sheet leaf).nature ≡ true → SpreadsBy p sheet leaf k f → Passes (sheet leaf).fields.columns (sheet leaf).nature
    spreads_own Fam.Unary e h s = maps_own e s h
    spreads_own Fam.Pair e h s = combines_own (ap is_unary e) s
    spreads_own Fam.Copy e h s = absurd s
    spreads_own Fam.Pool e h s = combines_own (ap is_unary e) s

  counted_passes : (leaf : ℕ) (c : Counted p sheet leaf) → Passes (sheet leaf).fields.columns (sheet leaf).nature
  counted_passes leaf c =
      let d = a.derives c.step c.behind c.within in
      let h = subst (λ (n : Nature). is_lists n ≡ true) (sym c.holds) refl in
      spreads_own leaf c.step d (family_of d.component) refl h (subst (λ (n : Rust.Option Component). Spreads p sheet leaf c.step n) d.listed c.spreads)

  counted_whole : (leaf : ℕ) → Counted p sheet leaf → WholeNature (sheet leaf).nature (columns_of (sheet leaf).fields)
  counted_whole leaf c =
      let columns = columns_of (sheet leaf).fields in
      let passes = subst (λ (n : Nature). Passes (sheet leaf).fields.columns n) c.holds (counted_passes leaf c) in
      let counts : OneOrPerColumn c.lists columns = one_or_each columns (length c.lists) passes in
      subst (λ (n : Nature). WholeNature n columns) (sym c.holds) counts

  pub leaf_whole : Premises p sheet → (k : ℕ) → k < leaf_count p → WholeNature (sheet k).nature (columns_of (sheet k).fields)
  leaf_whole h k b = ⊎_elim (λ w. w) (λ c. counted_whole k c) (h.leaf_natures k b)
