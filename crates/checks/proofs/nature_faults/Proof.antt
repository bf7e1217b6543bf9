-- `checks::nature_faults` meets its contract: by the nature. Assumes nothing.
use mathlib.Core.Path.{◌≡◌, sym, ap, ap₂, subst, ◌∙◌}
use mathlib.Core.Bool.{true, false, not, and-true}
use Prim.Native.Nat.{ℕ}
use lib.Dec.{T, eqb}
use borrow.Author.Tests.{eq-eqb, ne_eqb}
use borrow.Author.Rules.{rules}
use Rattle.base.specs.Form.{form_of, absent_nature, float_range_nature, text_lists_nature, is_range_nature}
use Rattle.base.specs.Checks.{holds_from, range_permitted, nature_permitted}
use Rattle.base.specs.Entries.{entry_holds}
use Rattle.base.specs.Sized.{ListsFit}
use Rattle.base.proofs.Flags.{not_both}
use Rattle.base.proofs.Passed.{sized, range_fits, lists_fit, passing}
use Rattle.base.proofs.Natures.{range_fails, no_range_passes}
use Rattle.checks.proofs.nature_faults.Statement.{statement}
use Rattle.checks.proofs.nature_faults.Tie as tie

-- a range is no text
no_text : (k : ℕ) → is_range_nature k ≡ true → eqb k text_lists_nature ≡ false
no_text k e = ne_eqb k text_lists_nature (λ h. subst T (sym e ∙ ap is_range_nature h) tt)

returns : tie.Need-returns-then-nature-eq-ABSENT_NATURE
unfolding nature_permitted
returns c =
    let k = c.nature_of-nature in
    let z = c.sizes_at-sizes.ensures in
    let a = c.args in
    let none = sym k.ensures ∙ c.if-nature-eq-ABSENT_NATURE.true in
    record {
      fields = rw (none, z.lists, z.categories, and-true, not_both);
      bounds = sym (no_range_passes (form_of a.f) a.s.now (ap is_range_nature none));
    }

entry-faults-requires : tie.Need-entry_faults-entries-requires
entry-faults-requires c κs =
    let k = c.before.before.before in
    range_fits (sized (form_of c.args.f) c.args.s.now c.requires c.sizes_at-sizes.ensures)
    (rw (← c.nature_of-nature.ensures) (sym c.is_range.ensures ∙ c.if-is_range.true))

returns-2 : tie.Need-returns-then-is_range
unfolding nature_permitted range_permitted
returns-2 c =
    let e = c.entry_faults-entries.ensures in
    let k = c.nature_of-nature in
    let z = c.sizes_at-sizes.ensures in
    let a = c.args in
    let F = form_of a.f in
    let s = a.s.now in
    let range = sym c.is_range.ensures ∙ c.if-is_range.true in
    record {
      fields = rw (← k.ensures, ne_eqb k.result absent_nature c.if-nature-eq-ABSENT_NATURE.false, range, no_text k.result range, e.fields, z.lists, z.categories, and-true, not_both);
      bounds =
          e.bounds
          ∙ ap₂ (λ (n k : ℕ). not (holds_from n 0 (entry_holds F (eqb k float_range_nature) s))) z.lists k.ensures
          ∙ sym (range_fails F s (ap is_range_nature (sym k.ensures) ∙ range));
    }

-- the arrays of categories
module _ (c : tie.Else-is_range) where
  fits : let a = c.args in let z = c.sizes_at-sizes.result in ListsFit (form_of a.f) a.s.now z.groups z.lists z.categories
  fits =
      let k = c.before.before.before in
      lists_fit (sized (form_of c.args.f) c.args.s.now c.requires c.sizes_at-sizes.ensures)
      (rw (← c.nature_of-nature.ensures) (sym c.is_range.ensures ∙ c.if-is_range.false))

returns-3 : tie.Need-returns-then-nature-eq-TEXT_LISTS
unfolding nature_permitted
returns-3 c =
    let t = c.before.before in
    let k = c.nature_of-nature in
    let z = c.sizes_at-sizes.ensures in
    let a = c.args in
    let other = sym c.is_range.ensures ∙ c.if-is_range.false in
    record {
      fields = rw (← k.ensures, ne_eqb k.result absent_nature c.if-nature-eq-ABSENT_NATURE.false, other, eq-eqb k.result text_lists_nature c.if-nature-eq-TEXT_LISTS.true, c.lists_permitted.ensures, c.area_permitted.ensures, z.categories);
      bounds = sym (no_range_passes (form_of a.f) a.s.now (ap is_range_nature (sym k.ensures) ∙ other));
    }

returns-4 : tie.Need-returns
unfolding nature_permitted
returns-4 c =
    let t = c.before in
    let k = c.nature_of-nature in
    let a = c.args in
    let other = sym c.is_range.ensures ∙ c.if-is_range.false in
    record {
      fields = rw (← k.ensures, ne_eqb k.result absent_nature c.if-nature-eq-ABSENT_NATURE.false, other, ne_eqb k.result text_lists_nature c.if-nature-eq-TEXT_LISTS.false, and-true, c.lists_permitted-2.ensures);
      bounds = sym (no_range_passes (form_of a.f) a.s.now (ap is_range_nature (sym k.ensures) ∙ other));
    }

pub nature_faults_spec : {M : Type 1} → statement M
nature_faults_spec =
    tie.close
    (tie.spec
    (λ c κs. search passing)
    (λ c κs. search passing)
    returns
    (λ c κs. search rules)
    entry-faults-requires
    returns-2
    (λ c κs. fits c.before)
    (λ c κs. fits c.before.before)
    returns-3
    (λ c κs. fits c.before)
    returns-4)
