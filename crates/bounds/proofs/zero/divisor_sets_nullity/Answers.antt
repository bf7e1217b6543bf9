-- `bounds::zero::divisor_sets_nullity` meets its contract. Assumes nothing.
use mathlib.Core.Path.{sym, ap, ◌∙◌}
use Rattle.base.specs.Form.{form_of, is_range_nature}
use Rattle.base.proofs.Passed.{sized, lists_fit, passing}
use Rattle.bounds.proofs.Zeros.{range_sets_nullity, lists_set_nullity, else_sets_nullity}
use Rattle.bounds.proofs.zero.divisor_sets_nullity.Goals as goal

pub sizes_at-sizes-requires : goal.sizes_at-sizes-requires
sizes_at-sizes-requires c = search passing

pub nature_of-nature-requires : goal.nature_of-nature-requires
nature_of-nature-requires c = search passing

pub returns-then-nature-eq-FLOAT_RANGE : goal.returns-then-nature-eq-FLOAT_RANGE
returns-then-nature-eq-FLOAT_RANGE c =
    let s = c.args.s.now in
    let F = form_of c.args.f in
    rw (range_sets_nullity F s (sym c.nature_of-nature.ensures ∙ c.if-nature-eq-FLOAT_RANGE.true), c.every_entry.ensures)

pub values_apart-requires : goal.values_apart-requires
values_apart-requires c =
    lists_fit (sized (form_of c.args.f) c.args.s.now c.requires.0 c.sizes_at-sizes.ensures) (ap is_range_nature (sym c.nature_of-nature.ensures ∙ c.if-nature-eq-FLOAT_LISTS.true))

pub returns-then-nature-eq-FLOAT_LISTS : goal.returns-then-nature-eq-FLOAT_LISTS
returns-then-nature-eq-FLOAT_LISTS c =
    let nature = sym c.nature_of-nature.ensures ∙ c.if-nature-eq-FLOAT_LISTS.true in
    rw (lists_set_nullity (form_of c.args.f) c.args.s.now c.requires.1 nature, ← c.sizes_at-sizes.ensures.categories, c.values_apart.ensures)

pub returns : goal.returns
returns c =
    let k = c.nature_of-nature.ensures in
    rw k (sym (else_sets_nullity (form_of c.args.f) c.args.s.now c.requires.1 (λ e. c.if-nature-eq-FLOAT_RANGE.false (k ∙ e)) (λ e. c.if-nature-eq-FLOAT_LISTS.false (k ∙ e))))
