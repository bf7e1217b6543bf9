-- `bounds::every_entry` meets its contract. Assumes nothing.
use mathlib.Core.Path.{sym, ap, ◌∙◌}
use Rattle.base.specs.Form.{form_of, is_range_nature}
use Rattle.base.proofs.Passed.{sized, range_fits, passing}
use Rattle.base.proofs.Natures.{nature_whole_range, nature_float_range}
use Rattle.bounds.proofs.Asks.{every_whole, every_float, no_range_asked}
use Rattle.bounds.proofs.every_entry.Goals as goal

pub sizes_at-sizes-requires : goal.sizes_at-sizes-requires
sizes_at-sizes-requires c = search passing

pub nature_of-nature-requires : goal.nature_of-nature-requires
nature_of-nature-requires c = search passing

pub entries_asked-requires : goal.entries_asked-requires
entries_asked-requires c =
    range_fits (sized (form_of c.args.f) c.args.s.now c.requires c.sizes_at-sizes.ensures) (ap is_range_nature (sym c.nature_of-nature.ensures ∙ c.if-nature-eq-WHOLE_RANGE.true))

pub returns-then-nature-eq-WHOLE_RANGE : goal.returns-then-nature-eq-WHOLE_RANGE
returns-then-nature-eq-WHOLE_RANGE c =
    let s = c.args.s.now in
    let F = form_of c.args.f in
    rw (nature_whole_range F s (sym c.nature_of-nature.ensures ∙ c.if-nature-eq-WHOLE_RANGE.true), every_whole F s c.args.ask, ← c.sizes_at-sizes.ensures.lists)
    c.entries_asked.ensures

pub entries_asked-requires-then-nature-eq-FLOAT_RANGE : goal.entries_asked-requires-then-nature-eq-FLOAT_RANGE
entries_asked-requires-then-nature-eq-FLOAT_RANGE c =
    range_fits (sized (form_of c.args.f) c.args.s.now c.requires c.sizes_at-sizes.ensures) (ap is_range_nature (sym c.nature_of-nature.ensures ∙ c.if-nature-eq-FLOAT_RANGE.true))

pub returns-then-nature-eq-FLOAT_RANGE : goal.returns-then-nature-eq-FLOAT_RANGE
returns-then-nature-eq-FLOAT_RANGE c =
    let s = c.args.s.now in
    let F = form_of c.args.f in
    rw (nature_float_range F s (sym c.nature_of-nature.ensures ∙ c.if-nature-eq-FLOAT_RANGE.true), every_float F s c.args.ask, ← c.sizes_at-sizes.ensures.lists)
    c.entries_asked-then-nature-eq-FLOAT_RANGE.ensures

pub returns : goal.returns
returns c =
    let a = c.args in
    let k = c.nature_of-nature.ensures in
    sym (no_range_asked (form_of a.f) a.s.now a.ask (λ e. c.if-nature-eq-WHOLE_RANGE.false (k ∙ e)) (λ e. c.if-nature-eq-FLOAT_RANGE.false (k ∙ e)))
