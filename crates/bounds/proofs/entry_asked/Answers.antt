-- `bounds::entry_asked` meets its contract. Assumes nothing.
use mathlib.Core.Path.{ap₂, ◌∙◌}
use Rattle.numbers.specs.Kind.{whole, float, span_of}
use Rattle.base.proofs.Ends.{whole_end_lem, float_end_lem}
use Rattle.bounds.specs.Asked.{asked}
use Rattle.bounds.proofs.entry_asked.Goals as goal

pub returns-then-floats : goal.returns-then-floats
returns-then-floats c =
    let fits = c.requires in
    let lower = rw (c.lower_at.ensures, fits.0.groups) at (float_end_lem c.lower_at.result c.args.s.now c.bound_at-lower.ensures c.if-floats.true) in
    let upper = rw (c.upper_at.ensures, fits.0.groups, fits.0.lists) at (float_end_lem c.upper_at.result c.args.s.now c.bound_at-upper.ensures c.if-floats.true) in
    rw c.if-floats.true (c.asked.ensures ∙ ap₂ (λ x y. asked float c.args.ask (span_of x y)) lower upper)

pub returns : goal.returns
returns c =
    let fits = c.requires in
    let lower = rw (c.lower_at.ensures, fits.0.groups) at (whole_end_lem c.lower_at.result c.args.s.now c.bound_at-lower.ensures c.if-floats.false) in
    let upper = rw (c.upper_at.ensures, fits.0.groups, fits.0.lists) at (whole_end_lem c.upper_at.result c.args.s.now c.bound_at-upper.ensures c.if-floats.false) in
    rw c.if-floats.false (c.asked-2.ensures ∙ ap₂ (λ x y. asked whole c.args.ask (span_of x y)) lower upper)
