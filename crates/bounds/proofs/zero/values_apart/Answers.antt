-- `bounds::zero::values_apart` meets its contract. Assumes nothing.
use mathlib.Core.Path.{ap}
use mathlib.Core.Bool.{not}
use Rattle.base.proofs.Holding.{holding_more, holding_failed}
use Rattle.bounds.proofs.zero.values_apart.Goals as goal

pub returns-then-nan_or_zero : goal.returns-then-nan_or_zero
returns-then-nan_or_zero c =
    let e = rw (c.f64_at-x.ensures, c.value_at.ensures, c.requires.groups, c.requires.categories) at c.nan_or_zero.ensures in
    holding_failed c.loop-i.invariant c.loop-i-test.true (ap not e) (ap (λ t. not (not t)) c.if-nan_or_zero.true)

pub loop-i-preserved : goal.loop-i-preserved
loop-i-preserved c =
    let e = rw (c.f64_at-x.ensures, c.value_at.ensures, c.requires.groups, c.requires.categories) at c.nan_or_zero.ensures in
    holding_more c.loop-i.invariant c.loop-i-test.true (ap not e) (ap (λ t. not (not t)) c.if-nan_or_zero.false)
