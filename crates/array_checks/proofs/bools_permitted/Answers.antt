-- `array_checks::bools_permitted` meets its contract. Assumes nothing.
use Rattle.std.proofs.Common.{◌∙◌}
use Rattle.base.proofs.Flags.{lt_not_le}
use Rattle.array_checks.proofs.Gathering.{gathering_more, gathered}
use Rattle.array_checks.proofs.bools_permitted.Goals as goal

pub loop-i-preserved : goal.loop-i-preserved
loop-i-preserved c =
    let z = c.requires in
    gathering_more c.loop-i.invariant c.loop-i-test.true _ (lt_not_le 1 c.u64_at.result ∙ rw (c.u64_at.ensures, c.value_at.ensures, z.groups, z.categories))

pub returns : goal.returns
returns c = search gathered
