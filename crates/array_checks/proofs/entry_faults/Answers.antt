-- `array_checks::entry_faults` meets its contract. Assumes nothing.
use Rattle.std.proofs.Common.{not, ◌&&◌, eqb}
use Rattle.array_checks.proofs.Gathering.{gathering_same, gathering_more, gathered}
use Rattle.array_checks.proofs.Words.{two_more}
use Rattle.array_checks.proofs.entry_faults.Goals as goal

pub loop-i-preserved : goal.loop-i-preserved
loop-i-preserved c =
    let z = c.requires in
    let l = c.loop-i.invariant in
    let x = c.end_fault.result in
    let y = c.end_fault-in-loop-i.result in (
      gathering_same (two_more c.loop-i.bad x y)
          (gathering_more l.0 c.loop-i-test.true (not (eqb x 0 && eqb y 0))
          (rw (c.end_fault.ensures, c.end_fault-in-loop-i.ensures, c.lower_at-lower.ensures, c.upper_at-upper.ensures, z.groups, z.lists))),
      gathering_more l.1 c.loop-i-test.true _ (rw (c.span_fails-unordered.ensures, c.lower_at-lower.ensures, c.upper_at-upper.ensures, z.groups, z.lists)),
    )

pub returns : goal.returns
returns c = search gathered
