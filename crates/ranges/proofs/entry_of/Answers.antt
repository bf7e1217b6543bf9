-- `ranges::entry_of` meets its contract. Assumes nothing.
use mathlib.Core.Path.{sym}
use mathlib.Core.Logic.{⊎_elim}
use Prim.Native.Nat.{◌<◌}
use native.Mathlib.Omega.{arith}
use Rattle.utilities.proofs.Repeated.{one_or_each}
use Rattle.ranges.proofs.Spread.{only_entry, own_entry}
use Rattle.ranges.proofs.entry_of.Goals as goal

pub returns-then-n-eq1 : goal.returns-then-n-eq1
returns-then-n-eq1 c = let a = c.args in (sym (only_entry a.n a.j c.if-n-eq1.true), omega arith)

pub returns-else-n-eq1 : goal.returns-else-n-eq1
returns-else-n-eq1 c =
    let a = c.args in
    let p = c.requires in
    let within : a.j < a.n = ⊎_elim (λ e. absurd (c.if-n-eq1.false e)) (λ e. omega (arith, p.1)) (one_or_each a.columns a.n p.0) in
    (sym (own_entry a.n a.j c.if-n-eq1.false), within)
