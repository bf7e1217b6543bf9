-- `standing::stands_on` meets its contract. Assumes nothing.
use mathlib.Core.Path.{ap, ◌∙◌}
use Prim.Native.Nat.{ℕ}
use Rattle.sets.specs.Sets.{in_set}
use Rattle.standing.proofs.Gathered.{gathered_stands}
use Rattle.standing.proofs.stands_on.Goals as goal

pub returns : goal.returns
returns c j =
    ap (λ (n : ℕ). in_set n j) c.gather.ensures
    ∙ gathered_stands c.args.plan.now _ c.requires.formed (λ k h. c.singles.ensures k h) j c.args.wanted c.requires.within
