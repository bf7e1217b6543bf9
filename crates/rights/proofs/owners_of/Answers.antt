-- `rights::owners_of` meets its contract. Assumes nothing.
use mathlib.Core.Path.{◌∙◌}
use Rattle.rights.proofs.Owned.{no_sets, gathered_owners}
use Rattle.rights.proofs.owners_of.Goals as goal

pub returns : goal.returns
returns c =
    let sets = c.leaf_sets.ensures in
    c.gather.ensures
    ∙ gathered_owners c.args.plan.now c.args.owners.now _ c.requires.0.formed sets.by_index (λ k h. sets.by_index_2 k h ∙ no_sets 32 k) c.args.wanted c.requires.0.within
