-- `shape::groups::same_groups` meets its contract. Assumes nothing.
use mathlib.Core.Path.{sym, ◌∙◌}
use Rattle.base.specs.Form.{form_of}
use Rattle.base.proofs.Passed.{sized, groups_fit, passing}
use Rattle.shape.proofs.Grouped.{groups_same, groups_unequal}
use Rattle.shape.proofs.groups.same_groups.Statement.{statement}
use Rattle.shape.proofs.groups.same_groups.Tie as tie

returns : tie.Need-returns-then-g-h
returns c =
    let a = c.args in
    sym (groups_unequal (form_of a.f) a.left.now a.right.now c.sizes_at-ours.ensures.groups c.sizes_at-theirs.ensures.groups c.if-g-h.true)

all-same-requires : tie.Need-all_same-requires
all-same-requires c κs =
    let ours = groups_fit (sized (form_of c.args.f) c.args.left.now c.requires.0 c.sizes_at-ours.ensures) in
    let theirs = groups_fit (sized (form_of c.args.f) c.args.right.now c.requires.1 c.sizes_at-theirs.ensures) in
    (ours, record { groups = c.if-g-h.false ∙ theirs.groups; groups_within = ours.groups_within; room = rw c.if-g-h.false theirs.room })

returns-2 : tie.Need-returns
returns-2 c =
    let a = c.args in
    c.all_same.ensures
    ∙ sym (groups_same (form_of a.f) a.left.now a.right.now c.sizes_at-ours.ensures.groups c.sizes_at-theirs.ensures.groups c.if-g-h.false)

pub same_groups_spec : {M : Type 1} → statement M
same_groups_spec = tie.close (tie.spec (λ c κs. search passing) (λ c κs. search passing) returns all-same-requires returns-2)
