use Rattle.std.proofs.Common.{sym, ap, ◌∙◌, ◌≤◌, inl, inr, ℤ, length, take, arith}
use lib.ListN.{set}
use mir.Facts.{to_z-of_z}
use Rattle.utilities.specs.Lists.{has}
use Rattle.base.specs.Form.{form_of}
use Rattle.category_lists.proofs.Gathering.{stored_over}
use Rattle.texts.specs.Joins.{same_join}
use Rattle.texts.proofs.Noting.{Grows, joins_grow, stored_known, stored_grow}
use Rattle.texts.proofs.note_join.Goals.{then-k-store, else-k-store}
use Rattle.texts.proofs.note_join.Goals as goal

-- what was stored: z behind the k, where there is room
grown : (c : goal.Joined-k-store) → let a = c.args in Grows a.z a.k a.store.now c.if-k-store.store
grown c =
    let a = c.args in
    elim c.if-k-store.branch [
      | then-k-store w ↦ inl (w.if-k-store.true, w.store-is ∙ ap (set a.store.now a.k) (to_z-of_z c.ranges.z))
      | else-k-store w ↦ inr (w.if-k-store.false, w.store-is)
    ]

pub returns-then-store-k : goal.returns-then-store-k
returns-then-store-k c =
    let a = c.args in
    let same = same_join (form_of a.f) a.left.now a.right.now in
    (c.requires.0, c.requires.2, λ seen h. stored_over same h a.k a.z c.if-store-k.true c.if-store-k.true)

pub returns-then-has_join : goal.returns-then-has_join
returns-then-has_join c =
    let a = c.args in
    let same = same_join (form_of a.f) a.left.now a.right.now in
    let known = sym (c.has_join.ensures ∙ ap (λ (z : ℤ). has same z (take a.k a.store.now)) (to_z-of_z c.ranges.z)) ∙ c.if-has_join.true in
    (c.requires.0, c.requires.2, λ seen h. stored_known same h a.z c.if-store-k.false known)

pub returns : goal.returns
returns c =
    let a = c.args in
    let F = form_of a.f in
    let left = a.left.now in
    let right = a.right.now in
    let same = same_join F left right in
    let new = sym (c.has_join.ensures ∙ ap (λ (z : ℤ). has same z (take a.k a.store.now)) (to_z-of_z c.ranges.z)) ∙ c.if-has_join.false in
    let room : a.k ≤ length a.store.now = c.if-store-k.false in (
      omega (arith, room),
      joins_grow F left right a.z a.k (grown c) c.requires.2 c.requires.3,
      λ seen h. stored_grow same h a.z room new (grown c),
    )
