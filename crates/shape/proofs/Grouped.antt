-- Equal lists of groups, number by number. Assumes nothing.
use mathlib.Core.Path.{◌≡◌, refl, sym, ap, ap₂, ◌∙◌}
use mathlib.Core.Bool.{Bool, false, ◌&&◌, and-false}
use mathlib.Core.List.{List}
use Prim.Native.Nat.{ℕ, zero, suc, ◌+◌}
use Rattle.utilities.specs.Lists.{list_from}
use Rattle.base.specs.Form.{Form, group_count}
use Rattle.base.specs.Sheet.{Group}
use Rattle.base.specs.Decode.{group_at, groups_in}
use Rattle.base.specs.Checks.{holds_from}
use Rattle.shape.specs.Shape.{same_group, same_groups}
use Rattle.shape.specs.Asked.{groups_meet}

module _ (f h : ℕ → Group) where
  same_from : (n i : ℕ) → same_groups (list_from n i f) (list_from n i h) ≡ holds_from n i (λ k. same_group (f k) (h k))
  unfolding same_groups list_from holds_from
  same_from zero i = refl
  same_from (suc n) i = ap (λ (t : Bool). same_group (f i) (h i) && t) (same_from n (i + 1))

  unequal_from : (n m i : ℕ) → (n ≡ m → ⊥) → same_groups (list_from n i f) (list_from m i h) ≡ false
  unfolding same_groups list_from
  unequal_from zero zero i d = absurd (d refl)
  unequal_from zero (suc m) i d = refl
  unequal_from (suc n) zero i d = refl
  unequal_from (suc n) (suc m) i d =
      ap (λ (t : Bool). same_group (f i) (h i) && t) (unequal_from n m (i + 1) (λ e. d (ap suc e))) ∙ and-false (same_group (f i) (h i))

module _ (F : Form) (s t : List ℕ) {g h : ℕ} (p : g ≡ group_count F s) (q : h ≡ group_count F t) where
  groups_of : same_groups (groups_in F s) (groups_in F t) ≡ same_groups (list_from g 0 (group_at F s g)) (list_from h 0 (group_at F t h))
  unfolding groups_in
  groups_of = sym (ap₂ (λ (g h : ℕ). same_groups (list_from g 0 (group_at F s g)) (list_from h 0 (group_at F t h))) p q)

  pub groups_same : g ≡ h → same_groups (groups_in F s) (groups_in F t) ≡ holds_from g 0 (groups_meet F g s t)
  groups_same e =
      groups_of
      ∙ ap (λ (h : ℕ). same_groups (list_from g 0 (group_at F s g)) (list_from h 0 (group_at F t h))) (sym e)
      ∙ same_from (group_at F s g) (group_at F t g) g 0

  pub groups_unequal : (g ≡ h → ⊥) → same_groups (groups_in F s) (groups_in F t) ≡ false
  groups_unequal d = groups_of ∙ unequal_from (group_at F s g) (group_at F t h) g h 0 d
