-- Parts as the code reads them. Assumes nothing.
use mathlib.Core.Path.{◌≡◌}
use mathlib.Core.List.{List}
use Prim.Native.Nat.{ℕ, ◌+◌}
use lib.ListN.{take, drop}
use Rattle.base.specs.Form.{Form, group_count, category_count, area_at}
use Rattle.texts.specs.Joins.{part_start, part_length, part_in}

module _ (F : Form) where
  pub part_read : (s : List ℕ) (p : ℕ) {n area from : ℕ} → n ≡ part_length p → area ≡ area_at F (group_count F s) (category_count F s) → from ≡ part_start p
      → take n (drop (area + from) s) ≡ part_in F s p
  unfolding part_in
  part_read s p e b g = (λ i. take (e i) (drop (b i + g i) s))
