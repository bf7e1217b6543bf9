-- What the readers are told of a sheet's sizes, and what they tell.
use Rattle.std.specs.Prelude.{◌≡◌, List, ℕ, ◌+◌, ◌*◌, ◌≤◌, length}
use Rattle.base.specs.Form.{Form, group_count, list_count, category_count, area_size, entries_at, length_called_for}
use Rattle.base.specs.declared.Sizes.{Sizes}

-- r has the sizes of s
pub record SizesIn (F : Form) (s : List ℕ) (r : Sizes) : Type 0 where
  pub groups : r.groups ≡ group_count F s
  pub lists : r.lists ≡ list_count F s
  pub categories : r.categories ≡ category_count F s

-- g, n and t are the sizes of s, which passed 3
pub record Sized (F : Form) (s : List ℕ) (g n t : ℕ) : Type 0 where
  pub groups : g ≡ group_count F s
  pub lists : n ≡ list_count F s
  pub categories : t ≡ category_count F s
  pub groups_within : g ≤ F.group_limit
  pub lists_within : n ≤ F.list_limit
  pub categories_within : t ≤ F.category_limit
  pub text_within : area_size F s ≤ F.text_limit
  pub exact : length s ≡ length_called_for F s

-- the arrays of g groups stand in s
pub record GroupsFit (F : Form) (s : List ℕ) (g : ℕ) : Type 0 where
  pub groups : g ≡ group_count F s
  pub groups_within : g ≤ F.group_limit
  pub room : entries_at F g ≤ length s

-- the arrays of a range of n entries stand in s
pub record RangeFits (F : Form) (s : List ℕ) (g n : ℕ) : Type 0 where
  pub groups : g ≡ group_count F s
  pub lists : n ≡ list_count F s
  pub groups_within : g ≤ F.group_limit
  pub lists_within : n ≤ F.list_limit
  pub room : entries_at F g + 18 * n ≤ length s

-- the arrays of t categories stand in s
pub record ListsFit (F : Form) (s : List ℕ) (g n t : ℕ) : Type 0 where
  pub groups : g ≡ group_count F s
  pub lists : n ≡ list_count F s
  pub categories : t ≡ category_count F s
  pub groups_within : g ≤ F.group_limit
  pub lists_within : n ≤ F.list_limit
  pub categories_within : t ≤ F.category_limit
  pub room : entries_at F g + (F.number_width + 8) * t ≤ length s
