-- How the code keeps a text of an operand, and the join of two, without storing their bytes.
use Rattle.std.specs.Prelude.{Bool, List, ◌++◌, ℕ, ◌+◌, ◌*◌, ◌^◌, ◌/◌, ◌%◌, ◌≤◌, ◌<◌, ℤ, length, take, drop}
use Rattle.base.specs.Form.{Form, group_count, category_count, area_at, area_size}
use Rattle.base.specs.Decode.{as_whole, start_in, length_in}
use Rattle.base.specs.Encode.{whole_bits}
use Rattle.category_lists.specs.Categories.{same_text}

-- a part of 32 bits: where a text starts in its sheet's area, and its length, 16 bits each
abbrev pub part_start : ℕ → ℕ
part_start p = p % 2 ^ 16

abbrev pub part_length : ℕ → ℕ
part_length p = p / 2 ^ 16

-- the part that a stored value names
abbrev pub part_of : ℕ → ℕ
part_of v = start_in v + 2 ^ 16 * length_in v

-- a join of 64 bits: a part of left, and above it a part of right. The part 0 is the empty text
abbrev pub left_part : ℕ → ℕ
left_part c = c % 2 ^ 32

abbrev pub right_part : ℕ → ℕ
right_part c = c / 2 ^ 32

abbrev pub join_of : ℕ → ℕ → ℕ
join_of p q = p + 2 ^ 32 * q

-- a part and a join as stores hold them, which are of whole numbers
abbrev pub as_part : ℕ → ℤ
as_part v = as_whole (part_of v)

abbrev pub join_code : ℤ → ℤ → ℤ
join_code a b = as_whole (join_of (whole_bits a) (whole_bits b))

module _ (F : Form) where
  unfoldable pub part_in : List ℕ → ℕ → List ℕ
  part_in s p = take (part_length p) (drop (area_at F (group_count F s) (category_count F s) + part_start p) s)

  unfoldable pub join_in : List ℕ → List ℕ → ℕ → List ℕ
  join_in left right c = part_in left (left_part c) ++ part_in right (right_part c)

  -- the area of s stands in s, and a part in that area
  pub record PartLies (s : List ℕ) (p : ℕ) : Type 0 where
    pub small : p < 2 ^ 32
    pub area : area_at F (group_count F s) (category_count F s) + area_size F s ≤ length s
    pub within : part_start p + part_length p ≤ area_size F s

  pub record JoinLies (left right : List ℕ) (c : ℕ) : Type 0 where
    pub lefts : PartLies left (left_part c)
    pub rights : PartLies right (right_part c)

  -- the text that a number in a store stands for
  abbrev pub join_at : List ℕ → List ℕ → ℤ → List ℕ
  join_at left right z = join_in left right (whole_bits z)

  -- joins are compared as the bytes that they come to
  abbrev pub same_join : List ℕ → List ℕ → ℤ → ℤ → Bool
  same_join left right x y = same_text (join_at left right x) (join_at left right y)
