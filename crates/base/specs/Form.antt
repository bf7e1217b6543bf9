-- The stored form of a sheet: limits, widths and places, all in this one module. 01: "The sheet, bytes little-endian".
use Rattle.std.specs.Prelude.{Bool, cond, ◌||◌, List, ◌≡◌, ℕ, ◌+◌, ◌*◌, ◌≤◌, ◌<◌, ◌^◌, get_or, eqb}
use Rattle.octets.specs.Le.{le_at}
use Rattle.base.specs.declared.form.Form.{Form as Named}
use Rattle.base.specs.declared.form.Form.TheVariants as N

-- what one stored form has that another may have otherwise
pub record Form : Type 0 where
  pub group_limit : ℕ
  pub list_limit : ℕ
  pub category_limit : ℕ
  pub column_limit : ℕ
  -- how many bytes the text area may have
  pub text_limit : ℕ
  -- the bytes of each of the three sizes, and of a category's list number
  pub size_width : ℕ
  pub number_width : ℕ
  -- how far behind 01's places the fields from the nature on stand
  pub shift : ℕ
  -- where the arrays begin
  pub arrays_at : ℕ

-- 01: "groups g (to 4)", "list count n (to 16)", "category count t (to 128)", "Columns are 1 to 16", "16 bits each", "list numbers (8 bits)", "From 80".
-- 02, S-2: "The area's size .. over 1,024 is code 3"
abbrev pub narrow : Form
narrow = record {
  group_limit = 4;
  list_limit = 16;
  category_limit = 128;
  column_limit = 16;
  text_limit = 1024;
  size_width = 2;
  number_width = 1;
  shift = 0;
  arrays_at = 80;
}

-- 02, S-10: "sizes of 32 bits at 0, 4 and 8, the old bytes 6 to 79 at 12 to 85, two zero bytes, then the same arrays with list numbers of 16 bits";
-- "Limits are 64 columns, 64 lists, 1,024 categories; groups and text keep theirs". No call takes this form yet, and nothing is promised of it.
abbrev pub wide : Form
wide = record {
  group_limit = 4;
  list_limit = 64;
  category_limit = 1024;
  column_limit = 64;
  text_limit = 1024;
  size_width = 4;
  number_width = 2;
  shift = 6;
  arrays_at = 88;
}

-- the form that the code names
abbrev pub form_of : Named → Form
form_of N.Narrow = narrow
form_of N.Wide = wide

module _ (F : Form) where
  -- 01: "at 0 groups g", "2 list count n", "4 category count t"
  abbrev pub group_count : List ℕ → ℕ
  group_count s = le_at F.size_width 0 s

  abbrev pub list_count : List ℕ → ℕ
  list_count s = le_at F.size_width F.size_width s

  abbrev pub category_count : List ℕ → ℕ
  category_count s = le_at F.size_width (2 * F.size_width) s

  -- a field's place in this form, from its place in 01
  abbrev pub place : ℕ → ℕ
  place k = k + F.shift

  abbrev pub byte_at : ℕ → List ℕ → ℕ
  byte_at k s = get_or s (place k) 0

-- 01: "One byte each: 6 nature", "7 data type", "8 nullity, 9 releasable, 10 not empty, 11 naturally ordered"
abbrev pub nature_at : ℕ
nature_at = 6

abbrev pub type_at : ℕ
type_at = 7

abbrev pub nullity_at : ℕ
nullity_at = 8

abbrev pub releasable_at : ℕ
releasable_at = 9

abbrev pub not_empty_at : ℕ
not_empty_at = 10

abbrev pub ordered_at : ℕ
ordered_at = 11

-- 01: "At 12 c-stability, 16 aggregator"
abbrev pub c_stability_at : ℕ
c_stability_at = 12

abbrev pub aggregator_at : ℕ
aggregator_at = 16

-- 01: "Marks of presence at 20 to 24 for rows, columns, dataset id, dimensionality, sample proportion; 25 to 31 zero". 02, S-2: "The area's size stands in bytes
-- 26 and 27"; 25 and 28 to 31 stay zero
abbrev pub rows_mark_at : ℕ
rows_mark_at = 20

abbrev pub columns_mark_at : ℕ
columns_mark_at = 21

abbrev pub dataset_mark_at : ℕ
dataset_mark_at = 22

abbrev pub dimensionality_mark_at : ℕ
dimensionality_mark_at = 23

abbrev pub sample_mark_at : ℕ
sample_mark_at = 24

abbrev pub reserved_at : ℕ
reserved_at = 25

abbrev pub area_size_at : ℕ
area_size_at = 26

abbrev pub later_at : ℕ
later_at = 28

abbrev pub later_count : ℕ
later_count = 4

-- 01: "Then 64 bits each: those five from 32, node at 72"
abbrev pub rows_at : ℕ
rows_at = 32

abbrev pub columns_at : ℕ
columns_at = 40

abbrev pub dataset_at : ℕ
dataset_at = 48

abbrev pub dimensionality_at : ℕ
dimensionality_at = 56

abbrev pub sample_at : ℕ
sample_at = 64

abbrev pub node_at : ℕ
node_at = 72

-- the place behind the last field
abbrev pub fields_end : ℕ
fields_end = 80

-- 01: "nature (0 absent, 1 whole range, 2 float range, 3 whole, 4 bool, 5 float categories)"; 02, S-2: "Nature 6 holds text categories"
abbrev pub absent_nature : ℕ
absent_nature = 0

abbrev pub whole_range_nature : ℕ
whole_range_nature = 1

abbrev pub float_range_nature : ℕ
float_range_nature = 2

abbrev pub whole_lists_nature : ℕ
whole_lists_nature = 3

abbrev pub bool_lists_nature : ℕ
bool_lists_nature = 4

abbrev pub float_lists_nature : ℕ
float_lists_nature = 5

abbrev pub text_lists_nature : ℕ
text_lists_nature = 6

abbrev pub last_nature : ℕ
last_nature = 6

-- 01: "for natures 1 and 2"
abbrev pub is_range_nature : ℕ → Bool
is_range_nature k = eqb k whole_range_nature || eqb k float_range_nature

-- 01: "data type (0 Unknown, 1 Bool, 2 Str, 3 Float, 4 Int)"
abbrev pub float_type : ℕ
float_type = 3

abbrev pub int_type : ℕ
int_type = 4

abbrev pub last_type : ℕ
last_type = 4

-- 01: "a kind byte 1 Int, 2 Bool, 3 Str"
abbrev pub bool_key : ℕ
bool_key = 2

abbrev pub last_key : ℕ
last_key = 3

module _ (F : Form) where
  -- 01: "g partition ids (32 bits) and g indexes (a kind byte .., and 64 signed bits)": an index is a record of 9 bytes
  abbrev pub partition_at : ℕ → ℕ
  partition_at i = F.arrays_at + 4 * i

  abbrev pub key_at : ℕ → ℕ → ℕ
  key_at g i = F.arrays_at + 4 * g + 9 * i

  -- where a range's or a category's arrays begin
  abbrev pub entries_at : ℕ → ℕ
  entries_at g = F.arrays_at + 13 * g

  -- 01: "A range then has n lowers and n uppers, each a mark and 64 bits"
  abbrev pub lower_at : ℕ → ℕ → ℕ
  lower_at g i = entries_at g + 9 * i

  abbrev pub upper_at : ℕ → ℕ → ℕ → ℕ
  upper_at g n i = entries_at g + 9 * n + 9 * i

  -- 01: "Categories have t list numbers (8 bits ..) and t values (64 bits ..)"
  abbrev pub number_at : ℕ → ℕ → ℕ
  number_at g i = entries_at g + F.number_width * i

  abbrev pub value_at : ℕ → ℕ → ℕ → ℕ
  value_at g t i = entries_at g + F.number_width * t + 8 * i

  -- 02, S-2: "a text area after the arrays", which are those of categories
  abbrev pub area_at : ℕ → ℕ → ℕ
  area_at g t = entries_at g + (F.number_width + 8) * t

  -- 02, S-2: "The area's size stands in bytes 26 and 27"
  abbrev pub area_size : List ℕ → ℕ
  area_size s = le_at 2 (place F area_size_at) s

  -- 01: "The length called for is 80 + 13g, plus 18n for natures 1 and 2, else plus 9t". 02, S-2: the area's size "is added to the length called for under
  -- any nature"
  abbrev pub called_for : ℕ → ℕ → ℕ → ℕ → ℕ → ℕ
  called_for nature g n t a = F.arrays_at + 13 * g + cond (is_range_nature nature) (18 * n) ((F.number_width + 8) * t) + a

  abbrev pub length_called_for : List ℕ → ℕ
  length_called_for s = called_for (byte_at F nature_at s) (group_count F s) (list_count F s) (category_count F s) (area_size s)

  -- 02, S-2: "Slots and the longest sheet become 2,308 bytes"
  abbrev pub longest : ℕ
  longest = called_for text_lists_nature F.group_limit F.list_limit F.category_limit F.text_limit

-- a form whose places do not overlap, whose limits fit their widths, and whose derived natures keep to the limits
pub record Laid (F : Form) : Type 0 where
  -- the nature stands right behind the three sizes, the arrays behind the last field
  pub sizes : 3 * F.size_width ≡ place F nature_at
  pub arrays : place F fields_end ≤ F.arrays_at
  -- a size and a list number have bytes
  pub sized : 0 < F.size_width
  pub numbered : 0 < F.number_width
  -- a sheet may have a list
  pub listed : 0 < F.list_limit
  pub groups_counted : F.group_limit < 256 ^ F.size_width
  pub lists_counted : F.list_limit < 256 ^ F.size_width
  pub categories_counted : F.category_limit < 256 ^ F.size_width
  -- the area's size has 16 bits
  pub area_counted : F.text_limit < 256 ^ 2
  pub lists_numbered : F.list_limit ≤ 256 ^ F.number_width
  -- a derived range has one entry per column
  pub columns_listed : F.column_limit ≤ F.list_limit
  -- the longest sheet is one of categories
  pub ranges_shorter : 18 * F.list_limit ≤ (F.number_width + 8) * F.category_limit

-- bounds far below the ends of a usize, for the code's sums
pub record Small (F : Form) : Type 0 where
  pub groups : F.group_limit ≤ 4
  pub lists : F.list_limit ≤ 64
  pub categories : F.category_limit ≤ 1024
  pub text : F.text_limit ≤ 1024
  pub sizes : F.size_width ≤ 4
  pub sizes_read : 256 ^ F.size_width ≤ 2 ^ 32
  pub numbers : F.number_width ≤ 2
  pub shifted : F.shift ≤ 6
  pub arrays : F.arrays_at ≤ 88
