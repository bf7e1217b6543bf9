-- What a step is lent.
use Rattle.std.specs.Prelude.{◌≡◌, Bool, true, false, cond, ◌&&◌, List, ℕ, ◌*◌, ◌≤◌, ◌<◌, ◌+◌, ℤ, length, eqb, leb}
use Rattle.base.specs.Form.{Form, byte_at, nature_at, whole_lists_nature, text_lists_nature, entries_at}
use Rattle.base.specs.Checks.{sizes_fail, fields_fail}
use Rattle.base.specs.declared.Family.{Family}
use Rattle.base.specs.declared.Family.TheVariants as Fam
use Rattle.writer.specs.Written.{ends_room, lists_room, texts_room}
use Rattle.category_lists.specs.Answers.{Stores, Arrays, TextStores}

-- a sheet that passed 3 and 4
pub record Read (F : Form) (s : List ℕ) : Type 0 where
  pub sizes : sizes_fail F s ≡ false
  pub fields : fields_fail F s ≡ false

-- what deriving a nature asks of the output columns and of the two buffers
pub record Ready (F : Form) (columns : ℕ) (first second : List ℕ) : Type 0 where
  pub some_column : 0 < columns
  pub within : columns ≤ F.column_limit
  pub first_room : 9 * F.list_limit ≤ length first
  pub second_room : 9 * F.list_limit ≤ length second

-- a sheet of categories: whole, bool, float or text
abbrev pub holds_categories : Form → List ℕ → Bool
holds_categories F s = leb F.arrays_at (length s) && leb whole_lists_nature (byte_at F nature_at s)

-- a sheet of texts
abbrev pub holds_texts : Form → List ℕ → Bool
holds_texts F s = leb F.arrays_at (length s) && eqb (byte_at F nature_at s) text_lists_nature

-- a sheet of whole categories, which alone are mapped, and combined by every rule
abbrev pub holds_lists : Form → List ℕ → Bool
holds_lists F s = leb F.arrays_at (length s) && eqb (byte_at F nature_at s) whole_lists_nature

-- whether a step maps, combines or unites categories. Modulo, Log and Power never do: 15 or 22 comes first
abbrev pub joins_lists : Family → Form → List ℕ → List ℕ → Bool
joins_lists Fam.Unary F left right = holds_lists F left
joins_lists Fam.Pair F left right = holds_lists F left && holds_lists F right
joins_lists Fam.Copy F left right = false
joins_lists Fam.Pool F left right = holds_categories F left && holds_categories F right

-- whether a step may join or unite texts
abbrev pub joins_texts : Family → Form → List ℕ → List ℕ → Bool
joins_texts Fam.Unary F left right = false
joins_texts Fam.Pair F left right = holds_texts F left && holds_texts F right
joins_texts Fam.Copy F left right = false
joins_texts Fam.Pool F left right = holds_texts F left && holds_texts F right

-- the bytes that the derived nature's arrays have at most: of one that is no text, and of any
abbrev pub arrays_room : Family → Form → List ℕ → List ℕ → ℕ
arrays_room m F left right = cond (joins_lists m F left right) (lists_room F) (ends_room F)

abbrev pub nature_room : Family → Form → List ℕ → List ℕ → ℕ
nature_room m F left right = cond (joins_texts m F left right) (texts_room F) (arrays_room m F left right)

-- the category stores, and room for as many categories as a sheet may hold: lent where they are used
pub record Lent (m : Family) (F : Form) (left right : List ℕ) (us bs store : List ℤ) (hints first second : List ℕ) : Type 0 where
  pub stores : joins_lists m F left right ≡ true → Stores F us bs store hints
  pub arrays : joins_lists m F left right ≡ true → Arrays F first second
  pub texts : joins_texts m F left right ≡ true → TextStores F us bs store first second

-- what every step is lent: two buffers that hold the ends of a range, and a scratch for the sheet
pub record Buffers (m : Family) (F : Form) (left right first second out : List ℕ) : Type 0 where
  pub first_room : 9 * F.list_limit ≤ length first
  pub second_room : 9 * F.list_limit ≤ length second
  pub sheet_room : entries_at F F.group_limit + nature_room m F left right ≤ length out
