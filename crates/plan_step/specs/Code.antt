-- What a step of a plan asks for, and what it answers.
use Rattle.std.specs.Prelude.{List, ℕ, ◌+◌, ◌*◌, ◌≤◌, ℤ, length}
use Rattle.base.specs.Form.{Form, entries_at, longest}
use Rattle.writer.specs.Written.{ends_room, lists_room}
use Rattle.category_lists.specs.Answers.{Stores, Arrays, TextStores}

-- what every step of a plan is lent: room for the ends of a range, and for the sheet of one
pub record Rooms (F : Form) (first second scratch : List ℕ) : Type 0 where
  pub first_room : 9 * F.list_limit ≤ length first
  pub second_room : 9 * F.list_limit ≤ length second
  pub sheet_room : entries_at F F.group_limit + ends_room F ≤ length scratch

-- what a step that may combine, map or unite categories is lent
pub record ListsLent (F : Form) (us bs store : List ℤ) (hints first second scratch : List ℕ) : Type 0 where
  pub stores : Stores F us bs store hints
  pub arrays : Arrays F first second
  pub sheet_room : entries_at F F.group_limit + lists_room F ≤ length scratch

-- .. and one that may join or unite texts
pub record TextsLent (F : Form) (us bs store : List ℤ) (first second scratch : List ℕ) : Type 0 where
  pub stores : TextStores F us bs store first second
  pub sheet_room : longest F ≤ length scratch

-- what a step of a plan is lent that may do either
pub record Large (F : Form) (us bs store : List ℤ) (hints first second scratch : List ℕ) : Type 0 where
  pub lists : ListsLent F us bs store hints first second scratch
  pub texts : TextsLent F us bs store first second scratch
