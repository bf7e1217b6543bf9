-- The sizes of the buffers that are made for steps.
use Rattle.std.specs.Prelude.{◌≡◌, Bool, true, ℕ, ◌+◌, ◌*◌, ◌^◌, ◌<◌, ◌≤◌}
use Rattle.utilities.specs.Noted.{hint_count}
use Rattle.base.specs.Form.{Form, entries_at, longest}
use Rattle.writer.specs.Written.{ends_room, lists_room}

-- .. beside a first one, of the ends of a range: `lists` says that a step may combine, map or unite categories, `texts` that it may join or unite texts
pub record Sizes (F : Form) (lists texts : Bool) (second stores hints sheet : ℕ) : Type 0 where
  pub small : (second < 2 ^ 32) × (stores < 2 ^ 32) × (hints < 2 ^ 32) × (sheet < 2 ^ 32)
  pub second_room : 9 * F.list_limit ≤ second
  pub sheet_room : entries_at F F.group_limit + ends_room F ≤ sheet
  pub for_lists : lists ≡ true → (stores ≡ F.category_limit) × (hints ≡ hint_count) × (8 * F.category_limit ≤ second) × (entries_at F F.group_limit + lists_room F ≤ sheet)
  pub for_texts : texts ≡ true → (stores ≡ F.category_limit) × (8 * F.category_limit + F.text_limit ≤ second) × (longest F ≤ sheet)
