-- What writing a sheet asks for.
use Rattle.std.specs.Prelude.{◌≡◌, false, List, ℕ, ◌+◌, ◌≤◌, length}
use Rattle.base.specs.Form.{Form, group_count, entries_at}
use Rattle.base.specs.Checks.{sizes_fail}
use Rattle.writer.specs.declared.Parts.{Parts}

-- `source` passed check 3, the two buffers hold the arrays, the counts keep to their limits, and the sheet fits `buf`
pub record Room (F : Form) (p : Parts) (first second source buf : List ℕ) : Type 0 where
  pub sized : sizes_fail F source ≡ false
  pub first_held : p.first ≤ length first
  pub second_held : p.second ≤ length second
  pub entries_fit : p.entries ≤ F.list_limit
  pub values_fit : p.values ≤ F.category_limit
  pub text_fits : p.text ≤ F.text_limit
  pub sheet_fits : entries_at F (group_count F source) + p.first + p.second ≤ length buf
