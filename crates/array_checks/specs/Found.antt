-- What one pass over the entries of a range finds by checks 4 and 5.
use Rattle.std.specs.Prelude.{◌≡◌, ℕ, Bool, not, List}
use Rattle.base.specs.Form.{Form}
use Rattle.base.specs.Checks.{holds_from, ends_permitted}
use Rattle.base.specs.Entries.{entry_holds}
use Rattle.array_checks.specs.declared.Faults.{Faults}

-- r is what 4 and 5 find in n entries, each of them in all
pub record EntryFaults (F : Form) (floats : Bool) (s : List ℕ) (n : ℕ) (r : Faults) : Type 0 where
  pub fields : r.fields ≡ not (holds_from n 0 (ends_permitted F s))
  pub bounds : r.bounds ≡ not (holds_from n 0 (entry_holds F floats s))
