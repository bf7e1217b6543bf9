-- The numbers and the bytes that a line tells, and the buffers that a call is lent.
use Rattle.std.specs.Prelude.{ℕ, List, replicate}
use Rattle.std.specs.Prelude as Std
use Rattle.std.proofs.Math.Option.{Option, none}
use Rattle.calls.specs.Single.{Outcome}
use Rattle.lines.specs.Fields.{field_of}
use Rattle.lines.specs.Digits.{number_of}
use Rattle.lines.specs.Bytes.{field_bytes}

abbrev pub number_at : ℕ → List ℕ → Std.Option ℕ
number_at k line = number_of (field_of k line)

abbrev pub bytes_at : ℕ → List ℕ → Option (List ℕ)
bytes_at k line = field_bytes (field_of k line)

-- none where the field is no number
unfoldable pub with_number : Std.Option ℕ → (ℕ → Option Outcome) → Option Outcome
with_number (Std.Some v) f = f v
with_number Std.None f = none

-- what a buffer of n bytes holds where a list lays nothing
unfoldable pub filled : ℕ → List ℕ
filled n = replicate n 165
