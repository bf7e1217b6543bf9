-- A reply of 64 bits, taken apart.
use Rattle.std.specs.Prelude.{List, ℕ, ◌/◌, ◌%◌, ◌^◌}
use Rattle.calls.specs.Single.{Outcome, outcome}
use Rattle.rights.specs.Reveal.{Revealed, revealed}

-- the code in the low 32 bits, the value in the high 32
abbrev pub replied : ℕ → List ℕ → Outcome
replied r bytes = outcome (r % 2 ^ 32) (r / 2 ^ 32) bytes

-- .. of a call that is lent two buffers
abbrev pub shown : ℕ → List ℕ → List ℕ → Revealed
shown r work out = revealed (r % 2 ^ 32) (r / 2 ^ 32) work out
