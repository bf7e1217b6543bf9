-- Bytes as hexadecimal text.
use Rattle.std.specs.Prelude.{ℕ, ◌<◌, ◌≡◌, cond, List, [], ◌∷◌, ◌++◌, eqb, length, drop}
use Rattle.std.specs.Prelude as Std
use Rattle.std.proofs.Math.Option.{Option, none, some}
use Rattle.lines.specs.Digits.{hex_digit, joined}

unfoldable pub with_byte : Std.Option ℕ → Option (List ℕ) → Option (List ℕ)
with_byte (Std.Some v) (some vs) = some (v ∷ vs)
with_byte (Std.Some v) none = none
with_byte Std.None o = none

-- two lower-case digits a byte
unfoldable pub bytes_in : List ℕ → Option (List ℕ)
bytes_in [] = some []
bytes_in (a ∷ []) = none
bytes_in (a ∷ b ∷ s) = with_byte (joined (hex_digit a) (hex_digit b)) (bytes_in s)

-- the bytes of a field: `-`, which is 45, for none; an empty field is none of a list's
unfoldable pub field_bytes : List ℕ → Option (List ℕ)
field_bytes [] = none
field_bytes (a ∷ []) = cond (eqb a 45) (some []) none
field_bytes (a ∷ b ∷ s) = bytes_in (a ∷ b ∷ s)

-- the bytes stand at the start of the buffer, with later bytes as they were; or there are none, or too many for the buffer
abbrev pub Puts : Std.Option ℕ → Option (List ℕ) → List ℕ → List ℕ → Type 0
Puts (Std.Some n) o d d' = (vs : List ℕ) × (o ≡ some vs) × (length vs ≡ n) × (d' ≡ vs ++ drop n d)
Puts Std.None o d d' = (vs : List ℕ) → o ≡ some vs → length d < length vs
