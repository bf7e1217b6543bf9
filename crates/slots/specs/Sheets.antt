-- The sheets that a line of the list of plans lays into the slots of a work buffer.
use Rattle.std.specs.Prelude.{ℕ, ◌+◌, ◌≡◌, cond, List, [], ◌∷◌, ◌++◌, leb, length, take, drop}
use Rattle.std.specs.Prelude as Std
use Rattle.std.specs.Str.{bytes_eq}
use Rattle.std.proofs.Math.Option.{Option, none, some, bind}
use Rattle.base.specs.Form.{narrow, longest}
use Rattle.calls.specs.Walk.{slot_at}
use Rattle.lines.specs.Fields.{parts, field_of}
use Rattle.lines.specs.Bytes.{field_bytes}

-- the texts of a field's sheets: commas, which are 44, join them, and `-`, which is 45, stands for none
unfoldable pub texts : List ℕ → List (List ℕ)
texts s = cond (bytes_eq s (45 ∷ [])) [] (parts 44 s)

-- a text's sheet at the start of slot k, with every other byte as it was; none where it is no text of bytes, or longer than a slot
unfoldable pub placed : List ℕ → ℕ → List ℕ → Option (List ℕ)
placed s k d =
    bind (field_bytes s)
    (λ sheet. cond (leb (length sheet) (longest narrow)) (some (take (slot_at narrow k) d ++ (sheet ++ drop (slot_at narrow k + length sheet) d))) none)

-- the sheets of these texts in the slots from k on
unfoldable pub laid : List (List ℕ) → ℕ → List ℕ → Option (List ℕ)
laid [] k d = some d
laid (s ∷ ss) k d = bind (placed s k d) (λ d'. laid ss (k + 1) d')

abbrev pub leaves_of : List ℕ → List (List ℕ)
leaves_of line = texts (field_of 2 line)

-- the leaves of a line, and the derived sheets behind them
unfoldable pub laid_out : List ℕ → List ℕ → Option (List ℕ)
laid_out line d = bind (laid (leaves_of line) 0 d) (λ w. laid (texts (field_of 5 line)) (length (leaves_of line)) w)

-- a field's sheets stand in the slots from k on, and the answer is the slot behind them
abbrev pub Lays : Std.Option ℕ → List ℕ → ℕ → List ℕ → List ℕ → Type 0
Lays (Std.Some n) s k d d' = (n ≡ k + length (texts s)) × (laid (texts s) k d ≡ some d')
Lays Std.None s k d d' = Unit {0}

-- the leaves of a line stand in the work buffer and in what is expected, and the derived sheets behind them in the latter alone
abbrev pub LaidOut : Std.Option ℕ → List ℕ → List ℕ → List ℕ → List ℕ → List ℕ → Type 0
LaidOut (Std.Some n) line w w' e e' = (n ≡ length (leaves_of line)) × (laid (leaves_of line) 0 w ≡ some w') × (laid_out line e ≡ some e')
LaidOut Std.None line w w' e e' = Unit {0}
