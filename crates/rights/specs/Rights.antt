-- 02, S-7: "Which rink may see which node".
use Rattle.std.specs.Prelude.{Bool, ◌||◌, List, ℕ, ◌*◌, eqb, leb}
use Rattle.std.specs.Int.Bits.{bit_or}
use Rattle.std.specs.Int.Count.{ones}
use Rattle.octets.specs.Le.{le_at}
use Rattle.standing.specs.Standing.{by_operands}

-- "Each leaf comes with a 64-bit set of owning rinks": set k at 8 k
abbrev pub owner_bytes : ℕ
owner_bytes = 8

abbrev pub owner_set : List ℕ → ℕ → ℕ
owner_set owners k = le_at owner_bytes (owner_bytes * k) owners

-- "a step's owners are the union of its operands'"
abbrev pub owners_of : List ℕ → List ℕ → ℕ → ℕ
owners_of p owners = by_operands p (owner_set owners) (λ k left right. bit_or left right)

-- "the owners all lie in the reader's set": with them the reader's set is no larger
abbrev pub inside : ℕ → ℕ → Bool
inside owners reader = eqb (bit_or owners reader) reader

-- 01 (02): "the owners number five or more": the "count of ones in the 64-bit owner set decides"
abbrev pub fewest_shown : ℕ
fewest_shown = 5

-- "The sheet is shown if the owners all lie in the reader's set, or if the owners number five or more"
unfoldable pub seen : ℕ → ℕ → Bool
seen owners reader = inside owners reader || leb fewest_shown (ones owners)
