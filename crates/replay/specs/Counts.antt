-- What one line more makes of the counts.
use Rattle.std.specs.Prelude.{◌≡◌, ℕ, ◌+◌, ◌-◌, ◌^◌, min, cond, List, nat_lt, slice_index, slice_set}
use Rattle.answers.specs.declared.Outcome.{Outcome}
use Rattle.answers.specs.declared.Outcome.TheVariants as O
use Rattle.replay.specs.declared.tally.Tally.{Tally}

-- the largest number of 64 bits stays
abbrev pub one_more : ℕ → ℕ
one_more n = min (n + 1) (2 ^ 64 - 1)

-- the components are 1 to 10; 0 stands for every other number, and for a plan
unfoldable pub place_of : ℕ → ℕ
place_of component = cond (nat_lt component 11) component 0

abbrev pub one_more_at : ℕ → List ℕ → List ℕ
one_more_at k counts = slice_set counts k (one_more (slice_index counts k))

-- a line that agrees is counted as one that agrees, one that differs as one that differs, one that cannot be read as that, and a comment as none of them
abbrev pub Counted : Outcome → Tally → Tally → Type 0
Counted O.Comment t t' = (t'.unread ≡ t.unread) × (t'.agree ≡ t.agree) × (t'.differ ≡ t.differ)
Counted O.Unread t t' = (t'.unread ≡ one_more t.unread) × (t'.agree ≡ t.agree) × (t'.differ ≡ t.differ)
Counted (O.Agrees said) t t' = (t'.unread ≡ t.unread) × (t'.agree ≡ one_more_at (place_of said.component) t.agree) × (t'.differ ≡ t.differ)
Counted (O.Differs said reply) t t' = (t'.unread ≡ t.unread) × (t'.agree ≡ t.agree) × (t'.differ ≡ one_more_at (place_of said.component) t.differ)
