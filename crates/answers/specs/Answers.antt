-- What the outcome of a line says of the line's text.
use Rattle.std.specs.Prelude.{ℕ, ◌≡◌, Bool, true, false, List}
use Rattle.std.proofs.Math.Option.{Option, some}
use Rattle.calls.specs.Single as Single
use Rattle.replies.specs.Reply.{replied}
use Rattle.answers.specs.declared.Outcome.{Outcome}
use Rattle.answers.specs.declared.Outcome.TheVariants as O

-- where a line agrees, what it stores is what is defined: code, value and every byte; where it differs, the reply is as defined and the line stores
-- another; of a line that cannot be read nothing is said
abbrev pub Confirms : Outcome → Option Single.Outcome → Option Single.Outcome → Type 0
Confirms (O.Agrees said) defined stored = (o : Single.Outcome) × (defined ≡ some o) × (stored ≡ some o)
Confirms (O.Differs said reply) defined stored =
    (bytes : List ℕ) × (o : Single.Outcome) × (defined ≡ some (replied reply bytes)) × (stored ≡ some o) × (replied reply bytes ≡ o → ⊥)
Confirms O.Unread defined stored = Unit {0}
Confirms O.Comment defined stored = ⊥

-- a line that says nothing, and any other
abbrev pub Judged : Bool → Outcome → Option Single.Outcome → Option Single.Outcome → Type 0
Judged true o defined stored = o ≡ O.Comment
Judged false o defined stored = Confirms o defined stored
