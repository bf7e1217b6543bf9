-- A line of either list.
use Rattle.std.specs.Prelude.{ℕ, List}
use Rattle.std.proofs.Math.Option.{Option}
use Rattle.calls.specs.Single.{Outcome}
use Rattle.answers.specs.Texts.{number_at, with_number, filled}
use Rattle.answers.specs.CallLine.{call_defined, call_stored}
use Rattle.answers.specs.PlanLine.{plan_asks, plan_stored}
use Rattle.answers.specs.declared.Stored.{Stored}
use Rattle.answers.specs.declared.Stored.TheVariants as S

-- the field that has the length of the lent buffer
abbrev pub length_field : Stored → ℕ
length_field S.Calls = 4
length_field S.Plans = 1

-- what is defined, and what the line stores, of a lent buffer
abbrev pub asks : Stored → List ℕ → List ℕ → Option Outcome
asks S.Calls line lent = call_defined line lent
asks S.Plans line lent = plan_asks line lent

abbrev pub stores : Stored → List ℕ → List ℕ → Option Outcome
stores S.Calls line lent = call_stored line lent
stores S.Plans line lent = plan_stored line lent

-- the same of one that is filled, of the length that the line tells
unfoldable pub defined : Stored → List ℕ → Option Outcome
defined list line = with_number (number_at (length_field list) line) (λ n. asks list line (filled n))

unfoldable pub stored : Stored → List ℕ → Option Outcome
stored list line = with_number (number_at (length_field list) line) (λ n. stores list line (filled n))
