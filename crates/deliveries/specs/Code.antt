-- What a step left at the start of a buffer, and what becomes of it.
use Rattle.std.specs.Prelude.{List, ℕ, ◌≤◌, take}
use Rattle.base.specs.Refusals.{number_of, Answer}
use Rattle.std.specs.declared.result.Result as Rust
use Rattle.std.specs.declared.result.Result.TheVariants as U
use Rattle.numbers.specs.Result.{Result, ok, refused}
use Rattle.calls.specs.Single.{Outcome, outcome}

-- the bytes that a step left at the start of a buffer, or its refusal, by the number that a refusal has; and of the code's own refusals
abbrev pub step_in_by : {E : Type 0} → (E → ℕ) → Rust.Result ℕ E → List ℕ → Result (List ℕ)
step_in_by number (U.Ok n) d = ok (take n d)
step_in_by number (U.Err e) d = refused (number e)

abbrev pub step_in : Answer ℕ → List ℕ → Result (List ℕ)
step_in = step_in_by number_of

-- what a step left is no longer than the buffer
abbrev pub Held : {E : Type 0} → Rust.Result ℕ E → ℕ → Type 0
Held (U.Ok n) size = n ≤ size
Held (U.Err e) size = Unit {0}

-- 01's number and length for an answer, and the lent bytes afterwards
abbrev pub given_by : {E : Type 0} → (E → ℕ) → Rust.Result ℕ E → List ℕ → Outcome
given_by number (U.Ok n) bytes = outcome 0 n bytes
given_by number (U.Err e) bytes = outcome (number e) 0 bytes

abbrev pub given : Answer ℕ → List ℕ → Outcome
given = given_by number_of
