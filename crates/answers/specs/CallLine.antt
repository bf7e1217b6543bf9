-- A line of the list of calls, `component node left right out_len code result mark`: the call that it asks for, and the answer that it stores.
use Rattle.std.specs.Prelude.{ℕ, List, ◌++◌, length, drop}
use Rattle.std.proofs.Math.Option.{Option, some, bind}
use Rattle.base.specs.Form.{narrow}
use Rattle.calls.specs.Single.{Outcome, outcome, single}
use Rattle.answers.specs.Texts.{number_at, bytes_at, with_number}

-- what the definition gives on an output, and what the line has it hold afterwards: the result, with later bytes as they were
unfoldable pub call_asks : List ℕ → ℕ → ℕ → List ℕ → Option Outcome
call_asks line component node out = bind (bytes_at 2 line) (λ left. bind (bytes_at 3 line) (λ right. some (single narrow component node left right out)))

unfoldable pub call_stores : List ℕ → ℕ → List ℕ → Option Outcome
call_stores line code out = bind (bytes_at 6 line) (λ result. some (outcome code (length result) (result ++ drop (length result) out)))

-- the same, with the numbers that the line tells
unfoldable pub call_defined : List ℕ → List ℕ → Option Outcome
call_defined line out = with_number (number_at 0 line) (λ component. with_number (number_at 1 line) (λ node. call_asks line component node out))

unfoldable pub call_stored : List ℕ → List ℕ → Option Outcome
call_stored line out = with_number (number_at 5 line) (λ code. call_stores line code out)
