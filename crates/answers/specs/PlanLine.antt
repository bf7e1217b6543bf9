-- A line of the list of plans, `plan work_len leaves code value result`: the plan call that it asks for, and the answer that it stores.
use Rattle.std.specs.Prelude.{ℕ, List}
use Rattle.std.proofs.Math.Option.{Option, some, bind}
use Rattle.base.specs.Form.{narrow}
use Rattle.calls.specs.Single.{Outcome, outcome}
use Rattle.calls.specs.Walk as Walk
use Rattle.answers.specs.Texts.{number_at, bytes_at, with_number}
use Rattle.slots.specs.Sheets.{laid, leaves_of, laid_out}

-- what the definition gives on a work buffer with the leaves laid out, and what the line has it hold afterwards: the derived sheets too
unfoldable pub plan_asks : List ℕ → List ℕ → Option Outcome
plan_asks line work = bind (bytes_at 0 line) (λ p. bind (laid (leaves_of line) 0 work) (λ w. some (Walk.plan narrow p w)))

unfoldable pub plan_stores : List ℕ → ℕ → ℕ → List ℕ → Option Outcome
plan_stores line code value work = bind (laid_out line work) (λ w. some (outcome code value w))

-- the same, with the numbers that the line tells
unfoldable pub plan_stored : List ℕ → List ℕ → Option Outcome
plan_stored line work = with_number (number_at 3 line) (λ code. with_number (number_at 4 line) (λ value. plan_stores line code value work))
