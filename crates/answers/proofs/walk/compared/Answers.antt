-- What `bytes_of` put is what the field tells, and the gate answers as defined. Assumes nothing.
use Prim.Native.Nat.{ℕ}
use mathlib.Core.Path.{◌≡◌, sym}
use mathlib.Core.Option.{some, bind}
use mathlib.Core.List.{List}
use Rattle.std.specs.Prelude as Std
use Rattle.base.specs.Form.{narrow}
use Rattle.calls.specs.Single.{Outcome, outcome}
use Rattle.calls.specs.Walk as Walk
use Rattle.answers.specs.Texts.{bytes_at}
use Rattle.slots.specs.Sheets.{laid, leaves_of, laid_out}
use Rattle.answers.specs.PlanLine.{plan_asks, plan_stores}
use Rattle.answers.proofs.Buffers.{confirms, bytes_told}
use Rattle.answers.proofs.walk.compared.Goals as goal

asked : (line work : List ℕ) {p w : List ℕ} {o : Outcome} → bytes_at 0 line ≡ some p → laid (leaves_of line) 0 work ≡ some w → o ≡ Walk.plan narrow p w → plan_asks line work ≡ some o
unfolding plan_asks bind
asked line work e f g = rw (e, f, sym g)

stored : (line : List ℕ) (code value : ℕ) (d : List ℕ) {d' : List ℕ} → laid_out line d ≡ some d' → plan_stores line code value d ≡ some (outcome code value d')
unfolding plan_stores bind
stored line code value d e = rw e

pub returns : goal.returns
returns c =
    let a = c.args in
    let line = a.line.now in
    let p = bytes_told c.field.ensures a.plan.now c.bytes_of.new.out c.in_ok-n.ensures.puts in
    let out = c.in_ok-leaves.ensures in
    confirms (Std.Some c.compared.result) (asked line a.work.now p out.1 c.propagate_properties-reply.ensures.bytes) (stored line a.call.code a.call.value a.expected.now out.2) (rw c.from.ensures at c.compared.ensures)
