-- The line's numbers are told. Assumes nothing.
use Prim.Native.Nat.{ℕ}
use mathlib.Core.Path.{◌≡◌, refl, sym, ◌∙◌}
use mathlib.Core.List.{List}
use Rattle.std.specs.Prelude as Std
use Rattle.answers.specs.Texts.{number_at, with_number}
use Rattle.answers.specs.PlanLine.{plan_stores, plan_stored}
use Rattle.answers.proofs.Buffers.{confirms}
use Rattle.answers.proofs.walk.judged.Goals as goal

is_stored : (line work : List ℕ) {code value : ℕ} → number_at 3 line ≡ Std.Some code → number_at 4 line ≡ Std.Some value → plan_stored line work ≡ plan_stores line code value work
unfolding plan_stored with_number
is_stored line work a b = rw (a, b)

pub returns : goal.returns
returns c =
    let a = c.args in
    let code = sym c.number_at.ensures ∙ c.in_ok-number_at.was in
    let value = sym c.number_at-2.ensures ∙ c.in_ok-number_at-2.was in
    confirms c.compared.result refl (is_stored a.line.now a.expected.now code value) c.compared.ensures
