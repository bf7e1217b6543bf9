-- Each buffer is filled, and as long as the line tells. Assumes nothing.
use Prim.Native.Nat.{ℕ, ◌≤◌}
use mathlib.Core.Path.{◌≡◌, sym, ap, ◌∙◌}
use mathlib.Core.List.{List}
use native.Mathlib.Omega.{arith}
use Rattle.std.specs.Prelude as Std
use Rattle.base.specs.Form.{narrow}
use Rattle.plan_form.specs.Form.{node_limit}
use Rattle.calls.specs.Walk.{slot_at}
use Rattle.answers.specs.Texts.{number_at, with_number, filled}
use Rattle.answers.specs.Answers.{Confirms}
use Rattle.answers.specs.ListLine.{length_field, asks, stores, defined, stored}
use Rattle.answers.specs.declared.Outcome.{Outcome}
use Rattle.answers.specs.declared.Stored.{Stored}
use Rattle.answers.proofs.Buffers.{part_filled}
use Rattle.answers.proofs.in_buffers.Goals as goal

on_filled : (list : Stored) (line : List ℕ) (r : Std.Option Outcome) {n : ℕ} {lent expected : List ℕ} → number_at (length_field list) line ≡ Std.Some n → filled n ≡ lent → filled n ≡ expected → Std.IfSome r (λ o. Confirms o (asks list line lent) (stores list line expected)) → Std.IfSome r (λ o. Confirms o (defined list line) (stored list line))
unfolding defined stored with_number
on_filled list line r a f g h = rw a (rw (sym f, sym g) at h)

pub returns : goal.returns
returns c =
    let a = c.args in
    let line = a.line.now in
    let within = c.requires.1 in
    on_filled a.list line c.on_lent.result c.requires.0 (part_filled a.n _ within c.filled-lent.ensures.value) (part_filled a.n _ within c.filled-expected.ensures.value) c.on_lent.ensures
