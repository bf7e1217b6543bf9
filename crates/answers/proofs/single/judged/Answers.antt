-- The line's numbers are told. Assumes nothing.
use Prim.Native.Nat.{ℕ}
use mathlib.Core.Path.{◌≡◌, sym, ◌∙◌}
use mathlib.Core.List.{List}
use Rattle.std.specs.Prelude as Std
use Rattle.answers.specs.Texts.{number_at, with_number}
use Rattle.answers.specs.CallLine.{call_asks, call_stores, call_defined, call_stored}
use Rattle.answers.proofs.Buffers.{confirms}
use Rattle.answers.proofs.single.judged.Goals as goal

is_defined : (line out : List ℕ) {component node : ℕ} → number_at 0 line ≡ Std.Some component → number_at 1 line ≡ Std.Some node → call_defined line out ≡ call_asks line component node out
unfolding call_defined with_number
is_defined line out a b = rw (a, b)

is_stored : (line out : List ℕ) {code : ℕ} → number_at 5 line ≡ Std.Some code → call_stored line out ≡ call_stores line code out
unfolding call_stored with_number
is_stored line out a = rw a

pub returns : goal.returns
returns c =
    let a = c.args in
    let component = sym c.number_at.ensures ∙ c.in_ok-number_at.was in
    let node = sym c.number_at-2.ensures ∙ c.in_ok-number_at-2.was in
    let code = sym c.number_at-3.ensures ∙ c.in_ok-number_at-3.was in
    confirms c.compared.result (is_defined a.line.now a.out.now component node) (is_stored a.line.now a.expected.now code) c.compared.ensures
