-- `array_checks::numbers_permitted` meets its contract: where none falls, the last is tested for all. Assumes nothing.
use Rattle.std.proofs.Common.{◌≡◌, ℕ, ◌&&◌, ◌||◌, eqb, ltb, ap, ◌∙◌, ap₂, arith}
use Rattle.base.specs.Form.{form_of}
use Rattle.base.specs.Decode.{list_number}
use Rattle.base.specs.Checks.{holds_from}
use Rattle.array_checks.proofs.Gathering.{gathering_more, gathering_done}
use Rattle.array_checks.proofs.Falling.{previous, rising_below, previous_next, rises_is, risen}
use Rattle.array_checks.proofs.numbers_permitted.Goals as goal

pub loop-i-preserved : goal.loop-i-preserved
loop-i-preserved c =
    let l = c.loop-i in
    let number = list_number (form_of c.args.f) c.args.s.now c.args.g in
    let read = c.list_number-number.ensures in
    (read ∙ previous_next number l.i, gathering_more l.invariant.1 c.loop-i-test.true _ (ap (λ (k : ℕ). ltb k l.last) read ∙ rises_is number l.i l.invariant.0))

pub returns : goal.returns
returns c =
    let l = c.loop-i in
    let a = c.args in
    let number = list_number (form_of a.f) a.s.now in
    let end : l.i ≡ a.t = omega arith in
    let last = l.invariant.0 ∙ ap (previous (number a.g)) end in
    ap₂ ◌&&◌ (gathering_done l.invariant.1 c.loop-i-test.false) (ap (λ (k : ℕ). eqb a.t 0 || ltb k a.n) last)
    ∙ risen (number a.g) a.n a.t
    ∙ ap₂ (λ (g n : ℕ). holds_from a.t 0 (rising_below (number g) n)) c.requires.groups c.requires.lists
