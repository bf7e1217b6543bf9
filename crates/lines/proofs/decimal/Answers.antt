-- Each digit is one more, and where one is none the number is. Assumes nothing.
use Rattle.std.proofs.Common.{rules, sym, ◌∙◌, drop, ◌+◌, arith}
use Rattle.lines.proofs.Texts.{number_start, number_none, number_step, number_end, never}
use Rattle.lines.proofs.decimal.Goals as goal

pub returns-then-is_empty : goal.returns-then-is_empty
returns-then-is_empty c = number_none c.args.s.now (search rules)

pub loop-b-init : goal.loop-b-init
loop-b-init c = number_start c.args.s.now (search rules)

pub returns-in_err-value : goal.returns-in_err-value
returns-in_err-value c =
    let l = c.loop-b in
    let s = c.args.s.now in
    c.from_residual.ensures
    ∙ sym (never (drop (l.b-index + 1) s))
    ∙ number_step s l.b-index l.value _ c.loop-b-test.true (sym c.in_err-value.was ∙ c.decimal_more.ensures) l.invariant

pub loop-b-preserved : goal.loop-b-preserved
loop-b-preserved c =
    let l = c.loop-b in
    number_step c.args.s.now l.b-index l.value _ c.loop-b-test.true (sym c.in_ok-value.was ∙ c.decimal_more.ensures) l.invariant

pub returns : goal.returns
returns c = sym (number_end c.args.s.now c.loop-b.b-index c.loop-b.value (omega arith)) ∙ c.loop-b.invariant
