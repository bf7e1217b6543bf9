-- No sheet, where the field says so; else each text in turn is put into the next slot. Assumes nothing.
use Rattle.std.proofs.Common.{rules, tests, ◌==◌, sym, ap, ◌∙◌, arith}
use Rattle.std.proofs.Math.Nat.{add-zero}
use Rattle.std.specs.Slice.Iter as slice
use Rattle.std.proofs.lemmas.Iterator.Consumers.{YieldsList-turn, YieldsList-end}
use Rattle.std.proofs.lemmas.Iterator.Splits.{YieldsList-from_slice_split}
use Rattle.std.proofs.lemmas.List.{length_push}
use Rattle.lines.specs.Fields.{parts}
use Rattle.slots.specs.Sheets.{texts}
use Rattle.slots.proofs.Laid.{laid_at, laid_all, laid_none}
use Rattle.slots.proofs.put_sheets.Goals as goal

pub returns-then-eq : goal.returns-then-eq
unfolding texts
returns-then-eq c = rw (sym c.eq.ensures ∙ c.if-eq.true) (rw add-zero, laid_none _ _)

pub loop-text-preserved : goal.loop-text-preserved
loop-text-preserved c =
    let l = c.loop-text in
    let from = c.into_iter-text-iterator.ensures.into_iter_gives in
    let cut = c.split-text-items.ensures in
    let t = YieldsList-turn (YieldsList-from_slice_split _ (λ b. b == 44) c.args.s.now (ap slice.split_rest from ∙ cut.rest) (ap slice.split_done from ∙ cut.done) (ap slice.split_callee from ∙ cut.closure) (λ x r q k. search (rules, tests))) l.yielded _ l.yielded_by _ _ c.in-Some.text c.in-Some.is c.next.ensures.steps in
    rw (length_push l.yielded c.in-Some.text) (omega arith, laid_at (parts 44 c.args.s.now) _ l.k l.buf t.0 t.1 (c.put_sheet.ensures c.if-not-put_sheet.false) ∙ l.invariant.1)

pub returns : goal.returns
unfolding texts
returns c =
    let l = c.loop-text in
    let from = c.into_iter-text-iterator.ensures.into_iter_gives in
    let cut = c.split-text-items.ensures in
    let t = YieldsList-end (YieldsList-from_slice_split _ (λ b. b == 44) c.args.s.now (ap slice.split_rest from ∙ cut.rest) (ap slice.split_done from ∙ cut.done) (ap slice.split_callee from ∙ cut.closure) (λ x r q k. search (rules, tests))) l.yielded _ l.yielded_by _ _ c.in-None.is c.next.ensures.steps in
    rw (sym c.eq.ensures ∙ c.if-eq.false) (omega (arith, t.1), sym l.invariant.1 ∙ laid_all (parts 44 c.args.s.now) _ l.k l.buf t.1)
