-- `replies::show_reply` meets its contract. Assumes nothing.
use mathlib.Core.Path.{sym, ap, ◌∙◌}
use native.Mathlib.Omega.{arith}
use borrow.Author.Rules.{rules}
use Rattle.octets.specs.Deliver.{delivered}
use Rattle.base.specs.declared.refusals.Refusal.TheVariants.{NoRoom}
use Rattle.plan_form.specs.Form.{no_node}
use Rattle.replies.proofs.Packed.{reply_is, refusal_is}
use Rattle.replies.proofs.Showing.{sheet_long, sheet_lent, shown_whole, shown_short}
use Rattle.replies.proofs.show_reply.Goals as goal

pub returns-then-deliver : goal.returns-then-deliver
returns-then-deliver c =
    let e = c.sheet_end-end.ensures in
    let after = c.deliver.ensures.1 ∙ ap (delivered c.args.out.now) (sheet_lent _ c.args.k _ c.requires e) in
    reply_is 0 _ _ (omega arith) c.reply.ensures
    ∙ shown_whole _ c.args.out.now (sheet_long _ c.args.k _ c.requires e) after (sym c.deliver.ensures.0 ∙ c.if-deliver.true)

pub returns : goal.returns
returns c =
    let e = c.sheet_end-end.ensures in
    let after = c.deliver.ensures.1 ∙ ap (delivered c.args.out.now) (sheet_lent _ c.args.k _ c.requires e) in
    refusal_is NoRoom no_node _ (search rules) c.number.ensures c.reply-2.ensures
    ∙ shown_short _ c.args.out.now (sheet_long _ c.args.k _ c.requires e) after (sym c.deliver.ensures.0 ∙ c.if-deliver.false)
