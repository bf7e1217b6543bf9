-- `replies::walked_reply` meets its contract. Assumes nothing.
use mathlib.Core.Path.{sym, ap, ◌∙◌}
use native.Mathlib.Omega.{arith}
use borrow.Author.Rules.{rules}
use Rattle.plan_leaves.specs.Code.{walked}
use Rattle.plan_leaves.specs.declared.Walked.{Walked}
use Rattle.replies.proofs.Packed.{reply_is, refusal_is}
use Rattle.replies.proofs.walked_reply.Goals as goal

pub reply-requires : goal.reply-requires
reply-requires c =
    let small = rw c.in-Accepted.is at c.requires in
    omega arith

pub reply-requires-in-Refused : goal.reply-requires-in-Refused
reply-requires-in-Refused c =
    let small = rw c.in-Refused.is at c.requires in
    omega arith

pub returns-in-Accepted : goal.returns-in-Accepted
returns-in-Accepted c nodes p work =
    reply_is 0 c.in-Accepted.nodes work (omega arith) c.reply.ensures ∙ sym (ap (λ (w : Walked). walked nodes p w work) c.in-Accepted.is)

pub returns-in-Refused : goal.returns-in-Refused
returns-in-Refused c nodes p work =
    refusal_is c.in-Refused.refusal c.in-Refused.node work (search rules) c.number.ensures c.reply-in-Refused.ensures
    ∙ sym (ap (λ (w : Walked). walked nodes p w work) c.in-Refused.is)

pub returns-in-Next : goal.returns-in-Next
returns-in-Next c = absurd (rw c.in-Next.is at c.requires)
