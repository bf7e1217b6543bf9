-- `gate::propagate_properties` meets its contract. Assumes nothing.
use mathlib.Core.Path.{sym, ap, ◌∙◌}
use borrow.Author.Rules.{rules}
use Rattle.sets.specs.Sets.{full_set}
use Rattle.plan_leaves.specs.Code.{walked}
use Rattle.plan_leaves.specs.declared.Walked.{Walked}
use Rattle.gate.proofs.Replies.{contained_reply}
use Rattle.gate.proofs.propagate_properties.Goals as goal

pub returns-in_default : goal.returns-in_default
returns-in_default c =
    let work = c.args.work.now in
    let same = c.walked_reply.ensures full_set c.args.plan.now work ∙ c.begin-begun.ensures.0 in
    record { bytes = same; contained = contained_reply _ work work _ (search rules) same }

pub returns : goal.returns
returns c =
    let plan = c.args.plan.now in
    let work = c.args.work.now in
    let after = c.walk_steps.new.work in
    let same = c.walked_reply-2.ensures full_set plan after ∙ c.walk_steps.ensures.0
    ∙ sym (ap (λ (w : Walked). walked full_set plan w work) c.in-Next.is) ∙ c.begin-begun.ensures.0 in
    record { bytes = same; contained = contained_reply _ work after _ (search rules) same }
