-- `rights::admitted` meets its contract. Assumes nothing.
use mathlib.Core.Path.{sym, ap, ◌∙◌}
use Prim.Native.Nat.{ℕ}
use native.Mathlib.Omega.{arith}
use borrow.Author.Rules.{rules}
use borrow.Author.Tests.{ltb-true, ltb-false}
use Rattle.plan_form.proofs.FormLaws.{planned}
use Rattle.rights.specs.Rights.{seen}
use Rattle.rights.proofs.Admitting.{call_passed, reveal_fails, reveal_short, reveal_unseen, reveal_seen}
use Rattle.rights.proofs.admitted.Goals as goal

pub returns-then-call_fails : goal.returns-then-call_fails
returns-then-call_fails c = (λ out. sym (reveal_fails _ _ _ _ _ out (sym c.call_fails.ensures ∙ c.if-call_fails.true)), search rules)

pub lacks_slots-requires : goal.lacks_slots-requires
lacks_slots-requires c = (call_passed _ _ _ (sym c.call_fails.ensures ∙ c.if-call_fails.false)).0.formed

pub returns-then-lacks_slots : goal.returns-then-lacks_slots
returns-then-lacks_slots c =
    let passed = sym c.call_fails.ensures ∙ c.if-call_fails.false in
    let short = ltb-true _ _ (sym c.lacks_slots.ensures ∙ c.if-lacks_slots.true) in
    (λ out. sym (reveal_short _ _ _ _ _ out passed short), search rules)

pub owners_of-requires : goal.owners_of-requires
owners_of-requires c = call_passed _ _ _ (sym c.call_fails.ensures ∙ c.if-call_fails.false)

pub returns-then-not-seen : goal.returns-then-not-seen
returns-then-not-seen c =
    let passed = sym c.call_fails.ensures ∙ c.if-call_fails.false in
    let node = (call_passed _ _ _ passed).0 in
    let f = planned _ node.formed in
    let h = node.within in
    let room = ltb-false _ _ (sym c.lacks_slots.ensures ∙ c.if-lacks_slots.false) in
    let asked = c.seen.ensures ∙ ap (λ (n : ℕ). seen n c.args.reader) c.owners_of.ensures in
    (λ out. sym (reveal_unseen _ _ _ _ _ out passed room (sym asked ∙ c.if-not-seen.true)), omega arith)

pub returns : goal.returns
returns c =
    let passed = sym c.call_fails.ensures ∙ c.if-call_fails.false in
    let node = (call_passed _ _ _ passed).0 in
    let room = ltb-false _ _ (sym c.lacks_slots.ensures ∙ c.if-lacks_slots.false) in
    let asked = c.seen.ensures ∙ ap (λ (n : ℕ). seen n c.args.reader) c.owners_of.ensures in
    record {
      node = node;
      walkable = record { formed = node.formed; room = room };
      shows = λ out. sym (reveal_seen _ _ _ _ _ out passed room (sym asked ∙ c.if-not-seen.false));
    }
