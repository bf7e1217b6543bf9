-- The call that shows a node, as its code goes through it.
--     admitted_shown                     1, 27 or 30
--     leaves_shown, steps_shown          a walked leaf's or step's refusal
--     sheet_shown                        the sheet, or 27
--     all_clauses                        what follows of the whole answer
-- Assumes nothing.
use mathlib.Core.Path.{◌≡◌, refl, sym, ap, subst, ◌∙◌}
use mathlib.Core.List.{List}
use Prim.Native.Nat.{ℕ, ◌<◌}
use native.Mathlib.Omega.{arith}
use Rattle.octets.proofs.Reread.{AllBytes}
use Rattle.sets.specs.Sets.{in_set}
use Rattle.sets.proofs.SetLaws.{chosen_same}
use Rattle.base.specs.Form.{narrow}
use Rattle.plan_form.specs.Form.{leaf_count}
use Rattle.calls.specs.Single.{Outcome, outcome}
use Rattle.calls.specs.Walk.{sheet_in, walk, leaves_then, leaf_nodes}
use Rattle.plan_leaves.specs.Code.{nodes_from, walked, unless_stopped, LeavesSay, Ended}
use Rattle.plan_leaves.specs.declared.Walked.{Walked}
use Rattle.plan_leaves.specs.declared.Walked.TheVariants as W
use Rattle.standing.specs.Standing.{stands, walked_steps}
use Rattle.rights.specs.Reveal.{Revealed, revealed, showing, shown_of, walked_to, reveal}
use Rattle.rights.specs.Code.{Permitted, Admitted}
use Rattle.replies.specs.Reply.{replied, shown}
use Rattle.reveal_laws.specs.Runs.{SameRights, Alike, AsPlanned}
use Rattle.reveal_laws.proofs.Cases.{shown_refused}
use Rattle.reveal_laws.proofs.SameRights.{same_rights}
use Rattle.reveal_laws.proofs.Alike.{alike}
use Rattle.reveal_laws.proofs.AsPlanned.{as_planned}

-- ---- replies

module _ (r : ℕ) (work out : List ℕ) where
  -- a refusal leaves the output as it was
  reply_shown : {o : Outcome} → replied r work ≡ o → shown r work out ≡ revealed o.code o.value work out
  reply_shown e = ap (λ (o : Outcome). revealed o.code o.value work out) e

module _ (wanted : ℕ) (out : List ℕ) where
  refused_shown : {o : Outcome} {k node : ℕ} {w : List ℕ} → 0 < k → o ≡ outcome k node w → shown_of narrow wanted o out ≡ revealed k node w out
  refused_shown {o} {k} {node} {w} some e =
      ap (λ (o : Outcome). shown_of narrow wanted o out) e ∙ shown_refused wanted (outcome k node w) out (λ (z : k ≡ 0). omega arith)

  shown_accepted : {o : Outcome} {n : ℕ} {w : List ℕ} → o ≡ outcome 0 n w
      → shown_of narrow wanted o out ≡ (let s = showing (sheet_in narrow wanted w) out in revealed s.code s.value w s.bytes)
  unfolding shown_of
  shown_accepted e = rw e

-- ---- the call

module _ (p owners : List ℕ) (reader wanted : ℕ) (work out : List ℕ) where
  abbrev whole : Revealed
  whole = reveal narrow p owners reader wanted work out

  pub admitted_shown : (w : Walked) (r : ℕ) → ((k : ℕ) → w ≡ W.Next k → ⊥) → Admitted p owners reader wanted work w → ((nodes : ℕ) (p work : List ℕ) → replied r work ≡ walked nodes p w work)
      → shown r work out ≡ whole
  admitted_shown (W.Accepted n) r h a says = absurd a
  admitted_shown (W.Refused k node) r h a says = reply_shown r work out (says 0 p work) ∙ a.0 out
  admitted_shown (W.Next k) r h a says = absurd (h k refl)

  -- the nodes that the wanted one stands on, as a set
  module _ (permitted : Permitted p owners reader wanted work) (nodes : ℕ) (set : (j : ℕ) → in_set nodes j ≡ stands p wanted j) where
    abbrev steps : Outcome
    steps = walk narrow p (walked_steps p wanted) work

    walked_leaves_lem : {w : Walked} → LeavesSay nodes p work w → walked_to narrow p wanted work ≡ unless_stopped w work steps
    walked_leaves_lem s =
        ap (λ (ks : List ℕ). leaves_then narrow ks work steps) (sym (chosen_same (in_set nodes) (stands p wanted) set (leaf_nodes narrow p))) ∙ s.says steps

    walked_steps_lem : (k : ℕ) → k ≡ leaf_count p → walk narrow p (nodes_from nodes p k) work ≡ steps
    walked_steps_lem k e =
        ap (λ (n : ℕ). walk narrow p (nodes_from nodes p n) work) e
        ∙ ap (λ (ks : List ℕ). walk narrow p ks work) (chosen_same (in_set nodes) (stands p wanted) set _)

    pub leaves_shown : (w : Walked) (r : ℕ) → ((k : ℕ) → w ≡ W.Next k → ⊥) → LeavesSay nodes p work w → ((nodes : ℕ) (p work : List ℕ) → replied r work ≡ walked nodes p w work)
        → shown r work out ≡ whole
    leaves_shown (W.Accepted n) r h s says = absurd s.next
    leaves_shown (W.Refused k node) r h s says =
        reply_shown r work out (says 0 p work) ∙ sym (refused_shown wanted out s.next.0 (walked_leaves_lem s)) ∙ permitted.shows out
    leaves_shown (W.Next k) r h s says = absurd (h k refl)

    -- the leaves passed, and the steps left a buffer
    module _ (k : ℕ) (s : LeavesSay nodes p work (W.Next k)) (after : List ℕ) where
      walked_all : {o : Outcome} → o ≡ walk narrow p (nodes_from nodes p k) work → walked_to narrow p wanted work ≡ o
      walked_all e = walked_leaves_lem s ∙ sym (walked_steps_lem k s.next) ∙ sym e

      pub steps_shown : (w : Walked) (r : ℕ) → ((n : ℕ) → w ≡ W.Accepted n → ⊥) → Ended w → walked nodes p w after ≡ walk narrow p (nodes_from nodes p k) work
          → ((nodes : ℕ) (p work : List ℕ) → replied r work ≡ walked nodes p w work) → shown r after out ≡ whole
      steps_shown (W.Accepted n) r h e took says = absurd (h n refl)
      steps_shown (W.Refused m node) r h e took says =
          reply_shown r after out (says 0 p after) ∙ sym (refused_shown wanted out e.0 (walked_all took)) ∙ permitted.shows out
      steps_shown (W.Next m) r h e took says = absurd e

      pub sheet_shown : (n r : ℕ) (out' : List ℕ) → outcome 0 n after ≡ walk narrow p (nodes_from nodes p k) work
          → replied r out' ≡ showing (sheet_in narrow wanted after) out → shown r after out' ≡ whole
      sheet_shown n r out' took says =
          ap (λ (o : Outcome). revealed o.code o.value after o.bytes) says
          ∙ sym (shown_accepted wanted out (walked_all took))
          ∙ permitted.shows out

  pub all_clauses : {r : Revealed} → AllBytes work → r ≡ whole
      → record {
        bytes : r ≡ whole;
        rights : SameRights narrow p owners reader wanted work out r;
        alike : Alike narrow p owners reader wanted work out r;
        planned : AsPlanned narrow p owners reader wanted work out r;
      }
  all_clauses small e =
      record {
        bytes = e;
        rights = subst (SameRights narrow p owners reader wanted work out) (sym e) (same_rights p owners reader wanted work out);
        alike = subst (Alike narrow p owners reader wanted work out) (sym e) (alike p owners reader wanted work out small);
        planned = subst (AsPlanned narrow p owners reader wanted work out) (sym e) (as_planned p owners reader wanted work out small);
      }
