-- The call that shows a node, before any sheet is read.
--     call_passed                                               1 has passed
--     reveal_fails, reveal_short, reveal_unseen, reveal_seen    1, 27, 30, or what was walked is shown
-- Assumes nothing.
use mathlib.Core.Path.{◌≡◌}
use mathlib.Core.Bool.{true, false, not, ◌||◌}
use mathlib.Core.List.{List}
use Prim.Native.Nat.{ℕ, ◌*◌, ◌≤◌, ◌<◌}
use lib.Dec.{eqb, leb}
use lib.ListN.{length}
use borrow.Author.Tests.{lt-ltb, le-ltb, leb-false, eqb-true, not-false}
use Rattle.base.specs.Form.{narrow}
use Rattle.base.proofs.Flags.{or_no}
use Rattle.plan_form.specs.Form.{node_count, leaf_count, plan_fails, no_node}
use Rattle.calls.specs.Walk.{slot_at}
use Rattle.standing.specs.Code.{NodeOf}
use Rattle.rights.specs.Rights.{owner_bytes, owners_of, seen}
use Rattle.rights.specs.Reveal.{revealed, call_fails, walked_to, shown_of, reveal}

pub call_passed : (p owners : List ℕ) (wanted : ℕ) → call_fails p owners wanted ≡ false → NodeOf p wanted × (length owners ≡ owner_bytes * leaf_count p)
unfolding call_fails
call_passed p owners wanted e =
    let a = or_no (plan_fails p) (leb (node_count p) wanted || not (eqb (length owners) (owner_bytes * leaf_count p))) e in
    let b = or_no (leb (node_count p) wanted) (not (eqb (length owners) (owner_bytes * leaf_count p))) a.1 in
    (record { formed = a.0; within = leb-false (node_count p) wanted b.0 }, eqb-true (length owners) (owner_bytes * leaf_count p) (not-false _ b.1))

module _ (p owners : List ℕ) (reader wanted : ℕ) (work out : List ℕ) where
  pub reveal_fails : call_fails p owners wanted ≡ true → reveal narrow p owners reader wanted work out ≡ revealed 1 no_node work out
  unfolding reveal
  reveal_fails e = rw e

  module _ (passed : call_fails p owners wanted ≡ false) where
    pub reveal_short : length work < slot_at narrow (node_count p) → reveal narrow p owners reader wanted work out ≡ revealed 27 no_node work out
    unfolding reveal
    reveal_short h = rw (passed, lt-ltb (length work) (slot_at narrow (node_count p)) h)

    module _ (room : slot_at narrow (node_count p) ≤ length work) where
      pub reveal_unseen : seen (owners_of p owners wanted) reader ≡ false → reveal narrow p owners reader wanted work out ≡ revealed 30 wanted work out
      unfolding reveal
      reveal_unseen e = rw (passed, le-ltb (length work) (slot_at narrow (node_count p)) room, e)

      pub reveal_seen : seen (owners_of p owners wanted) reader ≡ true
          → reveal narrow p owners reader wanted work out ≡ shown_of narrow wanted (walked_to narrow p wanted work) out
      unfolding reveal
      reveal_seen e = rw (passed, le-ltb (length work) (slot_at narrow (node_count p)) room, e)
