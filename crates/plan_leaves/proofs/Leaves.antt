-- A plan up to its first step.
--     leaves_past, leaves_more, leaves_refused, leaves_none    the leaves from node k on, of which some are chosen
--     walk_none                                           no step from node k on
--     plan_malformed, plan_short                          1 and 27
--     walkable                                            neither
--     plan_begun, plan_done                               what the leaves say: a refusal, or the steps are next, or there are none
-- Assumes nothing.
use mathlib.Core.Path.{◌≡◌, sym, ap, ◌∙◌}
use mathlib.Core.Bool.{Bool, true, false}
use mathlib.Core.List.{List}
use Prim.Native.Nat.{ℕ, suc, ◌+◌, ◌-◌, ◌≤◌, ◌<◌}
use native.Mathlib.Omega.{arith}
use lib.Dec.{ltb}
use lib.ListN.{length}
use borrow.Author.Tests.{lt-ltb, le-ltb, ltb-false}
use Rattle.utilities.specs.Lists.{list_from}
use Rattle.sets.specs.Sets.{in_set, full_set, chosen}
use Rattle.sets.proofs.SetLaws.{chosen_full}
use Rattle.base.specs.Form.{narrow}
use Rattle.base.specs.Checks.{read}
use Rattle.base.specs.Code.{code_of}
use Rattle.base.specs.Refusals.{number_of}
use Rattle.base.specs.declared.refusals.Refusal.{Refusal}
use Rattle.base.proofs.Passed.{read_ok, refused_code}
use Rattle.base.proofs.Told.{above_none}
use Rattle.calls.specs.Single.{Outcome, outcome}
use Rattle.plan_form.specs.Form.{no_node, node_count, leaf_count, step_count, plan_fails}
use Rattle.plan_form.proofs.FormLaws.{planned}
use Rattle.calls.specs.Walk.{slot_at, sheet_in, walk, leaves_then, leaf_nodes, step_nodes, plan}
use Rattle.plan_leaves.specs.Code.{nodes_from, walked, Walkable, LeavesSay, Begun, unless_stopped}
use Rattle.plan_leaves.specs.declared.Walked.{Walked}
use Rattle.plan_leaves.specs.declared.Walked.TheVariants as W

-- ---- n nodes, from node k on, of which some are chosen

module _ (test : ℕ → Bool) (n k : ℕ) (work : List ℕ) (rest : Outcome) where
  abbrev from : ℕ → Outcome
  from i = leaves_then narrow (chosen test (list_from (n - i) i (λ i. i))) work rest

  pub leaves_past : k < n → test k ≡ false → from k ≡ from (k + 1)
  unfolding chosen list_from
  leaves_past h t =
      let one : n - k ≡ suc (n - (k + 1)) = omega arith in
      rw (one, t)

  pub leaves_more : k < n → test k ≡ true → code_of (read narrow (sheet_in narrow k work)) ≡ 0 → from k ≡ from (k + 1)
  unfolding leaves_then chosen list_from
  leaves_more h t e =
      let one : n - k ≡ suc (n - (k + 1)) = omega arith in
      rw (one, t, read_ok narrow (sheet_in narrow k work) e)

  pub leaves_refused : k < n → test k ≡ true → (e : Refusal) → number_of e ≡ code_of (read narrow (sheet_in narrow k work)) → from k ≡ outcome (number_of e) k work
  unfolding leaves_then chosen list_from
  leaves_refused h t e is =
      let one : n - k ≡ suc (n - (k + 1)) = omega arith in
      rw (one, t, refused_code (read narrow (sheet_in narrow k work)) is (λ z. omega (arith, above_none e, z)))

  pub leaves_none : n ≤ k → from k ≡ rest
  unfolding leaves_then chosen list_from
  leaves_none h =
      let none : n - k ≡ 0 = omega arith in
      rw none

module _ (test : ℕ → Bool) (p : List ℕ) (n k : ℕ) (work : List ℕ) where
  pub walk_none : n ≤ k → walk narrow p (chosen test (list_from (n - k) k (λ i. i))) work ≡ outcome 0 (node_count p) work
  unfolding walk chosen list_from
  walk_none h =
      let none : n - k ≡ 0 = omega arith in
      rw none

-- ---- the call

module _ (p work : List ℕ) where
  pub plan_malformed : plan_fails p ≡ true → outcome 1 no_node work ≡ plan narrow p work
  unfolding plan
  plan_malformed e = rw e

  pub plan_short : plan_fails p ≡ false → length work < slot_at narrow (node_count p) → outcome 27 no_node work ≡ plan narrow p work
  unfolding plan
  plan_short e h = rw (e, lt-ltb (length work) (slot_at narrow (node_count p)) h)

  pub walkable : plan_fails p ≡ false → ltb (length work) (slot_at narrow (node_count p)) ≡ false → Walkable p work
  walkable e h = record { formed = e; room = ltb-false (length work) (slot_at narrow (node_count p)) h }

  plan_walked : plan_fails p ≡ false → slot_at narrow (node_count p) ≤ length work
      → leaves_then narrow (leaf_nodes narrow p) work (walk narrow p (step_nodes narrow p) work) ≡ plan narrow p work
  unfolding plan
  plan_walked e h = rw (e, le-ltb (length work) (slot_at narrow (node_count p)) h)

module _ (p work : List ℕ) (w : Walkable p work) where
  abbrev steps : Outcome
  steps = walk narrow p (step_nodes narrow p) work

  -- the full set has all leaves, and all steps
  all_leaves : chosen (in_set full_set) (leaf_nodes narrow p) ≡ leaf_nodes narrow p
  all_leaves = let f = planned p w.formed in chosen_full (leaf_count p) 0 (omega arith)

  all_steps : nodes_from full_set p (leaf_count p) ≡ step_nodes narrow p
  all_steps = let f = planned p w.formed in chosen_full (step_count p) (leaf_count p) (omega arith)

  -- the leaves say that r stops the call, or that it goes on
  by_leaves : {r : Walked} → LeavesSay full_set p work r → unless_stopped r work steps ≡ plan narrow p work
  by_leaves s =
      sym (s.says steps) ∙ ap (λ (ks : List ℕ). leaves_then narrow ks work steps) all_leaves ∙ plan_walked p work w.formed w.room

  pub plan_begun : (r : Walked) → LeavesSay full_set p work r → (walked full_set p r work ≡ plan narrow p work) × Begun p work r
  plan_begun (W.Accepted n) s = absurd s.next
  plan_begun (W.Refused k node) s = (by_leaves s, s.next)
  plan_begun (W.Next k) s =
      (ap (λ (n : ℕ). walk narrow p (nodes_from full_set p n) work) s.next ∙ ap (λ (ks : List ℕ). walk narrow p ks work) all_steps ∙ by_leaves s, (w, s.next))

  -- a plan of leaves alone
  pub plan_done : {k : ℕ} → LeavesSay full_set p work (W.Next k) → k ≡ node_count p → outcome 0 k work ≡ plan narrow p work
  plan_done {k} s e =
      let none = walk_none (in_set full_set) p (node_count p) k work (omega arith) in
      ap (λ (n : ℕ). outcome 0 n work) e ∙ sym none ∙ (plan_begun (W.Next k) s).0
