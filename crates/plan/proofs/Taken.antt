-- The plan call as its code goes through it.
--     given_code, given_bytes                             an answer's parts
--     steppable                                           a step of a plan that passed 1 and 27
--     walk_past, walk_more, walk_refused                  the steps from node k on, of which some are chosen
-- Assumes nothing.
use mathlib.Core.Path.{◌≡◌, refl, sym, ap, ◌∙◌}
use mathlib.Core.Bool.{Bool, true, false}
use mathlib.Core.List.{List}
use Prim.Native.Nat.{ℕ, suc, ◌+◌, ◌-◌, ◌≤◌, ◌<◌}
use native.Mathlib.Omega.{arith}
use lib.ListN.{length}
use Rattle.base.specs.Refusals.{number_of, Answer, code_in}
use Rattle.base.specs.declared.refusals.Refusal.{Refusal}
use Rattle.base.proofs.Told.{numbered}
use Rattle.std.specs.declared.result.Result.TheVariants as U
use Rattle.utilities.specs.Lists.{list_from}
use Rattle.sets.specs.Sets.{chosen}
use Rattle.base.specs.Form.{narrow}
use Rattle.calls.specs.Single.{Outcome, outcome}
use Rattle.deliveries.specs.Code.{given}
use Rattle.plan_form.specs.Form.{node_count, leaf_count}
use Rattle.calls.specs.Walk.{step_on, walk}
use Rattle.plan_leaves.specs.Code.{Steppable, Walkable}
use Rattle.plan_form.proofs.FormLaws.{planned, step_of}

-- ---- an answer's parts

module _ (r : Answer ℕ) where
  pub given_code : (w : List ℕ) {o : Outcome} → given r w ≡ o → o.code ≡ code_in r
  given_code w e = sym (ap (λ (o : Outcome). o.code) e) ∙ code_is r w
    where
      code_is : (r : Answer ℕ) (w : List ℕ) → (given r w).code ≡ code_in r
      code_is (U.Ok n) w = refl
      code_is (U.Err k) w = refl

  pub given_bytes : (w : List ℕ) {o : Outcome} → given r w ≡ o → o.bytes ≡ w
  given_bytes w e = sym (ap (λ (o : Outcome). o.bytes) e) ∙ bytes_are r w
    where
      bytes_are : (r : Answer ℕ) (w : List ℕ) → (given r w).bytes ≡ w
      bytes_are (U.Ok n) w = refl
      bytes_are (U.Err k) w = refl

-- `now` is the work buffer after some steps
pub steppable : {p work now : List ℕ} (k : ℕ) → Walkable p work → length now ≡ length work → leaf_count p ≤ k → k < node_count p → Steppable p k now
steppable {p} k w same later within =
    let f = planned p w.formed in
    let o = f.earlier k later within in
    record { step = step_of p k w.formed later within; few = omega arith; left = o.0; right = o.1; room = omega (arith, w.room) }

-- ---- n nodes, from node k on, of which some are chosen

module _ (test : ℕ → Bool) (p : List ℕ) (n k : ℕ) (work : List ℕ) where
  abbrev from : ℕ → List ℕ → Outcome
  from i w = walk narrow p (chosen test (list_from (n - i) i (λ i. i))) w

  pub walk_past : k < n → test k ≡ false → from k work ≡ from (k + 1) work
  unfolding chosen list_from
  walk_past h t =
      let one : n - k ≡ suc (n - (k + 1)) = omega arith in
      rw (one, t)

  -- a step's answer, and the buffer behind it
  module _ (h : k < n) (t : test k ≡ true) (r : Answer ℕ) (w : List ℕ) (e : given r w ≡ step_on narrow p k work) where
    pub walk_more : code_in r ≡ 0 → from k work ≡ from (k + 1) w
    unfolding walk chosen list_from
    walk_more z =
        let one : n - k ≡ suc (n - (k + 1)) = omega arith in
        rw (one, t, given_code r w e ∙ z, given_bytes r w e)

    pub walk_refused : (f : Refusal) → r ≡ U.Err f → from k work ≡ outcome (number_of f) k w
    unfolding walk chosen list_from
    walk_refused f is =
        let one : n - k ≡ suc (n - (k + 1)) = omega arith in
        rw (one, t, given_code r w e ∙ ap code_in is, given_bytes r w e, numbered f)
