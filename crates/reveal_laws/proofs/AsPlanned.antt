-- Where the plan call accepts, the call that shows a node walks to the sheet that the plan call leaves in the node's slot (`as_planned`).
-- Assumes nothing.
use mathlib.Core.Path.{◌≡◌, refl, sym, ap, subst, subst₂, ◌∙◌}
use mathlib.Core.Bool.{Bool, true, false, cond}
use mathlib.Core.List.{List}
use mathlib.Core.Logic.{◌⊎◌, inl, inr}
use Prim.Native.Nat.{ℕ, zero, suc, ◌+◌, ◌≤◌, ◌<◌}
use native.Mathlib.Omega.{arith}
use lib.Dec.{eqb, leb, ltb}
use lib.ListN.{length}
use borrow.Author.Tests.{eqb-true, eqb-false, leb-true, leb-false}
use Rattle.octets.proofs.Reread.{AllBytes}
use Rattle.octets.specs.Deliver.{delivered}
use Rattle.utilities.specs.Lists.{list_from}
use Rattle.base.specs.Form.{narrow}
use Rattle.base.proofs.Passed.{Passed}
use Rattle.plan_form.specs.Form.{node_count, leaf_count, step_count, plan_fails, no_node}
use Rattle.plan_form.proofs.FormLaws.{planned}
use Rattle.calls.specs.Single.{Outcome, outcome}
use Rattle.calls.specs.Walk.{slot_at, sheet_in, step_on, unless_refused, walk, leaves_then, leaf_nodes, step_nodes, plan}
use Rattle.containment.proofs.Accepted.{leaves_made}
use Rattle.sets.specs.Sets.{chosen}
use Rattle.standing.specs.Standing.{stands, walked_steps}
use Rattle.standing.proofs.Least.{stands_self}
use Rattle.rights.specs.Reveal.{Revealed, call_fails, shown_of, walked_to, reveal}
use Rattle.reveal_laws.specs.Runs.{Shown, AsPlanned}
use Rattle.reveal_laws.proofs.Puts.{put, put_length, step_before, step_length}
use Rattle.reveal_laws.proofs.Two.{Same, Ready, same_itself, same_put, ready_put, ready_skip, same_past, Taken, refuses, gives, taken}
use Rattle.reveal_laws.proofs.Walks.{walked_from, next_walked, follows, leaves_pass}
use Rattle.rights.proofs.Admitting.{reveal_fails, reveal_short, reveal_unseen, reveal_seen}
use Rattle.reveal_laws.proofs.Cases.{formed, within, may_show, Case, fails, short, unseen, shows, which, shown_fits, shown_short}
use Rattle.reveal_laws.proofs.Alike.{leaves_ready}

-- a step that was not refused
unless_zero_lem : (o : Outcome) (k : ℕ) (rest : List ℕ → Outcome) → (unless_refused narrow o k rest).code ≡ 0
    → (o.code ≡ 0) × (unless_refused narrow o k rest ≡ rest o.bytes)
unless_zero_lem o k rest e = go (eqb o.code 0) refl e
  where
    go : (t : Bool) → eqb o.code 0 ≡ t → (cond t (rest o.bytes) (outcome o.code k o.bytes)).code ≡ 0
        → (o.code ≡ 0) × (cond t (rest o.bytes) (outcome o.code k o.bytes) ≡ rest o.bytes)
    go true h e = (eqb-true o.code 0 h, refl)
    go false h e = absurd (eqb-false o.code 0 h e)

module _ (p : List ℕ) (wanted : ℕ) where
  -- the n nodes from k on, all of them
  abbrev all : ℕ → ℕ → List ℕ
  all n k = list_from n k (λ j. j)

  -- the walked steps are taken from x as well, and leave the same sheets
  record Keeps (n k : ℕ) (x : List ℕ) (after : Outcome) : Type 0 where
    code : (walk narrow p (walked_from p wanted n k) x).code ≡ 0
    same : Same p wanted (k + n) (walk narrow p (walked_from p wanted n k) x).bytes after.bytes

  module _ (formed : plan_fails p ≡ false) (within : wanted < node_count p) where
    -- a step of the plan that is taken on y, and the rest of the plan behind it
    module _ (n k : ℕ) (x y : List ℕ) (e : (walk narrow p (all (suc n) k) y).code ≡ 0) where
      first : ((step_on narrow p k y).code ≡ 0) × (walk narrow p (all (suc n) k) y ≡ walk narrow p (all n (k + 1)) (step_on narrow p k y).bytes)
      unfolding walk list_from
      first = unless_zero_lem (step_on narrow p k y) k (walk narrow p (all n (k + 1))) e

      behind : (walk narrow p (all n (k + 1)) (step_on narrow p k y).bytes).code ≡ 0
      behind = ap (λ (o : Outcome). o.code) (sym first.1) ∙ e

      count : k + 1 + n ≡ k + suc n
      count = omega arith

      kept : (z : List ℕ) → walk narrow p (walked_from p wanted (suc n) k) x ≡ walk narrow p (walked_from p wanted n (k + 1)) z
          → Keeps n (k + 1) z (walk narrow p (all n (k + 1)) (step_on narrow p k y).bytes) → Keeps (suc n) k x (walk narrow p (all (suc n) k) y)
      kept z q r =
          let to = subst (λ (m : ℕ). Same p wanted m (walk narrow p (walked_from p wanted n (k + 1)) z).bytes (walk narrow p (all n (k + 1)) (step_on narrow p k y).bytes).bytes) count r.same in
          record {
            code = ap (λ (o : Outcome). o.code) q ∙ r.code;
            same = subst₂ (λ (a b : Outcome). Same p wanted (k + suc n) a.bytes b.bytes) (sym q) (sym first.1) to;
          }

    module _ (n k : ℕ) (later : leaf_count p ≤ k) (node : k < node_count p) (x y : List ℕ) (room : slot_at narrow (k + 1) ≤ length x) (ready : Ready p wanted k x)
        (same : Same p wanted k x y) (e : (walk narrow p (all (suc n) k) y).code ≡ 0)
        (rest : (z v : List ℕ) → length z ≡ length x → Ready p wanted (k + 1) z → Same p wanted (k + 1) z v → (walk narrow p (all n (k + 1)) v).code ≡ 0
        → Keeps n (k + 1) z (walk narrow p (all n (k + 1)) v)) where
      -- a walked step is the same on both
      keeps_step : stands p wanted k ≡ true → Taken p wanted k x → Keeps (suc n) k x (walk narrow p (all (suc n) k) y)
      keeps_step w (refuses c h q) = let some = (first n k x y e).0 in let is = ap (λ (o : Outcome). o.code) (q y same) in absurd (omega arith)
      keeps_step w (gives vs f q) =
          let is = ap (λ (o : Outcome). o.bytes) (q y same) in
          kept n k x y e (put k vs x)
          (follows p wanted formed within n k later node w x room (outcome 0 (length vs) (put k vs x)) x (q x (same_itself p wanted k x)))
          (rest (put k vs x) (step_on narrow p k y).bytes (put_length k vs x) (ready_put p wanted k vs f x room ready)
          (subst (Same p wanted (k + 1) (put k vs x)) (sym is) (same_put p wanted k vs f x y room same)) (behind n k x y e))

      -- another is taken on y alone
      keeps_skip : stands p wanted k ≡ false → Keeps (suc n) k x (walk narrow p (all (suc n) k) y)
      keeps_skip w =
          let size = same.size in
          kept n k x y e x (ap (λ (ks : List ℕ). walk narrow p ks x) (next_walked p wanted false n k w))
          (rest x (step_on narrow p k y).bytes refl (ready_skip p wanted k w ready)
          (same_past p wanted k w (step_length p k y) (step_before p k y (omega arith)) same) (behind n k x y e))

    keeps : (n k : ℕ) (x y : List ℕ) → leaf_count p ≤ k → k + n ≤ node_count p → slot_at narrow (k + n) ≤ length x → Ready p wanted k x → Same p wanted k x y
        → (walk narrow p (all n k) y).code ≡ 0 → Keeps n k x (walk narrow p (all n k) y)
    unfolding chosen list_from walk
    keeps zero k x y later few room ready same e =
        let count : k ≡ k + 0 = omega arith in
        record { code = refl; same = subst (λ (m : ℕ). Same p wanted m x y) count same }
    keeps (suc n) k x y later few room ready same e =
        go (stands p wanted k) refl
        (λ (z v : List ℕ) (q : length z ≡ length x) (r : Ready p wanted (k + 1) z) (s : Same p wanted (k + 1) z v).
        keeps n (k + 1) z v (omega arith) (omega arith) (omega arith) r s)
      where
        go : (t : Bool) → stands p wanted k ≡ t
            → ((z v : List ℕ) → length z ≡ length x → Ready p wanted (k + 1) z → Same p wanted (k + 1) z v → (walk narrow p (all n (k + 1)) v).code ≡ 0
            → Keeps n (k + 1) z (walk narrow p (all n (k + 1)) v))
            → Keeps (suc n) k x (walk narrow p (all (suc n) k) y)
        go true w rest =
            let room₁ : slot_at narrow (k + 1) ≤ length x = omega arith in
            let node : k < node_count p = omega arith in
            keeps_step n k later node x y room₁ ready same e rest w (taken p wanted formed within k later node w x room₁ ready)
        go false w rest = keeps_skip n k later (omega arith) x y (omega arith) ready same e rest w

-- ---- the plan call

-- a refusal that did not come
not_refused : (t : Bool) (refusal o : Outcome) → 0 < refusal.code → (cond t refusal o).code ≡ 0 → cond t refusal o ≡ o
not_refused true refusal o h e = absurd (omega arith)
not_refused false refusal o h e = refl

-- an accepted one: every leaf passed 3 to 5, and the rest is the walk over all steps
record Accepting (p work : List ℕ) : Type 0 where
  passed : (j : ℕ) → j < leaf_count p → Passed narrow (sheet_in narrow j work)
  is : plan narrow p work ≡ walk narrow p (step_nodes narrow p) work

accepting : (p work : List ℕ) → (plan narrow p work).code ≡ 0 → Accepting p work
unfolding plan
accepting p work e =
    let rest = walk narrow p (step_nodes narrow p) work in
    let taking = leaves_then narrow (leaf_nodes narrow p) work rest in
    let long = cond (ltb (length work) (slot_at narrow (node_count p))) (outcome 27 no_node work) taking in
    let a = not_refused (plan_fails p) (outcome 1 no_node work) long (omega arith) e in
    let b = not_refused (ltb (length work) (slot_at narrow (node_count p))) (outcome 27 no_node work) taking (omega arith) (ap (λ (o : Outcome). o.code) (sym a) ∙ e) in
    let l = leaves_made work rest (leaf_count p) 0 (ap (λ (o : Outcome). o.code) (sym (a ∙ b)) ∙ e) in
    record { passed = λ j h. l.passed j (omega arith) (omega arith); is = a ∙ b ∙ l.same }

-- ---- the two calls

module _ (p owners : List ℕ) (reader wanted : ℕ) (work out : List ℕ) (small : AllBytes work) where
  abbrev run : Revealed
  run = reveal narrow p owners reader wanted work out

  abbrev Replies : Type 0
  Replies = (run.code ≡ 1) ⊎ (run.code ≡ 27) ⊎ (run.code ≡ 30) ⊎ Shown narrow p owners reader wanted work out run

  module _ (passed : call_fails p owners wanted ≡ false) (room : slot_at narrow (node_count p) ≤ length work) (seen : may_show p owners reader wanted ≡ true)
      (accepted : Accepting p work) (e : (plan narrow p work).code ≡ 0) where
    abbrev walked : Outcome
    walked = walk narrow p (walked_steps p wanted) work

    leaves_kept : walked_to narrow p wanted work ≡ walked
    leaves_kept = leaves_pass p wanted (leaf_count p) 0 work walked (λ j a b. accepted.passed j (omega arith))

    steps_kept : Keeps p wanted (step_count p) (leaf_count p) work (walk narrow p (step_nodes narrow p) work)
    steps_kept =
        let form = (planned p (formed p owners wanted passed)).leaves in
        keeps p wanted (formed p owners wanted passed) (within p owners wanted passed) (step_count p) (leaf_count p) work work (omega arith) (omega arith) (omega arith)
        (leaves_ready p wanted work small (λ j h w. accepted.passed j h)) (same_itself p wanted (leaf_count p) work)
        (ap (λ (o : Outcome). o.code) (sym accepted.is) ∙ e)

    runs : run ≡ shown_of narrow wanted walked out
    runs = reveal_seen p owners reader wanted work out passed room seen ∙ ap (λ (o : Outcome). shown_of narrow wanted o out) leaves_kept

    same_sheet : sheet_in narrow wanted walked.bytes ≡ sheet_in narrow wanted (plan narrow p work).bytes
    same_sheet =
        let form = (planned p (formed p owners wanted passed)).leaves in
        let inside = within p owners wanted passed in
        steps_kept.same.sheets wanted (omega arith) (stands_self p wanted) ∙ ap (λ (o : Outcome). sheet_in narrow wanted o.bytes) (sym accepted.is)

    showing : Replies
    showing = go (leb (length (sheet_in narrow wanted walked.bytes)) (length out)) refl
      where
        go : (t : Bool) → leb (length (sheet_in narrow wanted walked.bytes)) (length out) ≡ t → Replies
        go true h =
            let is = runs ∙ shown_fits wanted walked out steps_kept.code (leb-true (length (sheet_in narrow wanted walked.bytes)) (length out) h) in
            inr (inr (inr (record {
              code = ap (λ (r : Revealed). r.code) is;
              value = ap (λ (r : Revealed). r.value) is ∙ ap length same_sheet;
              sheet = ap (λ (r : Revealed). r.out) is ∙ ap (delivered out) same_sheet;
            })))
        go false h =
            let is = runs ∙ shown_short wanted walked out steps_kept.code (leb-false (length (sheet_in narrow wanted walked.bytes)) (length out) h) in
            inr (inl (ap (λ (r : Revealed). r.code) is))

  by_case : Case p owners reader wanted work → (plan narrow p work).code ≡ 0 → Replies
  by_case (fails e) q = inl (ap (λ (r : Revealed). r.code) (reveal_fails p owners reader wanted work out e))
  by_case (short e h) q = inr (inl (ap (λ (r : Revealed). r.code) (reveal_short p owners reader wanted work out e h)))
  by_case (unseen e room g) q = inr (inr (inl (ap (λ (r : Revealed). r.code) (reveal_unseen p owners reader wanted work out e room g))))
  by_case (shows e room g) q = showing e room g (accepting p work q) q

  pub as_planned : AsPlanned narrow p owners reader wanted work out run
  as_planned = by_case (which p owners reader wanted work)
