-- A refusal on rights depends on plan, owners, reader and wanted node alone, and no byte changes with it (`same_rights`).
-- Assumes nothing.
use mathlib.Core.Path.{◌≡◌, refl, sym, ap, ◌∙◌}
use mathlib.Core.Bool.{false}
use mathlib.Core.List.{List}
use Prim.Native.Nat.{ℕ, ◌≤◌}
use native.Mathlib.Omega.{arith}
use lib.ListN.{length}
use Rattle.base.specs.Form.{narrow}
use Rattle.plan_form.specs.Form.{node_count}
use Rattle.calls.specs.Walk.{slot_at}
use Rattle.step_laws.proofs.Clear.{not_given}
use Rattle.rights.specs.Reveal.{Revealed, revealed, call_fails, reveal}
use Rattle.reveal_laws.specs.Runs.{SameRights}
use Rattle.rights.proofs.Admitting.{reveal_fails, reveal_short, reveal_unseen, reveal_seen}
use Rattle.reveal_laws.proofs.Codes.{shown_given}
use Rattle.reveal_laws.proofs.Cases.{may_show, Case, fails, short, unseen, shows, which}

module _ (p owners : List ℕ) (reader wanted : ℕ) where
  abbrev run : List ℕ → List ℕ → Revealed
  run work out = reveal narrow p owners reader wanted work out

  -- a call that passed 1 and 27's work buffer test, on a node that the reader may not see
  record Unseen (work : List ℕ) : Type 0 where
    passed : call_fails p owners wanted ≡ false
    room : slot_at narrow (node_count p) ≤ length work
    hidden : may_show p owners reader wanted ≡ false

  unseen_only : (work out : List ℕ) → Case p owners reader wanted work → (run work out).code ≡ 30 → Unseen work
  unseen_only work out (fails e) q = let c = ap (λ (r : Revealed). r.code) (reveal_fails p owners reader wanted work out e) in absurd (omega arith)
  unseen_only work out (short e h) q = let c = ap (λ (r : Revealed). r.code) (reveal_short p owners reader wanted work out e h) in absurd (omega arith)
  unseen_only work out (unseen e room g) q = record { passed = e; room = room; hidden = g }
  unseen_only work out (shows e room g) q =
      let c = ap (λ (r : Revealed). r.code) (reveal_seen p owners reader wanted work out e room g) in
      absurd (not_given 30 refl (shown_given narrow p wanted work out) (sym c ∙ q))

  by_30 : (work out : List ℕ) → (run work out).code ≡ 30 → Unseen work
  by_30 work out = unseen_only work out (which p owners reader wanted work)

  -- then no buffers that are long enough get another reply
  refused_alike : {work : List ℕ} → Unseen work → (work' out' : List ℕ) → slot_at narrow (node_count p) ≤ length work' → run work' out' ≡ revealed 30 wanted work' out'
  refused_alike u work' out' room = reveal_unseen p owners reader wanted work' out' u.passed room u.hidden

  pub same_rights : (work out : List ℕ) → SameRights narrow p owners reader wanted work out (run work out)
  same_rights work out = record {
    here = λ q. let u = by_30 work out q in refused_alike u work out u.room;
    there = λ room work' out' room' q. refused_alike (by_30 work out q) work' out' room';
    back = λ room work' out' room' q. ap (λ (r : Revealed). r.code) (refused_alike (by_30 work' out' q) work out room);
  }
