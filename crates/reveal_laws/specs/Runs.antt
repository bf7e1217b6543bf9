-- 02, S-7: what two runs of `reveal` with the same plan, owners, reader and wanted node have in common, and what a run has in common with the plan call.
use Rattle.std.specs.Prelude.{◌≡◌, true, List, [], ◌∷◌, ◌++◌, ◌⊎◌, ℕ, ◌+◌, ◌≤◌, ◌<◌, length, take, drop}
use Rattle.octets.specs.Deliver.{delivered}
use Rattle.base.specs.Form.{Form, longest}
use Rattle.plan_form.specs.Form.{node_count, leaf_count}
use Rattle.calls.specs.Walk.{slot_at, sheet_in, plan}
use Rattle.standing.specs.Standing.{stands}
use Rattle.rights.specs.Reveal.{Revealed, revealed, reveal}

-- ---- writes

-- bytes that go to a place of a buffer
pub record Write : Type 0 where
  pub place : ℕ
  pub bytes : List ℕ

-- a buffer after writes, one after the other
unfoldable pub written : List Write → List ℕ → List ℕ
written [] buffer = buffer
written (w ∷ ws) buffer = written ws (take w.place buffer ++ delivered (drop w.place buffer) w.bytes)

-- all of a list
unfoldable pub Each : (Write → Type 0) → List Write → Type 0
Each Q [] = Unit {0}
Each Q (w ∷ ws) = Q w × Each Q ws

module _ (F : Form) (p : List ℕ) (wanted : ℕ) where
  -- into the slot of a step that is walked
  pub record ToStep (w : Write) : Type 0 where
    pub node : ℕ
    pub walked : stands p wanted node ≡ true
    pub step : leaf_count p ≤ node
    pub within : node < node_count p
    pub place : w.place ≡ slot_at F node
    pub fits : length w.bytes ≤ longest F

  -- two runs' buffers: of the same lengths, and with the same sheets of the leaves walked, where the work buffers have their slots
  pub record Agreeing (work out work' out' : List ℕ) : Type 0 where
    pub works : length work ≡ length work'
    pub outs : length out ≡ length out'
    pub sheets : (k : ℕ) → k < leaf_count p → stands p wanted k ≡ true → slot_at F (k + 1) ≤ length work → sheet_in F k work ≡ sheet_in F k work'

-- ---- one run on work and out, which gave r

module _ (F : Form) (p owners : List ℕ) (reader wanted : ℕ) (work out : List ℕ) (r : Revealed) where
  -- "a refusal on rights is the same, work buffers being long enough", whatever the buffers hold and however long the outputs are
  pub record SameRights : Type 0 where
    pub here : r.code ≡ 30 → r ≡ revealed 30 wanted work out
    pub there : slot_at F (node_count p) ≤ length work → (work' out' : List ℕ) → slot_at F (node_count p) ≤ length work' → r.code ≡ 30
        → reveal F p owners reader wanted work' out' ≡ revealed 30 wanted work' out'
    pub back : slot_at F (node_count p) ≤ length work → (work' out' : List ℕ) → slot_at F (node_count p) ≤ length work'
        → (reveal F p owners reader wanted work' out').code ≡ 30 → r.code ≡ 30

  -- "a shown reply or another refusal, and the bytes written, also depend only on the leaves walked and on the two buffers' lengths": one list of writes gives
  -- each run's buffers from its own. They go to the slots of walked steps and to the output alone
  pub record Alike : Type 0 where
    pub in_work : List Write
    pub in_out : List Write
    pub to_steps : Each (ToStep F p wanted) in_work
    pub to_start : Each (λ w. w.place ≡ 0) in_out
    pub this : r ≡ revealed r.code r.value (written in_work work) (written in_out out)
    pub others : (work' out' : List ℕ) → Agreeing F p wanted work out work' out'
        → reveal F p owners reader wanted work' out' ≡ revealed r.code r.value (written in_work work') (written in_out out')

  -- the sheet that the plan call leaves in the wanted slot is shown
  pub record Shown : Type 0 where
    pub code : r.code ≡ 0
    pub value : r.value ≡ length (sheet_in F wanted (plan F p work).bytes)
    pub sheet : r.out ≡ delivered out (sheet_in F wanted (plan F p work).bytes)

  -- where the plan call accepts, the reply is 1, 27 or 30, or that sheet is shown
  abbrev pub AsPlanned : Type 0
  AsPlanned = (plan F p work).code ≡ 0 → (r.code ≡ 1) ⊎ (r.code ≡ 27) ⊎ (r.code ≡ 30) ⊎ Shown
