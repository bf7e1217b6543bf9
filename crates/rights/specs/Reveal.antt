-- 02, S-7: the call that shows one node: its reply, and every byte of both lent buffers.
use Rattle.std.specs.Prelude.{Bool, cond, not, ◌||◌, List, ℕ, ◌*◌, length, eqb, leb, ltb}
use Rattle.octets.specs.Deliver.{delivered}
use Rattle.base.specs.Form.{Form}
use Rattle.plan_form.specs.Form.{node_count, leaf_count, plan_fails, no_node}
use Rattle.calls.specs.Single.{Outcome, outcome}
use Rattle.calls.specs.Walk.{slot_at, sheet_in, walk, leaves_then}
use Rattle.standing.specs.Standing.{walked_leaves, walked_steps}
use Rattle.rights.specs.Rights.{owner_bytes, owners_of, seen}

-- a reply, and both lent buffers afterwards
pub record Revealed : Type 0 where
  pub code : ℕ
  -- "Shown, the reply is 0 and the sheet's length"; otherwise a node
  pub value : ℕ
  pub work : List ℕ
  pub out : List ℕ

abbrev pub revealed : ℕ → ℕ → List ℕ → List ℕ → Revealed
revealed k v work out = record { code = k; value = v; work = work; out = out }

-- "A node not in the plan, or other than K owner sets, is code 1"
unfoldable pub call_fails : List ℕ → List ℕ → ℕ → Bool
call_fails p owners wanted = plan_fails p || (leb (node_count p) wanted || not (eqb (length owners) (owner_bytes * leaf_count p)))

-- "the sheet goes to a separate output"; "a short output is 27, last, and stays unwritten". For 27 the node is 65,535
unfoldable pub showing : List ℕ → List ℕ → Outcome
showing sheet out = cond (leb (length sheet) (length out)) (outcome 0 (length sheet) (delivered out sheet)) (outcome 27 no_node out)

module _ (F : Form) where
  -- what was walked is shown, or says why not
  unfoldable pub shown_of : ℕ → Outcome → List ℕ → Revealed
  shown_of wanted o out =
      let s = showing (sheet_in F wanted o.bytes) out in
      cond (eqb o.code 0) (revealed s.code s.value o.bytes s.bytes) (revealed o.code o.value o.bytes out)

  -- "Only the wanted node and all it stands on are walked": the leaves of these pass 3 to 5 in order, then the steps are taken
  abbrev pub walked_to : List ℕ → ℕ → List ℕ → Outcome
  walked_to p wanted work = leaves_then F (walked_leaves p wanted) work (walk F p (walked_steps p wanted) work)

  -- 1, then 27, then "30, the reader may not see the node, after 1 and 27's work buffer test and before any sheet is read"; "30 names the wanted node"
  unfoldable pub reveal : List ℕ → List ℕ → ℕ → ℕ → List ℕ → List ℕ → Revealed
  reveal p owners reader wanted work out =
      cond (call_fails p owners wanted) (revealed 1 no_node work out)
      (cond (ltb (length work) (slot_at F (node_count p))) (revealed 27 no_node work out)
      (cond (seen (owners_of p owners wanted) reader) (shown_of wanted (walked_to p wanted work) out)
      (revealed 30 wanted work out)))
