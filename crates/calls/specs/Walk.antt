-- The plan call: its reply, and every byte of the work buffer.
use Rattle.std.specs.Prelude.{cond, List, [], ◌∷◌, ◌++◌, ℕ, ◌*◌, length, take, drop, eqb, ltb}
use Rattle.numbers.specs.Result.{Result, ok, refused}
use Rattle.utilities.specs.Lists.{list_from}
use Rattle.base.specs.Form.{Form, longest, length_called_for}
use Rattle.base.specs.Sheet.{Sheet}
use Rattle.base.specs.Checks.{read}
use Rattle.base.specs.Components.{component_of}
use Rattle.calls.specs.Single.{Outcome, outcome, single_of}
use Rattle.plan_form.specs.Form.{node_count, leaf_count, step_count, component_number, left_of, right_of, plan_fails, no_node}

module _ (F : Form) where
  -- 01: "A work buffer has slots"; 02, S-2: "Slots and the longest sheet become 2,308 bytes"
  abbrev pub slot_at : ℕ → ℕ
  slot_at k = k * longest F

  abbrev pub slot : ℕ → List ℕ → List ℕ
  slot k work = take (longest F) (drop (slot_at k) work)

  -- 01: "bytes after a sheet aren't read"
  abbrev pub sheet_bytes : List ℕ → List ℕ
  sheet_bytes s = take (length_called_for F s) s

  unfoldable pub sheet_in : ℕ → List ℕ → List ℕ
  sheet_in k work = sheet_bytes (slot k work)

  -- 01: "A step does what the single call does with its node number; a step writes only its own slot of the work buffer"
  unfoldable pub step_on : List ℕ → ℕ → List ℕ → Outcome
  step_on p k work =
      let o = single_of F (component_of (component_number p k)) k (sheet_in (left_of p k) work) (sheet_in (right_of p k) work) (drop (slot_at k) work) in
      outcome o.code o.value (take (slot_at k) work ++ o.bytes)

  -- 01: "a refusal and the node"; "After a refusal, earlier steps' sheets stand and no other byte has changed"
  abbrev pub unless_refused : Outcome → ℕ → (List ℕ → Outcome) → Outcome
  unless_refused o k rest = cond (eqb o.code 0) (rest o.bytes) (outcome o.code k o.bytes)

  -- the steps of these nodes, one after the other; "A plan call gives 0 and its node count"
  unfoldable pub walk : List ℕ → List ℕ → List ℕ → Outcome
  walk p [] work = outcome 0 (node_count p) work
  walk p (k ∷ ks) work = unless_refused (step_on p k work) k (λ work'. walk p ks work')

  abbrev pub leaf_then : Result Sheet → ℕ → List ℕ → Outcome → Outcome
  leaf_then (ok s) k work rest = rest
  leaf_then (refused n) k work rest = outcome n k work

  -- 01: "All leaves pass 3 to 5 before any step"
  unfoldable pub leaves_then : List ℕ → List ℕ → Outcome → Outcome
  leaves_then [] work rest = rest
  leaves_then (k ∷ ks) work rest = leaf_then (read F (sheet_in k work)) k work (leaves_then ks work rest)

  -- the plan's leaves, and its steps, as nodes
  abbrev pub leaf_nodes : List ℕ → List ℕ
  leaf_nodes p = list_from (leaf_count p) 0 (λ k. k)

  abbrev pub step_nodes : List ℕ → List ℕ
  step_nodes p = list_from (step_count p) (leaf_count p) (λ k. k)

  -- 1, then 27 ("the work buffer" is too short; 02, S-2: "2,308 bytes, which 27 now reads"), then the leaves, then the steps
  unfoldable pub plan : List ℕ → List ℕ → Outcome
  plan p work =
      cond (plan_fails p) (outcome 1 no_node work)
      (cond (ltb (length work) (slot_at (node_count p))) (outcome 27 no_node work)
      (leaves_then (leaf_nodes p) work (walk p (step_nodes p) work)))
