-- What a plan has before its first step, and how far it was walked.
use Rattle.std.specs.Prelude.{◌≡◌, List, ℕ, ◌+◌, ◌-◌, ◌≤◌, ◌<◌, length, take, drop, false}
use Rattle.base.specs.Form.{narrow}
use Rattle.plan_form.specs.Form.{node_limit, left_of, right_of, node_count, no_node, leaf_count, plan_fails}
use Rattle.calls.specs.Walk.{slot_at, sheet_in, walk, leaf_nodes, leaves_then}
use Rattle.plan_form.specs.Code.{StepOf}
use Rattle.utilities.specs.Lists.{list_from}
use Rattle.sets.specs.Sets.{in_set, chosen}
use Rattle.calls.specs.Single.{Outcome, outcome}
use Rattle.plan_leaves.specs.declared.Walked.{Walked}
use Rattle.plan_leaves.specs.declared.Walked.TheVariants as W
use Rattle.base.specs.Refusals.{number_of}

-- node k has its slot in the work buffer
abbrev pub SlotIn : List ℕ → ℕ → Type 0
SlotIn work k = slot_at narrow (k + 1) ≤ length work

-- node k's sheet ends at r
pub record EndsAt (work : List ℕ) (k r : ℕ) : Type 0 where
  pub behind : slot_at narrow k ≤ r
  pub within : r ≤ slot_at narrow (k + 1)
  pub bytes : take (r - slot_at narrow k) (drop (slot_at narrow k) work) ≡ sheet_in narrow k work

-- node k is a step whose operands are earlier nodes, and has its slot
pub record Steppable (p : List ℕ) (k : ℕ) (work : List ℕ) : Type 0 where
  pub step : StepOf p k
  pub few : k < node_limit
  pub left : left_of p k < k
  pub right : right_of p k < k
  pub room : SlotIn work k

-- those of a set of nodes that come from k on
abbrev pub nodes_from : ℕ → List ℕ → ℕ → List ℕ
nodes_from nodes p k = chosen (in_set nodes) (list_from (node_count p - k) k (λ i. i))

-- 01: "A plan call gives 0 and its node count, or a refusal and the node"; where a step is next, what the set's steps from there on come to
abbrev pub walked : ℕ → List ℕ → Walked → List ℕ → Outcome
walked nodes p (W.Accepted n) work = outcome 0 n work
walked nodes p (W.Refused e node) work = outcome (number_of e) node work
walked nodes p (W.Next k) work = walk narrow p (nodes_from nodes p k) work

-- 1 and 27 have passed
pub record Walkable (p work : List ℕ) : Type 0 where
  pub formed : plan_fails p ≡ false
  pub room : slot_at narrow (node_count p) ≤ length work

-- what becomes of the rest of a call: nothing after a refusal
abbrev pub unless_stopped : Walked → List ℕ → Outcome → Outcome
unless_stopped (W.Accepted n) work rest = rest
unless_stopped (W.Refused e node) work rest = outcome (number_of e) node work
unless_stopped (W.Next k) work rest = rest

-- a refusal has a number, and its node fits a reply
abbrev pub Refusal : ℕ → ℕ → Type 0
Refusal k node = (0 < k) × (node ≤ no_node)

-- what checking the leaves of a plan answers: the first step is next, or a refusal
abbrev pub Leaves : List ℕ → Walked → Type 0
Leaves p (W.Accepted n) = ⊥
Leaves p (W.Refused e node) = Refusal (number_of e) node
Leaves p (W.Next k) = k ≡ leaf_count p

-- .. of those in a set of nodes
pub record LeavesSay (nodes : ℕ) (p work : List ℕ) (r : Walked) : Type 0 where
  pub says : (rest : Outcome) → leaves_then narrow (chosen (in_set nodes) (leaf_nodes narrow p)) work rest ≡ unless_stopped r work rest
  pub next : Leaves p r

-- the plan is ready for its steps, of which the first is next, or it has none, or it is refused
abbrev pub Begun : List ℕ → List ℕ → Walked → Type 0
Begun p work (W.Accepted n) = n ≤ no_node
Begun p work (W.Refused e node) = Refusal (number_of e) node
Begun p work (W.Next k) = Walkable p work × (k ≡ leaf_count p)

-- a plan was walked to its end or to a refusal, and the value fits a reply
abbrev pub Ended : Walked → Type 0
Ended (W.Accepted n) = n ≤ no_node
Ended (W.Refused e node) = Refusal (number_of e) node
Ended (W.Next k) = ⊥
