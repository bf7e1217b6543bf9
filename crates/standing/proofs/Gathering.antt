-- The sets of nodes gathered one after the other, up to node k.
--     gathering_begun   before the first step
--     turning           a step at or below the wanted node, and its operands
--     joined_is         a step's, of its operands'
-- Assumes nothing.
use mathlib.Core.Path.{◌≡◌, refl, sym, ap₂, ◌∙◌}
use mathlib.Core.List.{List}
use mathlib.Core.Bool.{false}
use Prim.Native.Nat.{ℕ, ◌+◌, ◌≤◌, ◌<◌}
use native.Mathlib.Omega.{arith}
use lib.Bits.{bit_or}
use lib.ListN.{get_or}
use Rattle.plan_form.specs.Form.{node_limit, node_count, leaf_count, left_of, right_of, plan_fails}
use Rattle.plan_form.specs.Code.{StepOf}
use Rattle.plan_form.proofs.FormLaws.{planned, step_of}
use Rattle.standing.specs.Code.{NodeOf, gathered}
use Rattle.standing.proofs.Filled.{Filled}
use Rattle.standing.proofs.Turns.{by_leaf, by_step}

-- step k is in the plan, behind its operands
pub record Turning (p : List ℕ) (k : ℕ) : Type 0 where
  pub step : StepOf p k
  pub few : k < node_limit
  pub left : left_of p k < k
  pub right : right_of p k < k

pub wanted_few : {p : List ℕ} {wanted : ℕ} → NodeOf p wanted → wanted < node_limit
wanted_few {p} node = let f = (planned p node.formed).nodes in omega arith

pub turning : {p : List ℕ} {wanted leaves k : ℕ} → NodeOf p wanted → leaves ≡ leaf_count p → leaves ≤ k → k < wanted + 1 → Turning p k
turning {p} {k = k} node e later upto =
    let few = wanted_few node in
    let h = node.within in
    let within : k < node_count p = omega arith in
    let first : leaf_count p ≤ k = omega arith in
    let o = (planned p node.formed).earlier k first within in
    record { step = step_of p k node.formed first within; few = omega arith; left = o.0; right = o.1 }

module _ (p before : List ℕ) where
  abbrev own : ℕ → ℕ
  own i = get_or before i 0

  pub gathering_begun : (k : ℕ) → k ≡ leaf_count p → Filled (gathered p own) before before k
  gathering_begun k e =
      record {
        size = refl;
        done = λ i h. sym (by_leaf p own (λ j left right. bit_or (own j) (bit_or left right)) i (omega arith));
        rest = λ i h. refl;
      }

  pub joined_is : {sets : List ℕ} {k : ℕ} → plan_fails p ≡ false → Turning p k → Filled (gathered p own) before sets k
      → bit_or (get_or sets k 0) (bit_or (get_or sets (left_of p k) 0) (get_or sets (right_of p k) 0)) ≡ gathered p own k
  joined_is {sets} {k} formed t g =
      ap₂ bit_or (g.rest k (omega arith)) (ap₂ bit_or (g.done (left_of p k) t.left) (g.done (right_of p k) t.right))
      ∙ sym (by_step p own (λ j left right. bit_or (own j) (bit_or left right)) formed k t.step.later t.step.within)
