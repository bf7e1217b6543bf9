-- 01, "The plan, our addition": the form of a plan, and 1.
use Rattle.std.specs.Prelude.{Bool, false, not, ◌&&◌, ◌||◌, List, ℕ, ◌+◌, ◌-◌, ◌*◌, ◌/◌, ◌%◌, length, eqb, ltb}
use Rattle.octets.specs.Le.{le_at}
use Rattle.base.specs.Checks.{holds_from}
use Rattle.base.specs.Components.{component_of, family_of, is_unary}
use Rattle.std.specs.declared.option.Option as Rust
use Rattle.std.specs.declared.option.Option.TheVariants as N
use Rattle.base.specs.declared.Component.{Component}

-- 01: "nodes N (1 to 32)"
abbrev pub node_limit : ℕ
node_limit = 32

-- where the arrays begin, behind the two sizes
abbrev pub steps_at : ℕ
steps_at = 4

-- 01: "for 1 and 27 the node is 65,535"
abbrev pub no_node : ℕ
no_node = 65535

module _ (p : List ℕ) where
  -- 01: "Two 16-bit sizes: nodes N (1 to 32), leaves K (1 to N)"
  abbrev pub node_count : ℕ
  node_count = le_at 2 0 p

  abbrev pub leaf_count : ℕ
  leaf_count = le_at 2 2 p

  abbrev pub step_count : ℕ
  step_count = node_count - leaf_count

  -- 01: "two arrays of N − K 32-bit numbers: components 1 to 9, and left + 65,536 × right"; 02, S-1: "the plan admit component 10". Of node k, which is step k − K
  abbrev pub component_number : ℕ → ℕ
  component_number k = le_at 4 (steps_at + 4 * (k - leaf_count)) p

  abbrev pub operands : ℕ → ℕ
  operands k = le_at 4 (steps_at + 4 * step_count + 4 * (k - leaf_count)) p

  abbrev pub left_of : ℕ → ℕ
  left_of k = operands k % 65536

  abbrev pub right_of : ℕ → ℕ
  right_of k = operands k / 65536

  -- 01: "Operands are earlier nodes, counted from 0; for 1 and 9 both are the same"
  unfoldable pub step_permitted : Rust.Option Component → ℕ → Bool
  step_permitted N.None k = false
  step_permitted (N.Some c) k = ltb (left_of k) k && ltb (right_of k) k && (not (is_unary (family_of c)) || eqb (left_of k) (right_of k))

  -- 1: "The plan is malformed"; "The length is exact; departures are 1"
  unfoldable pub plan_fails : Bool
  plan_fails =
      ltb (length p) steps_at
      || eqb node_count 0
      || ltb node_limit node_count
      || eqb leaf_count 0
      || ltb node_count leaf_count
      || not (eqb (length p) (steps_at + 8 * step_count))
      || not (holds_from step_count leaf_count (λ k. step_permitted (component_of (component_number k)) k))
