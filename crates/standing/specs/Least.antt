-- 02, S-7: "the wanted node and all it stands on", as a least set; and what is asked of the list of these nodes.
use Rattle.std.specs.Prelude.{◌≡◌, Bool, true, ◌&&◌, List, [], ◌∷◌, ℕ, ◌≤◌, ltb}
use Rattle.utilities.specs.Lists.{every}
use Rattle.plan_form.specs.Form.{leaf_count, left_of, right_of}
use Rattle.standing.specs.Standing.{stands}

-- what node k stands on is the least set that holds k and, with a step, its operands
pub record Least (p : List ℕ) (k : ℕ) : Type 1 where
  pub self : stands p k k ≡ true
  pub operands : {j : ℕ} → stands p k j ≡ true → leaf_count p ≤ j → (stands p k (left_of p j) ≡ true) × (stands p k (right_of p j) ≡ true)
  pub least : (Q : ℕ → Type 0) → Q k → ((j : ℕ) → leaf_count p ≤ j → Q j → Q (left_of p j) × Q (right_of p j)) → (j : ℕ) → stands p k j ≡ true → Q j

-- every number of a list is below all that come after it
unfoldable pub ascending : List ℕ → Bool
ascending [] = true
ascending (k ∷ ks) = every (ltb k) ks && ascending ks
