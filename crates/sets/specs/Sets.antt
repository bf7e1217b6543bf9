-- Sets of numbers below 64, as the digits of a 64-bit number.
use Rattle.std.specs.Prelude.{Bool, cond, List, [], ◌∷◌, ℕ, ◌-◌, ◌/◌, ◌%◌, ◌^◌, eqb}

-- 02, S-7: "a 64-bit set of owning rinks": rink k is in it if digit k is 1
abbrev pub in_set : ℕ → ℕ → Bool
in_set set k = eqb (set / 2 ^ k % 2) 1

-- every number below 64
abbrev pub full_set : ℕ
full_set = 2 ^ 64 - 1

-- the numbers of a list that pass a test, in their order
unfoldable pub chosen : (ℕ → Bool) → List ℕ → List ℕ
chosen test [] = []
chosen test (k ∷ ks) = cond (test k) (k ∷ chosen test ks) (chosen test ks)
