-- 01, "Range ends": lists spread over the columns, and a rule taken column by column.
use Rattle.std.specs.Prelude.{Bool, ◌||◌, List, [], ◌∷◌, ℕ, eqb}
use Rattle.numbers.specs.Result.{Result, ok, and_then}

-- a list of n goes with the columns: `broadcast` takes it. 18: "A bound list has neither one entry nor one per output column"; 29, 02, S-5: "the number of
-- category lists is neither one nor the output's column count"
abbrev pub spreads : ℕ → ℕ → Bool
spreads columns n = eqb n columns || eqb n 1

-- 01: "Columns go in order, 23 and 24 tested column by column". (Both lists are as long as there are columns: 18, and for categories 29 of 02, S-5, which
-- replaces 01's "pairing stops at the shorter")
unfoldable pub each_pair : {X Y : Type 0} → (X → X → Result Y) → List X → List X → Result (List Y)
each_pair rule [] ys = ok []
each_pair rule (x ∷ xs) [] = ok []
each_pair rule (x ∷ xs) (y ∷ ys) = and_then (rule x y) (λ z. and_then (each_pair rule xs ys) (λ zs. ok (z ∷ zs)))

unfoldable pub each : {X Y : Type 0} → (X → Result Y) → List X → Result (List Y)
each rule [] = ok []
each rule (x ∷ xs) = and_then (rule x) (λ z. and_then (each rule xs) (λ zs. ok (z ∷ zs)))
