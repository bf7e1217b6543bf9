-- A column's texts joined or united, as the numbers that the stores hold for them.
use Rattle.std.specs.Prelude.{Bool, true, false, List, [], ◌∷◌, ◌++◌, map, ℤ, pos}
use Rattle.texts.specs.Joins.{join_code}

-- 01: "Pairs run left outer, right inner"
unfoldable pub pair_codes : List ℤ → List ℤ → List ℤ
pair_codes [] bs = []
pair_codes (a ∷ us) bs = map (join_code a) bs ++ pair_codes us bs

-- left's texts, and then right's
abbrev pub both_codes : List ℤ → List ℤ → List ℤ
both_codes us bs = us ++ map (join_code (pos 0)) bs

abbrev pub codes_by : Bool → List ℤ → List ℤ → List ℤ
codes_by true us bs = pair_codes us bs
codes_by false us bs = both_codes us bs
