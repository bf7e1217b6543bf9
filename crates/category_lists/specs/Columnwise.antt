-- Lists combined or mapped column by column, and what an operand's sheet is known to be.
use Rattle.std.specs.Prelude.{◌≡◌, Bool, true, false, cond, ◌⊎◌, List, [], ◌∷◌, ◌++◌, ℕ, zero, suc, ◌+◌, ◌<◌, length, get_or, eqb}
use Rattle.numbers.specs.Result.{Result, ok, and_then}
use Rattle.utilities.specs.Lists.{firsts}
use Rattle.base.specs.Form.{Form, byte_at, nature_at, is_range_nature, list_count}
use Rattle.base.specs.Checks.{sizes_fail}
use Rattle.category_lists.specs.Categories.{product, image}

-- a sheet that passed 3, of categories, with lists: 20 is "A category operand has no lists"
pub record Listed (F : Form) (s : List ℕ) : Type 0 where
  pub passed : sizes_fail F s ≡ false
  pub no_range : is_range_nature (byte_at F nature_at s) ≡ false
  pub some : 0 < list_count F s

-- one list stands for every column; of others, column j has list j
abbrev pub Reaches : Form → List ℕ → ℕ → Type 0
Reaches F s j = (list_count F s ≡ 1 → ⊥) → j < list_count F s

-- the values f i, f (i + 1), .., n of them, up to the first refusal
unfoldable pub each_from : {Y : Type 0} → (ℕ → Result Y) → ℕ → ℕ → Result (List Y)
each_from f zero i = ok []
each_from f (suc n) i = and_then (f i) (λ z. and_then (each_from f n (i + 1)) (λ zs. ok (z ∷ zs)))

-- what was made, and then the rest
abbrev pub behind : {Y : Type 0} → List Y → Result (List Y) → Result (List Y)
behind done g = and_then g (λ zs. ok (done ++ zs))

-- 01: "One list repeats per output column": the list of column j ..
abbrev pub pick {ℓ} : {X : Type ℓ} → List (List X) → ℕ → List X
pick ls j = get_or ls (cond (eqb (length ls) 1) 0 j) []

-- .. and how many columns n lists have
abbrev pub spread_of : ℕ → ℕ → ℕ
spread_of columns n = cond (eqb n 1) columns n

-- how far two operands' lists go together: as far as the shorter goes. (With 29 of 02, S-5 both go over all columns)
unfoldable pub lesser_of : ℕ → ℕ → ℕ
lesser_of zero b = 0
lesser_of (suc a) zero = 0
lesser_of (suc a) (suc b) = suc (lesser_of a b)

-- column j of left's lists alone, or of both operands' lists
unfoldable pub column_of : {X : Type 0} → Bool → (X → X → Bool) → (X → X → Result X) → List (List X) → List (List X) → ℕ → Result (List X)
column_of true same rule ls ms j = image same rule (firsts same (pick ls j))
column_of false same rule ls ms j = product same rule (firsts same (pick ls j)) (firsts same (pick ms j))

-- the columns from j up to end are one, or all are the first: each operand has one list
abbrev pub Alike : Form → List ℕ → List ℕ → ℕ → ℕ → Type 0
Alike F left right j end = (end ≡ j + 1) ⊎ ((list_count F left ≡ 1) × (list_count F right ≡ 1))
