-- 01, "Shelf examples (* proved)": the starred examples as one table under one theorem, from the operands' bytes to the reply and the bytes written.
use Rattle.std.specs.Prelude.{◌≡◌, refl, Bool, true, false, cond, ◌&&◌, List, [], ◌∷◌, ℕ, ◌^◌, ℤ, pos, neg_ℤ, length, replicate, leb}
use Rattle.std.proofs.Math.Option.{Option, none, some}
use Rattle.octets.specs.Deliver.{delivered}
use Rattle.base.specs.Form.{narrow, int_type}
use Rattle.base.specs.Sheet.{Nature, whole_range, whole_lists, Sheet}
use Rattle.base.specs.Encode.{encode}
use Rattle.step_laws.specs.Computing.{computing}
use Rattle.step_laws.specs.Examples.{AllHold, sheet_with}
use Rattle.calls.specs.Single.{Outcome, outcome, single}

-- the sheets of the examples: type Int, one row, one column, releasable, every other field zero or absent
abbrev pub sheet_of : ℤ → Bool → Nature → Sheet
sheet_of node ordered k = sheet_with int_type true ordered 0 (pos 1) 1 none node k

-- a range of one entry, and one list of categories
abbrev pub range : Option ℤ → Option ℤ → Nature
range a c = whole_range (record { lower = a; upper = c } ∷ [])

abbrev pub between : ℤ → ℤ → Nature
between a c = range (some a) (some c)

abbrev pub minus : ℕ → ℤ
minus n = neg_ℤ (pos n)

-- ---- the calls

-- what is expected: a nature, or a refusal
pub data Expected : Type 0 where
  gives : Nature → Expected
  says : ℕ → Expected

-- operands are bytes
pub record Example : Type 0 where
  pub component : ℕ
  pub left : List ℕ
  pub right : List ℕ
  pub expected : Expected

-- the bytes of a sheet with a nature
unfoldable pub bytes_of : Nature → List ℕ
bytes_of k = encode narrow (sheet_of (pos 7) false k)

-- the lent output, longer than any of the results
abbrev pub out : List ℕ
out = replicate 120 170

-- the single call of an example, with node number 9
abbrev pub call : Example → Outcome
call e = single narrow e.component 9 e.left e.right out

abbrev pub pair : ℕ → Nature → Nature → Expected → Example
pair c l r e = record { component = c; left = bytes_of l; right = bytes_of r; expected = e }

-- Abs and Negative do not read the right operand: it has no byte
abbrev pub alone : ℕ → Nature → Expected → Example
alone c l e = record { component = c; left = bytes_of l; right = []; expected = e }

-- ---- the table

unfoldable pub table : List Example
table =
    alone 1 (between (minus 5) (pos 3)) (gives (between (minus 3) (pos 5)))
    ∷ alone 1 (between (minus 7) (minus 2)) (gives (between (pos 2) (pos 7)))
    ∷ alone 1 (between (pos 0) (pos 5)) (gives (between (minus 5) (pos 5)))
    ∷ pair 2 (between (pos 1) (pos 2)) (between (pos 10) (pos 20)) (gives (between (pos 11) (pos 22)))
    -- by 02, S-4, "The first shelf example of Subtract becomes [0,1] minus [0,5] → [-5,1]"
    ∷ pair 3 (between (pos 0) (pos 1)) (between (pos 0) (pos 5)) (gives (between (minus 5) (pos 1)))
    ∷ pair 4 (between (minus 2) (pos 3)) (between (pos 4) (pos 5)) (gives (between (minus 10) (pos 15)))
    ∷ pair 5 (between (minus 7) (pos 7)) (between (pos 2) (pos 3)) (gives (between (minus 3) (pos 3)))
    ∷ pair 5 (between (pos 1) (pos 10)) (between (pos 0) (pos 5)) (gives (range none (some (pos 2))))
    ∷ pair 5 (between (pos 1) (pos 10)) (range none (some (pos 5))) (says 23)
    ∷ pair 6 (between (pos 0) (pos 1)) (between (pos 3) (pos 8)) (gives (between (pos 0) (pos 7)))
    ∷ pair 6 (between (pos 0) (pos 1)) (between (pos 0) (pos 8)) (says 16)
    ∷ alone 9 (range (some (minus 5)) none) (gives (range none (some (pos 5))))
    ∷ alone 9 (between (minus (2 ^ 63)) (pos 0)) (says 24)
    ∷ pair 2 (whole_lists ((pos 1 ∷ pos 2 ∷ []) ∷ [])) (whole_lists ((pos 10 ∷ pos 11 ∷ []) ∷ []))
    (gives (whole_lists ((pos 11 ∷ pos 12 ∷ pos 13 ∷ []) ∷ [])))
    ∷ []

-- ---- what each row says

-- what an example's call is to leave: 2 to 5 write the call's node, and say that the order is natural
abbrev pub derived : ℕ → Nature → Sheet
derived c k = cond (leb 2 c && leb c 5) (sheet_of (pos 9) true k) (sheet_of (pos 7) false k)

unfoldable pub leaves : ℕ → Expected → Outcome
leaves c (gives k) = outcome 0 (length (encode narrow (derived c k))) (delivered out (encode narrow (derived c k)))
leaves c (says n) = outcome n 0 out

-- the call leaves just that
abbrev pub Holds : Example → Type 0
Holds e = call e ≡ leaves e.component e.expected

-- every row of the table holds
pub shelf : AllHold Holds table
unfolding table AllHold leaves bytes_of computing
shelf =
    (refl, (refl, (refl, (refl, (refl, (refl, (refl, (refl, (refl, (refl, (refl, (refl, (refl, (refl, tt))))))))))))))
