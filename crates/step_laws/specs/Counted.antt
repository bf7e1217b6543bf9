-- 02, S-5: examples of category lists that are counted, under two theorems: single calls from the operands' bytes to the reply and the bytes written, and plans
-- to the reply and every byte of the work buffer.
use Rattle.std.specs.Prelude.{refl, List, [], ◌∷◌, ℕ, ℤ, pos}
use Rattle.numbers.specs.Result.{Result, ok, refused}
use Rattle.base.specs.Form.{narrow, int_type, float_type}
use Rattle.base.specs.Sheet.{Nature, absent, whole_lists, bool_lists, float_lists, text_lists, Sheet}
use Rattle.base.specs.Encode.{encode}
use Rattle.plan_form.specs.Form.{plan_fails, step_permitted}
use Rattle.step_laws.specs.Computing.{computing}
use Rattle.step_laws.specs.Examples.{AllHold, Example, example, leaves, Holds, slots_of, Plan, HoldsPlan}
use Rattle.step_laws.specs.Shelf.{between, minus}
use Rattle.step_laws.specs.Pooled.{operand, most}
use Rattle.step_laws.specs.Differences.{difference, least}
use Rattle.step_laws.specs.Texts.{a, b, c}
use Rattle.calls.specs.Walk.{plan, walk, step_on, sheet_in, leaves_then}

-- ---- the sheets: releasable, of one row

-- over these columns, of type Int
abbrev pub ints : ℕ → Nature → Sheet
ints columns k = operand int_type (pos 1) columns k

abbrev pub reals : ℕ → Nature → Sheet
reals columns k = operand float_type (pos 1) columns k

-- what 2 to 5 make with a node number
abbrev pub made : ℕ → ℕ → Nature → Sheet
made node columns k = difference node int_type columns k

-- lists of one category each
abbrev pub one : ℤ → Nature
one u = whole_lists ((u ∷ []) ∷ [])

abbrev pub two : ℤ → ℤ → Nature
two u v = whole_lists ((u ∷ []) ∷ (v ∷ []) ∷ [])

abbrev pub three : ℤ → ℤ → ℤ → Nature
three u v w = whole_lists ((u ∷ []) ∷ (v ∷ []) ∷ (w ∷ []) ∷ [])

-- {1}{2}
abbrev pub one_two : Nature
one_two = two (pos 1) (pos 2)

abbrev pub true_lists : Nature
true_lists = bool_lists ((1 ∷ []) ∷ [])

abbrev pub float_zero : Nature
float_zero = float_lists ((0 ∷ []) ∷ [])

-- ---- the calls

abbrev pub pair : ℕ → Sheet → Sheet → Result Sheet → Example
pair k l r g = example k (encode narrow l) (encode narrow r) 160 g

-- Abs or Negative
abbrev pub alone : ℕ → Sheet → Result Sheet → Example
alone k l g = example k (encode narrow l) [] 160 g

unfoldable pub table : List Example
table =
    -- Abs and Negative: too few, too many, and more than the one column
    alone 1 (ints 3 one_two) (refused 29)
    ∷ alone 1 (ints 2 (three (pos 4) (pos 5) (pos 6))) (refused 29)
    ∷ alone 9 (ints 1 one_two) (refused 29)
    -- one list for all columns, and one for each
    ∷ alone 9 (ints 3 (one (pos 1))) (ok (ints 3 (three (minus 1) (minus 1) (minus 1))))
    ∷ alone 9 (ints 3 (three (pos 1) (pos 2) (pos 3))) (ok (ints 3 (three (minus 1) (minus 2) (minus 3))))
    -- directly behind 20; before 22 and 24
    ∷ alone 1 (ints 3 (whole_lists [])) (refused 20)
    ∷ alone 1 (ints 3 (bool_lists ((1 ∷ []) ∷ (0 ∷ []) ∷ []))) (refused 29)
    ∷ alone 9 (ints 3 (two least (pos 1))) (refused 29)
    -- on left before right's 19 and 20, and on right before 21
    ∷ pair 3 (ints 4 one_two) (ints 4 float_zero) (refused 29)
    ∷ pair 3 (ints 4 float_zero) (ints 4 one_two) (refused 19)
    ∷ pair 2 (ints 4 one_two) (ints 4 (whole_lists [])) (refused 29)
    ∷ pair 2 (ints 3 one_two) (ints 3 true_lists) (refused 29)
    ∷ pair 2 (ints 3 true_lists) (ints 3 one_two) (refused 29)
    -- bool and text too
    ∷ pair 4 (ints 3 (bool_lists ((1 ∷ []) ∷ (0 ∷ []) ∷ []))) (ints 3 true_lists) (refused 29)
    ∷ pair 2 (ints 3 (text_lists ((a ∷ []) ∷ (b ∷ []) ∷ []))) (ints 3 (text_lists ((c ∷ []) ∷ []))) (refused 29)
    -- by the output's columns and not by the sheet's own
    ∷ pair 3 (ints 1 (two (pos 4) (pos 5))) (ints 2 (one (pos 1))) (ok (made 9 2 (two (pos 3) (pos 4))))
    ∷ pair 2 (ints 2 one_two) (ints 1 (three (pos 10) (pos 20) (pos 30))) (refused 29)
    ∷ pair 2 (ints 1 one_two) (ints 1 (two (pos 10) (pos 20))) (refused 29)
    -- neither where a range meets categories nor where a nature is absent
    ∷ pair 2 (ints 4 one_two) (ints 4 (between (pos 0) (pos 9))) (ok (made 9 4 absent))
    ∷ pair 2 (ints 4 one_two) (ints 4 absent) (ok (made 9 4 absent))
    -- Float Power, whose columns are left's, before 22; Int Power has 15 first
    ∷ pair 8 (reals 1 (one (pos 1))) (reals 2 one_two) (refused 29)
    ∷ pair 8 (reals 2 one_two) (reals 2 (one (pos 1))) (refused 22)
    ∷ pair 8 (ints 1 (one (pos 1))) (ints 2 one_two) (refused 15)
    -- Pool, before 24 of the rows
    ∷ pair 10 (operand int_type most 3 one_two) (operand int_type most 3 (one (pos 5))) (refused 29)
    ∷ []

-- every row of the table holds
pub counted : AllHold Holds table
unfolding table AllHold leaves computing
counted =
    (refl, (refl, (refl, (refl, (refl, (refl, (refl, (refl, (refl, (refl, (refl, (refl, (refl, (refl, (refl, (refl, (refl, (refl, (refl, (refl, (refl, (refl, (refl, (refl, tt))))))))))))))))))))))))

-- ---- plans

-- categories with a range: nobody counts two lists over three columns
unfoldable pub uncounted : List ℕ
uncounted =
    3 ∷ 0 ∷ 2 ∷ 0
    ∷ 2 ∷ 0 ∷ 0 ∷ 0  -- node 2: Add
    ∷ 0 ∷ 0 ∷ 1 ∷ 0  -- node 2: left 0, right 1
    ∷ []

-- .. until a step maps them
unfoldable pub then_negative : List ℕ
then_negative =
    4 ∷ 0 ∷ 2 ∷ 0
    ∷ 2 ∷ 0 ∷ 0 ∷ 0  -- node 2: Add
    ∷ 9 ∷ 0 ∷ 0 ∷ 0  -- node 3: Negative
    ∷ 0 ∷ 0 ∷ 1 ∷ 0  -- node 2: left 0, right 1
    ∷ 0 ∷ 0 ∷ 0 ∷ 0  -- node 3: left 0
    ∷ []

abbrev pub leaf_sheets : List Sheet
leaf_sheets = ints 3 one_two ∷ ints 3 (between (pos 1) (pos 2)) ∷ []

unfoldable pub plan_table : List Plan
plan_table =
    record { bytes = uncounted; handed_in = leaf_sheets; steps = made 2 3 absent ∷ []; code = 0; value = 3 }
    ∷ record { bytes = then_negative; handed_in = leaf_sheets; steps = made 2 3 absent ∷ []; code = 29; value = 3 }
    ∷ []

-- every row holds
pub counted_plans : AllHold HoldsPlan plan_table
unfolding plan_table uncounted then_negative AllHold plan walk step_on sheet_in leaves_then plan_fails step_permitted slots_of computing
counted_plans = (refl, (refl, tt))
