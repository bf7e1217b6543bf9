-- 02, S-6: examples of mapped categories, each of which stands once in its list, under three theorems: single calls from the operand's bytes to the reply and
-- the bytes written, sheets of 128 categories, and a plan to the reply and every byte of the work buffer.
use Rattle.std.specs.Prelude.{◌≡◌, refl, List, [], ◌∷◌, ◌++◌, ℕ, zero, suc, ℤ, pos, replicate}
use Rattle.numbers.specs.Result.{Result, ok, refused}
use Rattle.utilities.specs.Lists.{list_from}
use Rattle.base.specs.Form.{narrow}
use Rattle.base.specs.Sheet.{whole_lists, Sheet}
use Rattle.base.specs.Encode.{encode}
use Rattle.base.specs.declared.Component.{Component}
use Rattle.base.specs.declared.Component.TheVariants as C
use Rattle.plan_form.specs.Form.{plan_fails, step_permitted}
use Rattle.step_laws.specs.Computing.{computing}
use Rattle.step_laws.specs.Examples.{AllHold, Example, example, leaves, Holds, slots_of, Plan, HoldsPlan}
use Rattle.step_laws.specs.Shelf.{minus}
use Rattle.step_laws.specs.Pooled.{wholes}
use Rattle.step_laws.specs.Differences.{least}
use Rattle.step_laws.specs.Counted.{ints, made, one, alone}
use Rattle.calls.specs.Derive.{derive}
use Rattle.calls.specs.Walk.{plan, walk, step_on, sheet_in, leaves_then}

-- ---- the calls

-- Abs or Negative over these columns, in just so many bytes
abbrev pub gives : ℕ → ℕ → ℕ → List (List ℤ) → List (List ℤ) → Example
gives k room columns ls ms = example k (encode narrow (ints columns (whole_lists ls))) [] room (ok (ints columns (whole_lists ms)))

abbrev pub says : ℕ → ℕ → ℕ → List ℤ → Example
says number k columns l = alone k (ints columns (wholes l)) (refused number)

-- {-3,3}
abbrev pub threes : List ℤ
threes = minus 3 ∷ pos 3 ∷ []

-- 1, -1, 2, -2, .., n, -n
unfoldable pub both_signs : ℕ → List ℤ
both_signs zero = []
both_signs (suc n) = both_signs n ++ (pos (suc n) ∷ minus (suc n) ∷ [])

unfoldable pub table : List Example
table =
    -- 02, S-6: "two bars for {-3,3}", "The example becomes {3}": in 89 bytes and in no fewer
    gives 1 89 1 (threes ∷ []) ((pos 3 ∷ []) ∷ [])
    ∷ example 1 (encode narrow (ints 1 (wholes threes))) [] 88 (refused 27)
    -- where it stood first
    ∷ gives 1 98 1 ((pos 2 ∷ minus 3 ∷ pos 3 ∷ minus 2 ∷ pos 2 ∷ []) ∷ []) ((pos 2 ∷ pos 3 ∷ []) ∷ [])
    -- list by list: the same may stand in two
    ∷ gives 1 107 2 ((pos 0 ∷ minus 1 ∷ pos 1 ∷ []) ∷ (pos 5 ∷ minus 5 ∷ []) ∷ []) ((pos 0 ∷ pos 1 ∷ []) ∷ (pos 5 ∷ []) ∷ [])
    ∷ gives 1 98 2 ((pos 3 ∷ minus 3 ∷ []) ∷ (pos 3 ∷ []) ∷ []) ((pos 3 ∷ []) ∷ (pos 3 ∷ []) ∷ [])
    -- Negative, as before
    ∷ gives 9 98 1 ((pos 3 ∷ pos 3 ∷ minus 3 ∷ []) ∷ []) ((minus 3 ∷ pos 3 ∷ []) ∷ [])
    -- 26 counts what is left, once for each column
    ∷ gives 1 1232 2 (both_signs 64 ∷ []) (replicate 2 (list_from 64 1 pos))
    ∷ gives 1 1232 16 (both_signs 8 ∷ []) (replicate 16 (list_from 8 1 pos))
    ∷ says 26 1 16 (both_signs 9)
    ∷ says 26 9 16 (both_signs 8)
    ∷ gives 1 224 16 ((replicate 8 (minus 7) ++ replicate 8 (pos 7)) ∷ []) (replicate 16 (pos 7 ∷ []))
    -- 24 comes before it, also where the values in front are too many already
    ∷ says 24 1 1 (pos 1 ∷ minus 1 ∷ least ∷ [])
    ∷ says 24 1 16 (list_from 9 1 pos ++ (least ∷ []))
    ∷ []

-- every row of the table holds
pub repeats : AllHold Holds table
unfolding table both_signs AllHold leaves computing
repeats =
    (refl, (refl, (refl, (refl, (refl, (refl, (refl, (refl, (refl, (refl, (refl, (refl, (refl, tt)))))))))))))

-- ---- as many categories as a sheet may hold, on sheets: from bytes each of these takes seconds

abbrev pub mapping : Component → ℕ → List ℤ → Result Sheet
mapping c columns l = derive narrow c (ints columns (wholes l)) (ints columns (wholes l))

pub full_lists :
    (mapping C.Abs 3 (both_signs 64) ≡ refused 26)
    × (mapping C.Negative 2 (both_signs 64) ≡ refused 26)
    × (mapping C.Abs 16 (replicate 64 (minus 7) ++ replicate 64 (pos 7)) ≡ ok (ints 16 (whole_lists (replicate 16 (pos 7 ∷ [])))))
    × (mapping C.Abs 2 (list_from 127 1 pos ++ (least ∷ [])) ≡ refused 24)
unfolding both_signs computing
full_lists = (refl, refl, refl, refl)

-- ---- a plan

-- a next step reads the list without repeats
unfoldable pub abs_then_add : List ℕ
abs_then_add =
    3 ∷ 0 ∷ 1 ∷ 0
    ∷ 1 ∷ 0 ∷ 0 ∷ 0  -- node 1: Abs
    ∷ 2 ∷ 0 ∷ 0 ∷ 0  -- node 2: Add
    ∷ 0 ∷ 0 ∷ 0 ∷ 0  -- node 1: left 0
    ∷ 1 ∷ 0 ∷ 1 ∷ 0  -- node 2: left 1, right 1
    ∷ []

unfoldable pub plan_table : List Plan
plan_table =
    record { bytes = abs_then_add; handed_in = ints 1 (wholes threes) ∷ []; steps = ints 1 (one (pos 3)) ∷ made 2 1 (one (pos 6)) ∷ []; code = 0; value = 3 } ∷ []

-- the only row holds
pub repeat_plans : AllHold HoldsPlan plan_table
unfolding plan_table abs_then_add AllHold plan walk step_on sheet_in leaves_then plan_fails step_permitted slots_of computing
repeat_plans = (refl, tt)
