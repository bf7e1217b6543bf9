-- Examples of Pool as one table under one theorem, from the operands' bytes to the reply and the bytes written.
use Rattle.std.specs.Prelude.{refl, Bool, true, false, List, [], ◌∷◌, ℕ, ◌+◌, ◌-◌, ◌*◌, ◌^◌, Float, ℤ, pos}
use Rattle.std.proofs.Math.Option.{Option, none, some}
use Rattle.std.specs.Float.{binary64}
use Rattle.std.specs.Float.Ieee.{of_bits}
use Rattle.numbers.specs.Result.{Result, ok, refused}
use Rattle.utilities.specs.Lists.{list_from}
use Rattle.base.specs.Form.{narrow, int_type, float_type}
use Rattle.base.specs.Sheet.{Nature, absent, whole_range, float_range, whole_lists, bool_lists, float_lists, Sheet}
use Rattle.base.specs.Encode.{encode}
use Rattle.step_laws.specs.Computing.{computing}
use Rattle.step_laws.specs.Examples as Examples
use Rattle.step_laws.specs.Examples.{AllHold, sheet_with, Example, leaves, Holds}
use Rattle.step_laws.specs.Shelf.{range, between, minus}

-- ---- the sheets

-- not ordered, as Pool leaves it
abbrev pub sheet_of : ℕ → Bool → ℕ → ℤ → ℕ → Option ℤ → ℤ → Nature → Sheet
sheet_of type releasable stability rows columns dataset node k = sheet_with type releasable false stability rows columns dataset node k

-- releasable, of a type, with rows and columns: an operand, of node 7, and what Pool gives, of the call's node, 9
abbrev pub operand : ℕ → ℤ → ℕ → Nature → Sheet
operand type rows columns k = sheet_of type true 0 rows columns none (pos 7) k

abbrev pub pooled : ℕ → ℕ → Nature → Sheet
pooled type columns k = sheet_of type true 0 (pos 2) columns none (pos 9) k

-- ---- the calls

-- the single call of Pool
abbrev pub example : Sheet → Sheet → ℕ → Result Sheet → Example
example l r room g = Examples.example 10 (encode narrow l) (encode narrow r) room g

-- two operands of a type, of one row each and these columns
abbrev pub pool : ℕ → ℕ → Nature → Nature → Nature → Example
pool type columns l r k = example (operand type (pos 1) columns l) (operand type (pos 1) columns r) 120 (ok (pooled type columns k))

-- two operands of type Int, of these rows and columns, that are refused
abbrev pub says : ℕ → ℤ → ℕ → Nature → ℤ → ℕ → Nature → Example
says n p c l q d r = example (operand int_type p c l) (operand int_type q d r) 120 (refused n)

-- ---- the table

abbrev pub bits : ℕ → Float
bits v = of_bits binary64 v

-- -1.0, -2.0, -0.0 and 0.0
abbrev pub minus_one : Float
minus_one = bits (2 ^ 63 + 1023 * 2 ^ 52)

abbrev pub minus_two : Float
minus_two = bits (2 ^ 63 + 2 ^ 62)

abbrev pub minus_zero : Float
minus_zero = bits (2 ^ 63)

abbrev pub plus_zero : Float
plus_zero = bits 0

abbrev pub floats : Float → Float → Nature
floats a c = float_range (record { lower = some a; upper = some c } ∷ [])

abbrev pub wholes : List ℤ → Nature
wholes l = whole_lists (l ∷ [])

abbrev pub bools : List ℕ → Nature
bools l = bool_lists (l ∷ [])

abbrev pub two_entries : Nature
two_entries = whole_range (record { lower = some (pos 1); upper = some (pos 2) } ∷ record { lower = some (pos 1); upper = some (pos 2) } ∷ [])

-- the most rows that a sheet states
abbrev pub most : ℤ
most = pos (2 ^ 63 - 1)

abbrev pub private : ℕ → ℤ → Option ℤ → ℤ → Nature → Sheet
private stability rows dataset node k = sheet_of int_type false stability rows 1 dataset node k

unfoldable pub table : List Example
table =
    -- the wider range, in its 98 bytes and in no fewer
    example (operand int_type (pos 1) 1 (between (pos 1) (pos 2))) (operand int_type (pos 1) 1 (between (minus 3) (pos 5))) 98 (ok (pooled int_type 1 (between (minus 3) (pos 5))))
    ∷ example (operand int_type (pos 1) 1 (between (pos 1) (pos 2))) (operand int_type (pos 1) 1 (between (minus 3) (pos 5))) 97 (refused 27)
    -- an end is absent if either is
    ∷ pool int_type 1 (range (some (pos 1)) none) (between (minus 3) (pos 5)) (range (some (minus 3)) none)
    ∷ pool int_type 1 (range none (some (pos 4))) (range none (some (pos 9))) (range none (some (pos 9)))
    -- left's end on a tie
    ∷ pool float_type 1 (floats minus_one minus_zero) (floats minus_two plus_zero) (floats minus_two minus_zero)
    ∷ pool float_type 1 (floats minus_two plus_zero) (floats minus_one minus_zero) (floats minus_two plus_zero)
    -- unequal column counts, though one is 1
    ∷ says 12 (pos 1) 1 (between (pos 1) (pos 2)) (pos 1) 2 (between (pos 1) (pos 2))
    -- left's categories and then right's, without repeats, bool too; float ones are not united
    ∷ pool int_type 1 (wholes (pos 3 ∷ pos 1 ∷ pos 3 ∷ [])) (wholes (pos 1 ∷ pos 2 ∷ [])) (wholes (pos 3 ∷ pos 1 ∷ pos 2 ∷ []))
    ∷ pool int_type 1 (bools (1 ∷ [])) (bools (0 ∷ 1 ∷ [])) (bools (1 ∷ 0 ∷ []))
    ∷ pool int_type 2 (whole_lists ((pos 1 ∷ []) ∷ (pos 2 ∷ []) ∷ [])) (wholes (pos 5 ∷ [])) (whole_lists ((pos 1 ∷ pos 5 ∷ []) ∷ (pos 2 ∷ pos 5 ∷ []) ∷ []))
    ∷ says 19 (pos 1) 1 (wholes (pos 1 ∷ [])) (pos 1) 1 (float_lists ((0 ∷ []) ∷ []))
    ∷ says 19 (pos 1) 1 (float_lists ((0 ∷ []) ∷ [])) (pos 1) 1 (wholes (pos 1 ∷ []))
    -- rows that leave 64 bits, whatever the natures are; an entry count comes before them
    ∷ says 24 most 1 (between (pos 1) (pos 2)) (pos 1) 1 (between (pos 1) (pos 2))
    ∷ says 24 most 1 absent (pos 1) 1 (between (pos 1) (pos 2))
    ∷ says 18 most 3 two_entries (pos 1) 3 (between (pos 1) (pos 2))
    -- 26 comes behind the rows
    ∷ says 26 (pos 1) 1 (wholes (list_from 100 0 pos)) (pos 1) 1 (wholes (list_from 30 100 pos))
    ∷ says 24 most 1 (wholes (list_from 100 0 pos)) (pos 5) 1 (wholes (list_from 30 100 pos))
    -- private logs of two datasets
    ∷ example (private 1 (pos 96) (some (pos 1)) (pos 7) (between (pos 1) (pos 2))) (private 3 (pos 40) (some (pos 2)) (pos 7) (between (minus 3) (pos 5))) 120
    (ok (private 3 (pos 136) none (pos 9) (between (minus 3) (pos 5))))
    ∷ []

-- ---- what each row says

-- every row of the table holds
pub pooling : AllHold Holds table
unfolding table AllHold leaves computing
pooling =
    (refl, (refl, (refl, (refl, (refl, (refl, (refl, (refl, (refl, (refl, (refl, (refl, (refl, (refl, (refl, (refl, (refl, (refl, tt))))))))))))))))))
