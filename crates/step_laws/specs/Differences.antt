-- 02, S-4: examples of Subtract on ranges under two theorems: single calls from the operands' bytes to the reply and the bytes written, and plans to the reply and every byte of the work
-- buffer.
use Rattle.std.specs.Prelude.{refl, true, List, [], ◌∷◌, ℕ, ◌-◌, ◌^◌, ℤ, pos, take}
use Rattle.std.proofs.Math.Option.{none, some}
use Rattle.std.specs.Float.{binary64}
use Rattle.std.specs.Float.Ieee.{of_bits}
use Rattle.numbers.specs.Result.{Result, ok, refused}
use Rattle.numbers.specs.Kind.{span_of}
use Rattle.base.specs.Form.{narrow, int_type, float_type}
use Rattle.base.specs.Sheet.{Nature, whole_range, float_range, whole_lists, Sheet}
use Rattle.base.specs.Encode.{encode}
use Rattle.plan_form.specs.Form.{plan_fails, step_permitted}
use Rattle.step_laws.specs.Computing.{computing}
use Rattle.step_laws.specs.Examples.{AllHold, sheet_with, Example, example, call, leaves, Holds, slots_of, Plan, HoldsPlan}
use Rattle.step_laws.specs.Shelf.{range, between, minus}
use Rattle.step_laws.specs.Pooled.{operand}
use Rattle.step_laws.specs.Signs.{plus_zero, minus_zero, large, minus_large}
use Rattle.calls.specs.Walk.{plan, walk, step_on, sheet_in, leaves_then}

-- ---- the sheets: releasable, of one row

-- what Subtract gives with a node number
abbrev pub difference : ℕ → ℕ → ℕ → Nature → Sheet
difference node type columns k = sheet_with type true true 0 (pos 1) columns none (pos node) k

-- a range of one entry, by the bits of its ends
abbrev pub floats : ℕ → ℕ → Nature
floats a c = float_range (span_of (some (of_bits binary64 a)) (some (of_bits binary64 c)) ∷ [])

-- the least and the greatest number of 64 bits
abbrev pub least : ℤ
least = minus (2 ^ 63)

abbrev pub greatest : ℤ
greatest = pos (2 ^ 63 - 1)

-- 1.0, and minus infinity
abbrev pub one : ℕ
one = 0x3ff0_0000_0000_0000

abbrev pub minus_infinity : ℕ
minus_infinity = 0xfff0_0000_0000_0000

-- ---- the calls

-- Subtract over these columns
abbrev pub over : ℕ → ℕ → Nature → Nature → Nature → Example
over type columns l r k = example 3 (encode narrow (operand type (pos 1) columns l)) (encode narrow (operand type (pos 1) columns r)) 130 (ok (difference 9 type columns k))

abbrev pub wholes : Nature → Nature → Nature → Example
wholes l r k = over int_type 1 l r k

abbrev pub leaves64_bits : Nature → Nature → Example
leaves64_bits l r = example 3 (encode narrow (operand int_type (pos 1) 1 l)) (encode narrow (operand int_type (pos 1) 1 r)) 130 (refused 24)

-- Abs of what an example's call left at the start of the output
abbrev pub then_abs : Example → Result Sheet → Example
then_abs e g = example 1 (take (call e).value (call e).bytes) [] 130 g

abbrev pub first : Example
first = wholes (between (pos 0) (pos 1)) (between (pos 0) (pos 5)) (between (minus 5) (pos 1))

-- -1.7e308 - 1.7e308 is infinite
abbrev pub overflowing : Example
overflowing = over float_type 1 (floats minus_large one) (floats plus_zero large) (floats minus_infinity one)

unfoldable pub table : List Example
table =
    first
    ∷ wholes (between (pos 3) (pos 8)) (between (pos 1) (pos 2)) (between (pos 1) (pos 7))
    -- each end is absent if one of its own two is
    ∷ wholes (range none (some (pos 9))) (between (pos 2) (pos 3)) (range none (some (pos 7)))
    ∷ wholes (range (some (pos 4)) none) (between (pos 2) (pos 3)) (range (some (pos 1)) none)
    ∷ wholes (between (pos 4) (pos 9)) (range none (some (pos 3))) (range (some (pos 1)) none)
    ∷ wholes (between (pos 4) (pos 9)) (range (some (pos 2)) none) (range none (some (pos 7)))
    ∷ wholes (between (pos 1) (pos 5)) (range none none) (range none none)
    -- 24, of the lower or of the upper
    ∷ leaves64_bits (between (pos 0) (pos 0)) (between least least)
    ∷ leaves64_bits (between (minus 1) (pos 4)) (between least (pos 3))
    ∷ leaves64_bits (between (minus 2) greatest) (between (minus 1) greatest)
    ∷ leaves64_bits (range none (some greatest)) (range (some (minus 1)) none)
    -- an end that is absent leaves nothing
    ∷ wholes (range none (some greatest)) (range none (some (minus 1))) (range none none)
    -- no Add of the Negative, which -2^63 has not
    ∷ wholes (between (minus 5) (minus 2)) (between least least) (between (pos (2 ^ 63 - 5)) (pos (2 ^ 63 - 2)))
    -- floats: the sign of zero, and [0.3, 0.4] - [0.1, 0.2], each end rounded once
    ∷ over float_type 1 (floats minus_zero one) (floats minus_zero plus_zero) (floats minus_zero one)
    ∷ over float_type 1 (floats 0x3fd3_3333_3333_3333 0x3fd9_9999_9999_999a) (floats 0x3fb9_9999_9999_999a 0x3fc9_9999_9999_999a)
    (floats 0x3fb9_9999_9999_9998 0x3fd3_3333_3333_3334)
    ∷ overflowing
    -- one entry and one per column
    ∷ over int_type 2 (whole_range (span_of (some (pos 0)) (some (pos 1)) ∷ span_of (some (pos 5)) (some (pos 6)) ∷ [])) (between (pos 1) (pos 2))
    (whole_range (span_of (some (minus 2)) (some (pos 0)) ∷ span_of (some (pos 3)) (some (pos 5)) ∷ []))
    -- categories are combined as before
    ∷ wholes (whole_lists ((pos 7 ∷ pos 2 ∷ []) ∷ [])) (whole_lists ((pos 2 ∷ pos 7 ∷ []) ∷ [])) (whole_lists ((pos 5 ∷ pos 0 ∷ minus 5 ∷ []) ∷ []))
    -- a next step takes the first of these, and says 5 to the end that is infinite
    ∷ then_abs first (ok (difference 9 int_type 1 (between (minus 1) (pos 5))))
    ∷ then_abs overflowing (refused 5)
    ∷ []

-- every row of the table holds
pub differences : AllHold Holds table
unfolding table AllHold leaves computing
differences =
    (refl, (refl, (refl, (refl, (refl, (refl, (refl, (refl, (refl, (refl, (refl, (refl, (refl, (refl, (refl, (refl, (refl, (refl, (refl, (refl, tt))))))))))))))))))))

-- ---- plans

-- two leaves; node 2 is their difference and node 3 its Abs
unfoldable pub difference_then_abs : List ℕ
difference_then_abs =
    4 ∷ 0 ∷ 2 ∷ 0
    ∷ 3 ∷ 0 ∷ 0 ∷ 0  -- node 2: Subtract
    ∷ 1 ∷ 0 ∷ 0 ∷ 0  -- node 3: Abs
    ∷ 0 ∷ 0 ∷ 1 ∷ 0  -- node 2: left 0, right 1
    ∷ 2 ∷ 0 ∷ 2 ∷ 0  -- node 3: left 2
    ∷ []

-- one leaf; node 1 is its difference from itself
unfoldable pub difference_from_itself : List ℕ
difference_from_itself =
    2 ∷ 0 ∷ 1 ∷ 0
    ∷ 3 ∷ 0 ∷ 0 ∷ 0  -- node 1: Subtract
    ∷ 0 ∷ 0 ∷ 0 ∷ 0  -- node 1: left 0, right 0
    ∷ []

unfoldable pub plan_table : List Plan
plan_table =
    -- accepted, where 01's ends said 5 at node 3
    record {
      bytes = difference_then_abs;
      handed_in = operand int_type (pos 1) 1 (between (pos 0) (pos 1)) ∷ operand int_type (pos 1) 1 (between (pos 0) (pos 5)) ∷ [];
      steps = difference 2 int_type 1 (between (minus 5) (pos 1)) ∷ difference 2 int_type 1 (between (minus 1) (pos 5)) ∷ [];
      code = 0;
      value = 4;
    }
    -- a leaf less itself
    ∷ record {
      bytes = difference_from_itself;
      handed_in = operand int_type (pos 1) 1 (between (pos 0) (pos 1)) ∷ [];
      steps = difference 1 int_type 1 (between (minus 1) (pos 1)) ∷ [];
      code = 0;
      value = 2;
    }
    -- node 3 says 5 to what node 2 wrote: its lower end is infinite
    ∷ record {
      bytes = difference_then_abs;
      handed_in = operand float_type (pos 1) 1 (floats minus_large one) ∷ operand float_type (pos 1) 1 (floats plus_zero large) ∷ [];
      steps = difference 2 float_type 1 (floats minus_infinity one) ∷ [];
      code = 5;
      value = 3;
    }
    ∷ []

-- every row holds
pub difference_plans : AllHold HoldsPlan plan_table
unfolding plan_table difference_then_abs difference_from_itself AllHold plan walk step_on sheet_in leaves_then plan_fails step_permitted slots_of computing
difference_plans = (refl, (refl, (refl, tt)))
