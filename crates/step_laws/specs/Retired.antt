-- 02, S-8: examples of calls in which one would look for 25, under two theorems: Power, Modulo and Log of categories and of ranges, from the operands' bytes to
-- the reply and the bytes written, and a plan to the reply and every byte of the work buffer.
use Rattle.std.specs.Prelude.{refl, List, [], ◌∷◌, ℕ, pos}
use Rattle.std.proofs.Math.Option.{none}
use Rattle.numbers.specs.Result.{ok, refused}
use Rattle.base.specs.Sheet.{Nature, absent, whole_lists, text_lists}
use Rattle.plan_form.specs.Form.{plan_fails, step_permitted}
use Rattle.step_laws.specs.Computing.{computing}
use Rattle.step_laws.specs.Examples.{AllHold, Example, leaves, Holds, slots_of, Plan, HoldsPlan}
use Rattle.step_laws.specs.Shelf.{range, between}
use Rattle.step_laws.specs.Differences.{floats}
use Rattle.step_laws.specs.Counted.{ints, reals, one, true_lists, float_zero, pair}
use Rattle.step_laws.specs.Texts.{a}
use Rattle.calls.specs.Walk.{plan, walk, step_on, sheet_in, leaves_then}

-- a range without ends
abbrev endless : Nature
endless = range none none

abbrev text_a : Nature
text_a = text_lists ((a ∷ []) ∷ [])

-- the bits of 2.0
abbrev two_bits : ℕ
two_bits = 4611686018427387904

unfoldable pub table : List Example
table =
    -- Int Power demands a range on its right, also where a power leaves 64 bits: 9 ^ 30
    pair 8 (ints 1 (one (pos 9))) (ints 1 (one (pos 30))) (refused 15)
    ∷ pair 8 (ints 1 (between (pos 2) (pos 2))) (ints 1 (one (pos 3))) (refused 15)
    ∷ pair 8 (ints 1 true_lists) (ints 1 true_lists) (refused 15)
    ∷ pair 8 (ints 1 text_a) (ints 1 text_a) (refused 15)
    -- left categories by a range state nothing
    ∷ pair 8 (ints 1 (one (pos 9))) (ints 1 (between (pos 30) (pos 30))) (ok (ints 1 absent))
    -- no power of ranges is computed
    ∷ pair 8 (ints 1 (between (pos 2) (pos 9))) (ints 1 (between (pos 3) (pos 3))) (ok (ints 1 endless))
    ∷ pair 8 (ints 1 (between (pos 2) (pos 9))) (ints 1 (between (pos 3) (pos 300))) (ok (ints 1 endless))
    -- Float Power has no rule for any kind, 19, 20, 29 and 21 before it
    ∷ pair 8 (reals 1 (one (pos 2))) (reals 1 (one (pos 3))) (refused 22)
    ∷ pair 8 (reals 1 true_lists) (reals 1 true_lists) (refused 22)
    ∷ pair 8 (reals 1 text_a) (reals 1 text_a) (refused 22)
    ∷ pair 8 (reals 1 float_zero) (reals 1 float_zero) (refused 19)
    ∷ pair 8 (reals 1 (one (pos 2))) (reals 1 (whole_lists [])) (refused 20)
    ∷ pair 8 (reals 2 (one (pos 2))) (reals 2 (whole_lists ([] ∷ [] ∷ [] ∷ []))) (refused 29)
    ∷ pair 8 (reals 1 (one (pos 2))) (reals 1 true_lists) (refused 21)
    -- Int by Float: neither both Int nor both Float
    ∷ pair 8 (ints 1 (one (pos 2))) (reals 1 (one (pos 3))) (refused 14)
    -- Modulo and Log demand ranges too
    ∷ pair 6 (ints 1 (one (pos 7))) (ints 1 (one (pos 2))) (refused 15)
    ∷ pair 6 (reals 1 (one (pos 7))) (reals 1 (one (pos 2))) (refused 15)
    ∷ pair 6 (ints 1 (one (pos 7))) (ints 1 (one (pos 0))) (refused 15)
    ∷ pair 7 (reals 1 (one (pos 7))) (reals 1 (floats two_bits two_bits)) (refused 15)
    ∷ pair 7 (reals 1 (one (pos 7))) (reals 1 (one (pos 2))) (refused 15)
    ∷ []

-- every row of the table holds
pub retired : AllHold Holds table
unfolding table AllHold leaves computing
retired =
    (refl, (refl, (refl, (refl, (refl, (refl, (refl, (refl, (refl, (refl, (refl, (refl, (refl, (refl, (refl, (refl, (refl, (refl, (refl, (refl, tt))))))))))))))))))))

-- ---- a plan

-- Power of two leaves of categories
unfoldable pub raised : List ℕ
raised =
    3 ∷ 0 ∷ 2 ∷ 0
    ∷ 8 ∷ 0 ∷ 0 ∷ 0  -- node 2: Power
    ∷ 0 ∷ 0 ∷ 1 ∷ 0  -- node 2: left 0, right 1
    ∷ []

unfoldable pub plan_table : List Plan
plan_table =
    record { bytes = raised; handed_in = ints 1 (one (pos 9)) ∷ ints 1 (one (pos 30)) ∷ []; steps = []; code = 15; value = 2 }
    ∷ record { bytes = raised; handed_in = reals 1 (one (pos 9)) ∷ reals 1 (one (pos 30)) ∷ []; steps = []; code = 22; value = 2 }
    ∷ []

-- every row holds
pub retired_plans : AllHold HoldsPlan plan_table
unfolding plan_table raised AllHold plan walk step_on sheet_in leaves_then plan_fails step_permitted slots_of computing
retired_plans = (refl, (refl, tt))
