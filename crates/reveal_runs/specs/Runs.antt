-- 02, S-7: examples of the call that shows a node, under six theorems, from the bytes handed in to the reply and every byte of both buffers.
--     shown_runs      who sees a node: the owners in the reader's set, five owners, no owners; 30 otherwise
--     early_runs      1 before the rights; 30 before any sheet is read
--     short_work      a work buffer that lacks one byte, before the rights
--     walked_runs     only what the wanted node stands on is read and written
--     unwalked_leaf   the plan call, which refuses a plan of these for a leaf that is not walked
--     output_runs     27 of the output, last; and a sheet that fails 5, shown as it is
use Rattle.std.specs.Prelude.{◌≡◌, refl, true, List, [], ◌∷◌, ◌++◌, ℕ, ◌-◌, ◌*◌, ◌^◌, ℤ, pos, length, replicate}
use Rattle.std.proofs.Math.Option.{Option, none, some}
use Rattle.std.specs.Int.Count.{ones}
use Rattle.octets.specs.Le.{le_bytes}
use Rattle.base.specs.Form.{narrow, longest, int_type, float_type}
use Rattle.base.specs.Sheet.{Sheet}
use Rattle.base.specs.Encode.{encode, joined}
use Rattle.plan_form.specs.Form.{step_count, plan_fails, step_permitted, no_node}
use Rattle.calls.specs.Single.{outcome}
use Rattle.calls.specs.Walk.{plan, walk, step_on, sheet_in, leaves_then}
use Rattle.step_laws.specs.Computing.{computing}
use Rattle.step_laws.specs.Examples.{AllHold, sheet_with, filler, slot_with, slots_of}
use Rattle.step_laws.specs.Shelf.{between, minus}
use Rattle.step_laws.specs.Pooled.{operand}
use Rattle.step_laws.specs.Signs.{plus_zero, large, minus_large}
use Rattle.step_laws.specs.Differences.{least, difference, floats, one, minus_infinity}
use Rattle.sets.specs.Sets.{chosen}
use Rattle.standing.specs.Standing.{turns}
use Rattle.rights.specs.Rights.{owner_bytes, seen}
use Rattle.rights.specs.Reveal.{revealed, call_fails, showing, shown_of, reveal}

-- ---- the sheets: type Int, releasable, of one row and one column

-- a leaf, and what Abs and Negative make of one
abbrev pub leaf : ℤ → ℤ → Sheet
leaf a c = operand int_type (pos 1) 1 (between a c)

-- what Add makes as a node
abbrev pub sum : ℕ → ℤ → ℤ → Sheet
sum node a c = sheet_with int_type true true 0 (pos 1) 1 none (pos node) (between a c)

-- W[1,2], W[10,20] and W[2,1], which fails 5
abbrev pub first : Sheet
first = leaf (pos 1) (pos 2)

abbrev pub second : Sheet
second = leaf (pos 10) (pos 20)

abbrev pub bad : Sheet
bad = leaf (pos 2) (pos 1)

-- whose Negative leaves 64 bits, and whose square does
abbrev pub lowest : Sheet
lowest = leaf least (pos 0)

abbrev pub high : Sheet
high = leaf (pos (2 ^ 62)) (pos (2 ^ 62))

-- W[11,22], as node 2 and as node 3
abbrev pub total : ℕ → Sheet
total node = sum node (pos 11) (pos 22)

-- ---- a run

-- owner sets as bytes: digit b of a set is rink b
unfoldable pub sets_of : List ℕ → List ℕ
sets_of sets = joined (le_bytes owner_bytes) sets

-- a slot that a step has written, or has not
unfoldable pub step_slot : Option Sheet → List ℕ
step_slot none = replicate (longest narrow) filler
step_slot (some s) = slot_with (encode narrow s)

-- an output with a sheet at its start, or as it was
unfoldable pub out_with : ℕ → Option Sheet → List ℕ
out_with room none = replicate room 170
out_with room (some s) = encode narrow s ++ replicate (room - length (encode narrow s)) 170

-- what is handed in, and what is expected
pub record Run : Type 0 where
  pub plan : List ℕ
  pub owners : List ℕ
  pub reader : ℕ
  pub wanted : ℕ
  -- in their slots
  pub leaves : List Sheet
  -- how many bytes the output has
  pub room : ℕ
  pub code : ℕ
  pub value : ℕ
  -- of each step the sheet that stands in its slot afterwards, or that its slot is as it was; and so of the output
  pub steps : List (Option Sheet)
  pub shown : Option Sheet

abbrev pub before : Run → List ℕ
before e = slots_of e.leaves ++ replicate (step_count e.plan * longest narrow) filler

abbrev pub after : Run → List ℕ
after e = slots_of e.leaves ++ joined step_slot e.steps

-- the call leaves just that
abbrev pub Holds : Run → Type 0
Holds e =
    reveal narrow e.plan e.owners e.reader e.wanted (before e) (out_with e.room none)
    ≡ revealed e.code e.value (after e) (out_with e.room e.shown)

-- every definition that a run computes with, opened by one name
unfoldable pub running : Unit {0}
unfolding AllHold sets_of step_slot out_with slots_of reveal call_fails seen ones shown_of showing chosen turns walk step_on sheet_in leaves_then plan_fails step_permitted computing
running = tt

-- into an output of 120 bytes: a sheet of 98 at its start, or no byte
abbrev pub shows : List ℕ → List Sheet → List ℕ → ℕ → ℕ → List (Option Sheet) → Sheet → Run
shows p leaves sets reader wanted steps s = record {
  plan = p;
  owners = sets_of sets;
  reader = reader;
  wanted = wanted;
  leaves = leaves;
  room = 120;
  code = 0;
  value = 98;
  steps = steps;
  shown = some s;
}

abbrev pub says : ℕ → ℕ → List ℕ → List Sheet → List ℕ → ℕ → ℕ → List (Option Sheet) → Run
says code value p leaves owners reader wanted steps = record {
  plan = p;
  owners = owners;
  reader = reader;
  wanted = wanted;
  leaves = leaves;
  room = 120;
  code = code;
  value = value;
  steps = steps;
  shown = none;
}

-- ---- two leaves and their sum

unfoldable pub adding : List ℕ
adding =
    3 ∷ 0 ∷ 2 ∷ 0
    ∷ 2 ∷ 0 ∷ 0 ∷ 0  -- node 2: Add
    ∷ 0 ∷ 0 ∷ 1 ∷ 0  -- node 2: left 0, right 1
    ∷ []

abbrev pub two : List Sheet
two = first ∷ second ∷ []

-- the sum's slot, written and not
abbrev pub summed : List (Option Sheet)
summed = some (total 2) ∷ []

abbrev pub unsummed : List (Option Sheet)
unsummed = none ∷ []

-- shown, and not seen
abbrev pub sees_sum : List ℕ → ℕ → Run
sees_sum sets reader = shows adding two sets reader 2 summed (total 2)

abbrev pub sees_no_sum : List ℕ → ℕ → Run
sees_no_sum sets reader = says 30 2 adding two (sets_of sets) reader 2 unsummed

-- a leaf that no step reads, of rink 63
unfoldable pub single : List ℕ
single = 1 ∷ 0 ∷ 1 ∷ 0 ∷ []

abbrev pub last_rink : ℕ
last_rink = 2 ^ 63

unfoldable pub rights : List Run
rights =
    -- "the owners all lie in the reader's set": one of two does
    sees_no_sum (0b1 ∷ 0b10 ∷ []) 0b1
    ∷ sees_sum (0b1 ∷ 0b10 ∷ []) 0b11
    -- others may be in it
    ∷ sees_sum (0b1 ∷ 0b10 ∷ []) 0b1011
    -- a leaf's owners are its set, and no slot is written
    ∷ shows adding two (0b1 ∷ 0b10 ∷ []) 0b1 0 unsummed first
    ∷ says 30 1 adding two (sets_of (0b1 ∷ 0b10 ∷ [])) 0b1 1 unsummed
    -- "or if the owners number five or more": seven in two sets that are four in their union, and five
    ∷ sees_no_sum (0b111 ∷ 0b1111 ∷ []) 0
    ∷ sees_sum (0b111 ∷ 0b11100 ∷ []) 0
    -- as one set, beside none
    ∷ sees_no_sum (0 ∷ 0b1111 ∷ []) 0b10111
    ∷ sees_sum (0 ∷ 0b11111 ∷ []) 0
    -- no owners: shown to everybody, whoever owns the other leaf
    ∷ sees_sum (0 ∷ 0 ∷ []) 0
    ∷ shows adding two (0b1 ∷ 0 ∷ []) 0 1 unsummed second
    -- the last rink (of a reader without it: `last_rink_lem`, proofs/LastRink)
    ∷ shows single (first ∷ []) (last_rink ∷ []) last_rink 0 [] first
    ∷ []

-- every row of the table holds
pub shown_runs : AllHold Holds rights
unfolding rights adding single running
shown_runs = (refl, (refl, (refl, (refl, (refl, (refl, (refl, (refl, (refl, (refl, (refl, (refl, tt))))))))))))

-- ---- before any sheet is read

-- the first leaf fails 5
abbrev pub bad_first : List Sheet
bad_first = bad ∷ second ∷ []

-- of owners that are not the reader's
abbrev pub refused_call : List ℕ → ℕ → Run
refused_call owners wanted = says 1 no_node adding bad_first owners 0 wanted unsummed

unfoldable pub early : List Run
early =
    -- "other than K owner sets, is code 1": 15 bytes, 24 and none
    refused_call (replicate 15 255) 2
    ∷ refused_call (replicate 24 255) 2
    ∷ refused_call [] 2
    -- "A node not in the plan": the first of these, and one of 32 bits
    ∷ refused_call (replicate 16 255) 3
    ∷ refused_call (replicate 16 255) 70000
    -- a malformed plan: one byte more
    ∷ says 1 no_node (adding ++ (0 ∷ [])) bad_first (replicate 16 255) 0 2 unsummed
    -- "30 .. before any sheet is read": the owners in the reader's set, the leaf says 5
    ∷ says 30 2 adding bad_first (sets_of (0b100 ∷ 0b100 ∷ [])) 0 2 unsummed
    ∷ says 5 0 adding bad_first (sets_of (0b100 ∷ 0b100 ∷ [])) 0b100 2 unsummed
    ∷ []

pub early_runs : AllHold Holds early
unfolding early adding running
early_runs = (refl, (refl, (refl, (refl, (refl, (refl, (refl, (refl, tt))))))))

-- "27's work buffer test" is that of all slots, also for a leaf, and comes before 30
unfoldable pub lacking_byte : List ℕ
lacking_byte = slots_of two ++ replicate (longest narrow - 1) filler

-- the call with it and with owners that are not the reader's
abbrev pub LacksByte : ℕ → ℕ → Type 0
LacksByte wanted code =
    reveal narrow adding (sets_of (0b1 ∷ 0b1 ∷ [])) 0 wanted lacking_byte (out_with 120 none) ≡ revealed code no_node lacking_byte (out_with 120 none)

-- 1 comes before it
pub short_work : LacksByte 0 27 × LacksByte 2 27 × LacksByte 3 1
unfolding lacking_byte adding running
short_work = (refl, refl, refl)

-- ---- only what the wanted node stands on

-- a leaf that no step reads
unfoldable pub leaf_aside : List ℕ
leaf_aside =
    4 ∷ 0 ∷ 3 ∷ 0
    ∷ 2 ∷ 0 ∷ 0 ∷ 0  -- node 3: Add
    ∷ 0 ∷ 0 ∷ 1 ∷ 0  -- node 3: left 0, right 1
    ∷ []

abbrev pub bad_aside : List Sheet
bad_aside = first ∷ second ∷ bad ∷ []

-- a step that no other reads
unfoldable pub step_aside : List ℕ
step_aside =
    4 ∷ 0 ∷ 2 ∷ 0
    ∷ 4 ∷ 0 ∷ 0 ∷ 0  -- node 2: Multiply
    ∷ 1 ∷ 0 ∷ 0 ∷ 0  -- node 3: Abs
    ∷ 0 ∷ 0 ∷ 0 ∷ 0  -- node 2: left 0, right 0
    ∷ 1 ∷ 0 ∷ 1 ∷ 0  -- node 3: left 1
    ∷ []

-- a leaf of the last step alone
unfoldable pub late_leaf : List ℕ
late_leaf =
    6 ∷ 0 ∷ 3 ∷ 0
    ∷ 9 ∷ 0 ∷ 0 ∷ 0  -- node 3: Negative
    ∷ 2 ∷ 0 ∷ 0 ∷ 0  -- node 4: Add
    ∷ 2 ∷ 0 ∷ 0 ∷ 0  -- node 5: Add
    ∷ 0 ∷ 0 ∷ 0 ∷ 0  -- node 3: left 0
    ∷ 3 ∷ 0 ∷ 2 ∷ 0  -- node 4: left 3, right 2
    ∷ 4 ∷ 0 ∷ 1 ∷ 0  -- node 5: left 4, right 1
    ∷ []

abbrev pub bad_between : List Sheet
bad_between = lowest ∷ bad ∷ first ∷ []

-- two steps below a third, the later of which is refused
unfoldable pub second_refused : List ℕ
second_refused =
    5 ∷ 0 ∷ 2 ∷ 0
    ∷ 9 ∷ 0 ∷ 0 ∷ 0  -- node 2: Negative
    ∷ 9 ∷ 0 ∷ 0 ∷ 0  -- node 3: Negative
    ∷ 2 ∷ 0 ∷ 0 ∷ 0  -- node 4: Add
    ∷ 1 ∷ 0 ∷ 1 ∷ 0  -- node 2: left 1
    ∷ 0 ∷ 0 ∷ 0 ∷ 0  -- node 3: left 0
    ∷ 2 ∷ 0 ∷ 3 ∷ 0  -- node 4: left 2, right 3
    ∷ []

unfoldable pub walked : List Run
walked =
    -- a leaf that is not walked may fail 5; the plan's node numbers stay
    shows leaf_aside bad_aside (0 ∷ 0 ∷ 0 ∷ []) 0 3 (some (total 3) ∷ []) (total 3)
    -- and may have owners
    ∷ shows leaf_aside bad_aside (0 ∷ 0 ∷ 0b1 ∷ []) 0 3 (some (total 3) ∷ []) (total 3)
    -- a step that is not walked leaves its slot as it was; walked, it is refused
    ∷ shows step_aside (high ∷ second ∷ []) (0 ∷ 0 ∷ []) 0 3 (none ∷ some second ∷ []) second
    ∷ says 24 2 step_aside (high ∷ second ∷ []) (sets_of (0 ∷ 0 ∷ [])) 0 2 (none ∷ none ∷ [])
    -- all walked leaves pass 3 to 5 before any step, and only these
    ∷ says 5 1 late_leaf bad_between (sets_of (0 ∷ 0 ∷ 0 ∷ [])) 0 5 (none ∷ none ∷ none ∷ [])
    ∷ says 24 3 late_leaf bad_between (sets_of (0 ∷ 0 ∷ 0 ∷ [])) 0 3 (none ∷ none ∷ none ∷ [])
    -- after a step's refusal the sheets of the walked steps before it stand
    ∷ says 24 3 second_refused (lowest ∷ first ∷ []) (sets_of (0 ∷ 0 ∷ [])) 0 4 (some (leaf (minus 2) (minus 1)) ∷ none ∷ none ∷ [])
    ∷ []

pub walked_runs : AllHold Holds walked
unfolding walked leaf_aside step_aside late_leaf second_refused running
walked_runs = (refl, (refl, (refl, (refl, (refl, (refl, (refl, tt)))))))

abbrev pub aside_work : List ℕ
aside_work = slots_of bad_aside ++ replicate (longest narrow) filler

-- 01: "All leaves pass 3 to 5 before any step" is the plan call's
pub unwalked_leaf : plan narrow leaf_aside aside_work ≡ outcome 5 2 aside_work
unfolding leaf_aside plan running
unwalked_leaf = refl

-- ---- the output

-- of so many bytes, for the sum or another node
abbrev pub into_of : ℕ → List (Option Sheet) → ℕ → ℕ → ℕ → Option Sheet → Run
into_of wanted steps room code value s = record {
  plan = adding;
  owners = sets_of (0 ∷ 0 ∷ []);
  reader = 0;
  wanted = wanted;
  leaves = two;
  room = room;
  code = code;
  value = value;
  steps = steps;
  shown = s;
}

abbrev pub into : ℕ → ℕ → ℕ → Option Sheet → Run
into = into_of 2 summed

-- Subtract of floats whose lower end is infinite
unfoldable pub subtracting : List ℕ
subtracting =
    3 ∷ 0 ∷ 2 ∷ 0
    ∷ 3 ∷ 0 ∷ 0 ∷ 0  -- node 2: Subtract
    ∷ 0 ∷ 0 ∷ 1 ∷ 0  -- node 2: left 0, right 1
    ∷ []

abbrev pub fraction : ℕ → ℕ → Sheet
fraction a c = operand float_type (pos 1) 1 (floats a c)

abbrev pub infinite : Sheet
infinite = difference 2 float_type 1 (floats minus_infinity one)

unfoldable pub outputs : List Run
outputs =
    -- "a short output is 27, last, and stays unwritten"; the step's sheet stands
    into 97 27 no_node none
    ∷ into 0 27 no_node none
    ∷ into 98 0 98 (some (total 2))
    -- "later bytes untouched"
    ∷ into 99 0 98 (some (total 2))
    -- of a wanted leaf too
    ∷ into_of 0 unsummed 97 27 no_node none
    -- a step's sheet that fails 5, by an infinite end
    ∷ shows subtracting (fraction minus_large one ∷ fraction plus_zero large ∷ []) (0 ∷ 0 ∷ []) 0 2 (some infinite ∷ []) infinite
    ∷ []

pub output_runs : AllHold Holds outputs
unfolding outputs adding subtracting running
output_runs = (refl, (refl, (refl, (refl, (refl, (refl, tt))))))
