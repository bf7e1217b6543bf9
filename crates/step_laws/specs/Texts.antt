-- 02, S-2: examples of text as one table under one theorem, from the operands' bytes to the reply and the bytes written.
use Rattle.std.specs.Prelude.{◌≡◌, refl, true, false, List, [], ◌∷◌, ◌++◌, ℕ, ◌-◌, ◌^◌, pos, take, set, replicate}
use Rattle.octets.specs.Le.{le_bytes}
use Rattle.numbers.specs.Result.{ok, refused}
use Rattle.utilities.specs.Lists.{list_from}
use Rattle.base.specs.Form.{narrow, int_type}
use Rattle.base.specs.Sheet.{Nature, absent, whole_lists, text_lists}
use Rattle.base.specs.Encode.{spot, encode}
use Rattle.step_laws.specs.Computing.{computing}
use Rattle.step_laws.specs.Examples.{AllHold, Example, example, leaves, Holds}
use Rattle.step_laws.specs.Shelf.{sheet_of, between, bytes_of}
use Rattle.step_laws.specs.Pooled.{operand, pooled, most}

-- ---- the texts

-- one list of texts
abbrev pub text : List (List ℕ) → Nature
text l = text_lists (l ∷ [])

abbrev pub empty : List ℕ
empty = []

-- a text of one letter
abbrev pub a : List ℕ
a = 97 ∷ []

abbrev pub b : List ℕ
b = 98 ∷ []

abbrev pub c : List ℕ
c = 99 ∷ []

abbrev pub x : List ℕ
x = 120 ∷ []

abbrev pub n : List ℕ
n = 78 ∷ []

abbrev pub s : List ℕ
s = 83 ∷ []

abbrev pub one : List ℕ
one = 49 ∷ []

abbrev pub two : List ℕ
two = 50 ∷ []

-- a text of that many letters
abbrev pub long : ℕ → List ℕ
long k = replicate k 97

-- ---- the calls

-- Add of one list and one list, in just so many bytes
abbrev pub join : ℕ → List (List ℕ) → List (List ℕ) → List (List ℕ) → Example
join room l r g = example 2 (bytes_of (text l)) (bytes_of (text r)) room (ok (sheet_of (pos 9) true (text g)))

-- one row, and so many columns
abbrev pub spread : ℕ → Nature → List ℕ
spread columns k = encode narrow (operand int_type (pos 1) columns k)

-- Pool of one list and one list over these columns
abbrev pub pool : ℕ → ℕ → List (List ℕ) → List (List ℕ) → List (List (List ℕ)) → Example
pool room columns l r g = example 10 (spread columns (text l)) (spread columns (text r)) room (ok (pooled int_type columns (text_lists g)))

-- a component that refuses two natures
abbrev pub says : ℕ → ℕ → Nature → Nature → Example
says number k l r = example k (bytes_of l) (bytes_of r) 130 (refused number)

-- bytes that no component takes
abbrev pub bad : ℕ → List ℕ → Example
bad number l = example 2 l (bytes_of (text (a ∷ []))) 130 (refused number)

-- a sheet of two values over the area `ab`
abbrev pub over : ℕ → ℕ → List ℕ
over v w = take 82 (bytes_of (text (a ∷ b ∷ []))) ++ le_bytes 8 v ++ le_bytes 8 w ++ a ++ b

-- a range, with this in byte 26 and in byte 27
abbrev pub sized : ℕ → ℕ → List ℕ
sized low high = set (set (bytes_of (between (pos 1) (pos 2))) 26 low) 27 high

-- so many texts of 50 letters, different from the first letter on
abbrev pub many : ℕ → List (List ℕ)
many k = list_from k 0 (λ i. i ∷ long 49)

-- ---- the table

-- what a component makes of texts
unfoldable pub rules : List Example
rules =
    -- left outer, right inner; equal bytes are a repeat, wherever the seam is
    join 124 (n ∷ s ∷ []) (one ∷ two ∷ []) ((n ++ one) ∷ (n ++ two) ∷ (s ++ one) ∷ (s ++ two) ∷ [])
    ∷ join 116 (a ∷ (a ++ b) ∷ []) ((b ++ c) ∷ c ∷ []) ((a ++ b ++ c) ∷ (a ++ c) ∷ (a ++ b ++ b ++ c) ∷ [])
    ∷ join 110 (empty ∷ x ∷ []) (empty ∷ x ∷ []) (empty ∷ x ∷ (x ++ x) ∷ [])
    -- bytes and no characters
    ∷ join 92 ((226 ∷ 130 ∷ []) ∷ []) ((172 ∷ []) ∷ []) ((226 ∷ 130 ∷ 172 ∷ []) ∷ [])
    -- Pool unites
    ∷ pool 111 1 (a ∷ b ∷ a ∷ []) (b ∷ (a ++ b) ∷ []) ((a ∷ b ∷ (a ++ b) ∷ []) ∷ [])
    -- the area belongs to the nature
    ∷ example 6 (bytes_of (text ((a ++ b ++ c) ∷ []))) (bytes_of (between (pos 3) (pos 8))) 80 (ok (sheet_of (pos 7) false absent))
    -- no other component has a rule; another kind comes before that, and a bound that is read first of all
    ∷ says 22 1 (text (a ∷ [])) absent
    ∷ says 22 3 (text (a ∷ [])) (text (a ∷ []))
    ∷ says 21 2 (text (a ∷ [])) (whole_lists ((pos 1 ∷ []) ∷ []))
    ∷ says 15 6 (text (a ∷ [])) (text (a ∷ []))
    ∷ says 15 8 (text (a ∷ [])) (text (a ∷ []))
    ∷ []

-- the area of an operand
unfoldable pub areas : List Example
areas =
    -- end to end, in value order, from 0 to the area's end
    example 2 (over (spot 0 2) (spot 2 0)) (bytes_of (text (x ∷ []))) 102 (ok (sheet_of (pos 9) true (text ((a ++ b ++ x) ∷ x ∷ []))))
    ∷ bad 4 (over (spot 1 1) (spot 0 1))
    ∷ bad 4 (over (spot 0 2) (spot 0 2))
    ∷ bad 4 (over (spot 0 1) (spot 1 0))
    ∷ bad 4 (over (spot 0 1) (spot 1 2))
    ∷ bad 4 (over (spot 0 (2 ^ 32 - 1)) (spot (2 ^ 32 - 1) 3))
    -- its size counts under a range too
    ∷ bad 3 (sized 1 0)
    ∷ bad 4 (sized 1 0 ++ (0 ∷ []))
    ∷ bad 3 (sized 1 4 ++ replicate 1025 0)
    ∷ []

-- 1,024 bytes of text and no more
unfoldable pub limits : List Example
limits =
    join 1113 (long 600 ∷ []) (long 424 ∷ []) (long 1024 ∷ [])
    ∷ says 28 2 (text (long 600 ∷ [])) (text (long 425 ∷ []))
    -- each list that is written counts
    ∷ pool 1140 4 (long 256 ∷ []) (long 256 ∷ []) (replicate 4 (long 256 ∷ []))
    ∷ example 2 (spread 4 (text (long 257 ∷ []))) (spread 4 (text (empty ∷ []))) 130 (refused 28)
    -- 26 comes before 28, and the rows of Pool before both
    ∷ says 28 2 (text (many 11)) (text (many 11))
    ∷ says 26 2 (text (many 12)) (text (many 11))
    ∷ says 28 10 (text (long 1000 ∷ [])) (text (replicate 25 98 ∷ []))
    ∷ example 10 (encode narrow (operand int_type most 1 (text (long 1000 ∷ [])))) (bytes_of (text (replicate 25 98 ∷ []))) 130 (refused 24)
    ∷ []

abbrev pub table : List Example
table = rules ++ areas ++ limits

-- ---- what each row says

-- every row of the table holds
pub texts : AllHold Holds table
unfolding rules areas limits AllHold leaves bytes_of computing
texts =
    (refl, (refl, (refl, (refl, (refl, (refl, (refl, (refl, (refl, (refl, (refl, (refl, (refl, (refl, (refl, (refl, (refl, (refl, (refl, (refl, (refl, (refl, (refl, (refl, (refl, (refl, (refl, (refl, tt))))))))))))))))))))))))))))

-- ---- the bytes of a sheet with text

-- T{pump,fan}: two texts in one list, the area's size 7 in byte 26, the list numbers from 80 on, where each text begins and its length from 82 on, the area
-- from 98 on
pub pump_fan :
    encode narrow (sheet_of (pos 7) false (text ((112 ∷ 117 ∷ 109 ∷ 112 ∷ []) ∷ (102 ∷ 97 ∷ 110 ∷ []) ∷ [])))
    ≡ (0 ∷ 0 ∷ 1 ∷ 0 ∷ 2 ∷ 0 ∷ 6 ∷ 4 ∷ 0 ∷ 1 ∷ 0 ∷ 0 ∷ [])
    ++ replicate 8 0
    ++ (1 ∷ 1 ∷ 0 ∷ 0 ∷ 0 ∷ 0 ∷ 7 ∷ 0 ∷ 0 ∷ 0 ∷ 0 ∷ 0 ∷ [])
    ++ (1 ∷ replicate 7 0)
    ++ (1 ∷ replicate 7 0)
    ++ replicate 24 0
    ++ (7 ∷ replicate 7 0)
    ++ (0 ∷ 0 ∷ [])
    ++ (0 ∷ 0 ∷ 0 ∷ 0 ∷ 4 ∷ 0 ∷ 0 ∷ 0 ∷ [])
    ++ (4 ∷ 0 ∷ 0 ∷ 0 ∷ 3 ∷ 0 ∷ 0 ∷ 0 ∷ [])
    ++ (112 ∷ 117 ∷ 109 ∷ 112 ∷ 102 ∷ 97 ∷ 110 ∷ [])
unfolding computing
pump_fan = refl
