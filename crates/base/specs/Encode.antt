-- The bytes of a sheet.
use Rattle.std.specs.Prelude.{Bool, true, false, List, [], ◌∷◌, ◌++◌, ℕ, ◌+◌, ◌-◌, ◌*◌, ◌^◌, ℤ, length, replicate, Float}
use Rattle.std.proofs.Math.Option.{Option, none, some}
use Rattle.std.specs.Float.{binary64}
use Rattle.std.specs.Float.Ieee.{to_bits}
use Rattle.std.specs.Int.{w64}
use Rattle.std.proofs.Common.{of_z}
use Rattle.octets.specs.Le.{le_bytes}
use Rattle.numbers.specs.Kind.{Span}
use Rattle.base.specs.Form.{Form, place, later_count, fields_end, absent_nature, whole_range_nature, float_range_nature, whole_lists_nature, bool_lists_nature, float_lists_nature, text_lists_nature}
use Rattle.base.specs.Sheet.{Group, Nature, absent, whole_range, float_range, whole_lists, bool_lists, float_lists, text_lists, Fields, Sheet}
use Rattle.base.specs.Decode.{as_bits}

-- the 64 bits of a signed number, and of a float
abbrev pub whole_bits : ℤ → ℕ
whole_bits z = of_z w64 z

abbrev pub float_bits : Float → ℕ
float_bits x = to_bits binary64 x

-- 01: "marks and bytes 8 to 11 are 0 or 1"
abbrev pub flag : Bool → ℕ
flag true = 1
flag false = 0

abbrev pub mark : {X : Type 0} → Option X → ℕ
mark none = 0
mark (some x) = 1

-- 01: "An absent value is all zero bits"
abbrev pub bits_of : {X : Type 0} → (X → ℕ) → Option X → ℕ
bits_of bits none = 0
bits_of bits (some x) = bits x

-- one after the other
unfoldable pub joined : {X : Type 0} → (X → List ℕ) → List X → List ℕ
joined bytes [] = []
joined bytes (x ∷ xs) = bytes x ++ joined bytes xs

-- 01: "each a mark and 64 bits"
unfoldable pub end_bytes : {X : Type 0} → (X → ℕ) → Option X → List ℕ
end_bytes bits e = mark e ∷ le_bytes 8 (bits_of bits e)

-- how many values the lists hold, counted as they are written
unfoldable pub total {ℓ} : {X : Type ℓ} → List (List X) → ℕ
total [] = 0
total (l ∷ ls) = length l + total ls

abbrev pub nature_number : Nature → ℕ
nature_number absent = absent_nature
nature_number (whole_range rs) = whole_range_nature
nature_number (float_range rs) = float_range_nature
nature_number (whole_lists ls) = whole_lists_nature
nature_number (bool_lists ls) = bool_lists_nature
nature_number (float_lists ls) = float_lists_nature
nature_number (text_lists ls) = text_lists_nature

-- the list count n
abbrev pub entry_count : Nature → ℕ
entry_count absent = 0
entry_count (whole_range rs) = length rs
entry_count (float_range rs) = length rs
entry_count (whole_lists ls) = length ls
entry_count (bool_lists ls) = length ls
entry_count (float_lists ls) = length ls
entry_count (text_lists ls) = length ls

-- the category count t; "t is 0 for ranges; absent nature has n = t = 0"
abbrev pub value_count : Nature → ℕ
value_count absent = 0
value_count (whole_range rs) = 0
value_count (float_range rs) = 0
value_count (whole_lists ls) = total ls
value_count (bool_lists ls) = total ls
value_count (float_lists ls) = total ls
value_count (text_lists ls) = total ls

-- 02, S-2: "Texts lie end to end in value order": those of a list, and of all lists
unfoldable pub text_of : List (List ℕ) → List ℕ
text_of l = joined (λ x. x) l

unfoldable pub area_of : List (List (List ℕ)) → List ℕ
area_of ls = joined text_of ls

-- .. "from 0": the value of a text is where it starts, and its length
abbrev pub spot : ℕ → ℕ → ℕ
spot start length = start + 2 ^ 32 * length

-- the values of a list whose first text starts at `at`, and with those of the lists behind it
unfoldable pub spots_of : ℕ → List (List ℕ) → List ℕ
spots_of at [] = []
spots_of at (x ∷ xs) = spot at (length x) ∷ spots_of (at + length x) xs

unfoldable pub spots_from : ℕ → List (List (List ℕ)) → List (List ℕ)
spots_from at [] = []
spots_from at (l ∷ ls) = spots_of at l ∷ spots_from (at + length (text_of l)) ls

-- the area's size; 02, S-2: "nonzero for another nature is code 4"
abbrev pub text_size : Nature → ℕ
text_size absent = 0
text_size (whole_range rs) = 0
text_size (float_range rs) = 0
text_size (whole_lists ls) = 0
text_size (bool_lists ls) = 0
text_size (float_lists ls) = 0
text_size (text_lists ls) = length (area_of ls)

-- 01: "n lowers and n uppers"
module _ {X : Type 0} (bits : X → ℕ) where
  abbrev pub lowers_of : List (Span X) → List ℕ
  lowers_of rs = joined (λ r. end_bytes bits r.lower) rs

  abbrev pub uppers_of : List (Span X) → List ℕ
  uppers_of rs = joined (λ r. end_bytes bits r.upper) rs

  unfoldable pub range_bytes : List (Span X) → List ℕ
  range_bytes rs = lowers_of rs ++ uppers_of rs

  -- 01: "t values (64 bits ..)", those of a list, and of all lists
  abbrev pub list_bytes : List X → List ℕ
  list_bytes l = joined (λ v. le_bytes 8 (bits v)) l

  abbrev pub values_of : List (List X) → List ℕ
  values_of ls = joined list_bytes ls

module _ (F : Form) where
  -- 01: "t list numbers", those of list j, and with those of the lists behind it
  abbrev pub number_bytes : {X : Type 0} → ℕ → List X → List ℕ
  number_bytes j l = joined (λ v. le_bytes F.number_width j) l

  unfoldable pub numbers_from : {X : Type 0} → ℕ → List (List X) → List ℕ
  numbers_from j [] = []
  numbers_from j (l ∷ ls) = number_bytes j l ++ numbers_from (j + 1) ls

  -- 01: "t list numbers .. and t values"
  unfoldable pub lists_bytes : {X : Type 0} → (X → ℕ) → List (List X) → List ℕ
  lists_bytes bits ls = numbers_from 0 ls ++ values_of bits ls

  unfoldable pub nature_bytes : Nature → List ℕ
  nature_bytes absent = []
  nature_bytes (whole_range rs) = range_bytes whole_bits rs
  nature_bytes (float_range rs) = range_bytes float_bits rs
  nature_bytes (whole_lists ls) = lists_bytes whole_bits ls
  nature_bytes (bool_lists ls) = lists_bytes as_bits ls
  nature_bytes (float_lists ls) = lists_bytes as_bits ls
  nature_bytes (text_lists ls) = lists_bytes as_bits (spots_from 0 ls) ++ area_of ls

  -- 01: "Sizes first": groups g, list count n, category count t
  abbrev pub size_bytes : ℕ → ℕ → ℕ → List ℕ
  size_bytes g n t = le_bytes F.size_width g ++ le_bytes F.size_width n ++ le_bytes F.size_width t

  -- the zero bytes between the last field and the arrays
  abbrev pub gap_bytes : List ℕ
  gap_bytes = replicate (F.arrays_at - place F fields_end) 0

-- 01: bytes 6 to 11, and 20 to 24
abbrev pub flag_bytes : ℕ → Fields → List ℕ
flag_bytes nature s = nature ∷ s.data_type ∷ flag s.nullity ∷ flag s.releasable ∷ flag s.not_empty ∷ flag s.ordered ∷ []

abbrev pub presence_bytes : Fields → List ℕ
presence_bytes s = mark s.rows ∷ mark s.columns ∷ mark s.dataset ∷ mark s.dimensionality ∷ mark s.sample ∷ []

-- 01: bytes 6 to 31; 02, S-2: the area's size in 26 and 27
unfoldable pub mark_bytes : ℕ → ℕ → Fields → List ℕ
mark_bytes nature area s =
    flag_bytes nature s
    ++ le_bytes 4 s.c_stability
    ++ le_bytes 4 s.aggregator
    ++ presence_bytes s
    ++ (0 ∷ le_bytes 2 area)
    ++ replicate later_count 0

-- 01: "Then 64 bits each: those five from 32, node at 72"
unfoldable pub value_bytes : Fields → List ℕ
value_bytes s =
    le_bytes 8 (bits_of whole_bits s.rows)
    ++ le_bytes 8 (bits_of as_bits s.columns)
    ++ le_bytes 8 (bits_of whole_bits s.dataset)
    ++ le_bytes 8 (bits_of whole_bits s.dimensionality)
    ++ le_bytes 8 (bits_of as_bits s.sample)

-- 01: "parallel arrays: g partition ids (32 bits) and g indexes"
unfoldable pub group_bytes : List Group → List ℕ
group_bytes gs = joined (λ g. le_bytes 4 g.partition) gs ++ joined (λ g. g.kind ∷ le_bytes 8 (whole_bits g.index)) gs

module _ (F : Form) where
  -- all that stands before the arrays: of g groups, and of a nature by its number, its sizes n and t and its area's size
  abbrev pub front_bytes : ℕ → ℕ → ℕ → ℕ → ℕ → Fields → ℤ → List ℕ
  front_bytes g nature n t area fields node =
      size_bytes F g n t ++ mark_bytes nature area fields ++ value_bytes fields ++ le_bytes 8 (whole_bits node) ++ gap_bytes F

  unfoldable pub encode : Sheet → List ℕ
  encode s =
      let k = s.nature in
      front_bytes (length s.groups) (nature_number k) (entry_count k) (value_count k) (text_size k) s.fields s.node
      ++ group_bytes s.groups
      ++ nature_bytes F k
