-- Texts by the values that stand for them: a value is where its text starts in the area, and how long that text is.
--     start_of, length_of, same_spot    a value as its two halves
--     spots-..        the values of texts: how many they are, and that 64 bits hold them; `list_spots_length` of one list
--     texts_back      the texts of the values, where the area stands
-- Assumes nothing.
use mathlib.Core.Path.{◌≡◌, refl, ap, ap₂, ◌∙◌}
use mathlib.Core.List.{List, [], ◌∷◌, map}
use Prim.Native.Nat.{ℕ, suc, ◌+◌, ◌^◌, ◌<◌}
use native.Mathlib.Nat.{zero-add, mod-eq_of_lt, mod-add-div, div-eq_of_lt, add-mul-mod_self_left, add-mul-div_left}
use native.Mathlib.Omega.{arith}
use lib.ListN.{length, length-append}
use Rattle.base.specs.Form.{Form, group_count, category_count, area_at}
use Rattle.base.specs.Decode.{start_in, length_in, text_in}
use Rattle.base.specs.Encode.{joined, total, text_of, area_of, spot, spots_of, spots_from}
use Rattle.round_trip.specs.WellFormed.{Each, Bits}
use Rattle.round_trip.proofs.Standing.{Standing, standing_left, standing_right, part_back}

-- ---- values

pub start_of : (at n : ℕ) → at < 2 ^ 32 → start_in (spot at n) ≡ at
start_of at n h = add-mul-mod_self_left at (2 ^ 32) n ∙ mod-eq_of_lt h

pub length_of : (at n : ℕ) → at < 2 ^ 32 → length_in (spot at n) ≡ n
length_of at n h = add-mul-div_left at n (omega arith) ∙ ap (λ (k : ℕ). k + n) (div-eq_of_lt h) ∙ zero-add n

pub same_spot : (v : ℕ) → spot (start_in v) (length_in v) ≡ v
same_spot v = mod-add-div v (2 ^ 32)

pub spots_length : (at : ℕ) (ls : List (List (List ℕ))) → length (spots_from at ls) ≡ length ls
unfolding spots_from
spots_length at [] = refl
spots_length at (l ∷ ls) = ap suc (spots_length (at + length (text_of l)) ls)

pub list_spots_length : (at : ℕ) (l : List (List ℕ)) → length (spots_of at l) ≡ length l
unfolding spots_of
list_spots_length at [] = refl
list_spots_length at (x ∷ l) = ap suc (list_spots_length (at + length x) l)

pub spots_total : (at : ℕ) (ls : List (List (List ℕ))) → total (spots_from at ls) ≡ total ls
unfolding spots_from total
spots_total at [] = refl
spots_total at (l ∷ ls) = ap₂ ◌+◌ (list_spots_length at l) (spots_total (at + length (text_of l)) ls)

-- the area of texts of which the first starts at `at` ends below 2 ^ 32
list_spots_fit : (at : ℕ) (l : List (List ℕ)) → at + length (text_of l) < 2 ^ 32 → Each Bits (spots_of at l)
unfolding spots_of text_of joined
list_spots_fit at [] h = tt
list_spots_fit at (x ∷ l) h =
    let ends = length-append x (text_of l) in
    (omega arith, list_spots_fit (at + length x) l (omega arith))

pub spots_fit : (at : ℕ) (ls : List (List (List ℕ))) → at + length (area_of ls) < 2 ^ 32 → Each (Each Bits) (spots_from at ls)
unfolding spots_from area_of joined
spots_fit at [] h = tt
spots_fit at (l ∷ ls) h =
    let ends = length-append (text_of l) (area_of ls) in
    (list_spots_fit at l (omega arith), spots_fit (at + length (text_of l)) ls (omega arith))

-- ---- texts

module _ (F : Form) (s : List ℕ) where
  abbrev area : ℕ
  area = area_at F (group_count F s) (category_count F s)

  text_back : (at : ℕ) (x : List ℕ) → at < 2 ^ 32 → Standing s (area + at) x → text_in F s (spot at (length x)) ≡ x
  unfolding text_in
  text_back at x h p = rw (start_of at (length x) h, length_of at (length x) h) (part_back p)

  list_texts_back : (at : ℕ) (l : List (List ℕ)) → at + length (text_of l) < 2 ^ 32 → Standing s (area + at) (text_of l) → map (text_in F s) (spots_of at l) ≡ l
  unfolding spots_of text_of joined
  list_texts_back at [] h p = refl
  list_texts_back at (x ∷ l) h p =
      let ends = length-append x (text_of l) in
      ap₂ ◌∷◌ (text_back at x (omega arith) (standing_left x (text_of l) p))
      (list_texts_back (at + length x) l (omega arith) (standing_right x (text_of l) p (omega arith)))

  pub texts_back : (at : ℕ) (ls : List (List (List ℕ))) → at + length (area_of ls) < 2 ^ 32 → Standing s (area + at) (area_of ls) → map (map (text_in F s)) (spots_from at ls) ≡ ls
  unfolding spots_from area_of joined
  texts_back at [] h p = refl
  texts_back at (l ∷ ls) h p =
      let ends = length-append (text_of l) (area_of ls) in
      ap₂ ◌∷◌ (list_texts_back at l (omega arith) (standing_left (text_of l) (area_of ls) p))
      (texts_back (at + length (text_of l)) ls (omega arith) (standing_right (text_of l) (area_of ls) p (omega arith)))
