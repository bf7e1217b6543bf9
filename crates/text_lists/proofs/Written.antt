-- Texts as they are written.
--     columns_codes    the lists that were gathered are those of all columns
--     texts_over, texts_laid, laid_within    26, then 28, and the nature in writing, where the texts were laid one after the other
-- Assumes nothing.
use mathlib.Core.Path.{◌≡◌, refl, sym, ap, ap₂, subst, ◌∙◌}
use mathlib.Core.Bool.{Bool, true, false, cond}
use mathlib.Core.List.{List, [], ◌∷◌, ◌++◌, map, map-append, flatten}
use Prim.Native.Nat.{ℕ, ◌+◌, ◌*◌, ◌<◌, ◌≤◌}
use native.Mathlib.Nat.{mul-le-mul_left}
use native.Mathlib.Omega.{arith}
use lib.IntN.{ℤ}
use lib.ListN.{length, take, length-map, length-append}
use lib.Dec.{ltb}
use borrow.Author.Tests.{ltb-true, ltb-false, lt-ltb, le-ltb}
use Rattle.octets.specs.Le.{le_bytes}
use Rattle.numbers.specs.Result.{Result, ok, refused, and_then}
use Rattle.utilities.specs.Lists.{list_from}
use Rattle.base.specs.Form.{Form, text_lists_nature}
use Rattle.base.specs.Sheet.{Nature, text_lists}
use Rattle.base.specs.Decode.{as_bits}
use Rattle.base.specs.Encode.{joined, total, list_bytes, values_of, number_bytes, numbers_from, text_of, area_of, spot, spots_of, spots_from}
use Rattle.base.proofs.Lists.{total_map, joined_flat, area_flat}
use Rattle.writer.specs.Written.{in_writing, derived_in, texts_room, Within}
use Rattle.base.specs.Refusals.{Answer}
use Rattle.std.specs.declared.result.Result.TheVariants as D
use Rattle.category_lists.specs.Categories.{kept_to, text_kept, kept}
use Rattle.category_lists.specs.Answers.{Tally, Columns}
use Rattle.category_lists.proofs.Columnwise.{from_end}
use Rattle.text_areas.specs.Areas.{laid_parts, AreaLaid}
use Rattle.text_lists.proofs.Columns.{from_are}
use Rattle.writer.specs.declared.Parts.{Parts}

-- ---- one after the other

map_flat : {X Y : Type 0} (f : X → Y) (ls : List (List X)) → map f (flatten ls) ≡ flatten (map (map f) ls)
unfolding flatten
map_flat f [] = refl
map_flat f (l ∷ ls) = map-append f l (flatten ls) ∙ ap (λ (t : List _). map f l ++ t) (map_flat f ls)

-- ---- values and area

spots_append : (at : ℕ) (xs ys : List (List ℕ)) → spots_of at (xs ++ ys) ≡ spots_of at xs ++ spots_of (at + length (text_of xs)) ys
unfolding spots_of text_of joined
spots_append at [] ys = ap (λ (n : ℕ). spots_of n ys) (omega arith)
spots_append at (x ∷ xs) ys =
    ap (λ (l : List ℕ). spot at (length x) ∷ l)
    (spots_append (at + length x) xs ys
    ∙ ap (λ (n : ℕ). spots_of (at + length x) xs ++ spots_of n ys) (omega (arith, length-append x (joined (λ x. x) xs))))

spots_flat : (at : ℕ) (ls : List (List (List ℕ))) → spots_of at (flatten ls) ≡ flatten (spots_from at ls)
unfolding spots_of spots_from flatten
spots_flat at [] = refl
spots_flat at (l ∷ ls) = spots_append at l (flatten ls) ∙ ap (λ (t : List ℕ). spots_of at l ++ t) (spots_flat (at + length (text_of l)) ls)

-- list numbers go by the lengths alone
module _ {X : Type 0} (f : X → List ℕ) (F : Form) where
  number_spots : (j at : ℕ) (l : List X) → number_bytes F j (spots_of at (map f l)) ≡ number_bytes F j l
  unfolding spots_of joined
  number_spots j at [] = refl
  number_spots j at (x ∷ l) = ap (λ (t : List ℕ). le_bytes F.number_width j ++ t) (number_spots j (at + length (f x)) l)

  numbers_spots : (j at : ℕ) (ls : List (List X)) → numbers_from F j (spots_from at (map (map f) ls)) ≡ numbers_from F j ls
  unfolding spots_from numbers_from
  numbers_spots j at [] = refl
  numbers_spots j at (l ∷ ls) = ap₂ ◌++◌ (number_spots j at l) (numbers_spots (j + 1) (at + length (text_of (map f l))) ls)

-- ---- the lists of all columns

pub columns_codes : {F : Form} (g : ℕ → List ℤ) {n j t : ℕ} {numbers values : List ℕ} → j ≡ n → Columns F (λ j. ok (g j)) n j t numbers values → Tally F t numbers values (list_from n 0 g)
columns_codes {F} g {n} {j} {t} {numbers} {values} e a =
    let all : ◌≡◌ {A = Result (List (List ℤ))} (ok a.done) (ok (list_from n 0 g)) = sym (from_end (λ j. ok (g j)) n j a.done (omega arith)) ∙ sym a.left ∙ from_are (λ j. ok (g j)) g n 0 (λ k a b. refl) in
    let same : a.done ≡ list_from n 0 g = cc in
    subst (λ (ls : List (List ℤ)). Tally F t numbers values ls) same a.tally

-- ---- 26, then 28, and the nature in writing

-- the texts that the codes stand for
abbrev pub texts_of : (ℤ → List ℕ) → List (List ℤ) → List (List (List ℕ))
texts_of text codes = map (map text) codes

module _ (F : Form) (text : ℤ → List ℕ) (codes : List (List ℤ)) where
  pub texts_over : F.category_limit < total codes → refused 26 ≡ in_writing F (kept F (text_lists (texts_of text codes)))
  unfolding kept_to
  texts_over h = rw (total_map text codes, lt-ltb F.category_limit (total codes) h)

  texts_few : total codes ≤ F.category_limit → kept_to F.category_limit (text_lists (texts_of text codes)) ≡ ok (text_lists (texts_of text codes))
  unfolding kept_to
  texts_few h = rw (le-ltb F.category_limit (total (texts_of text codes)) (omega (arith, total_map text codes)))

  area_is : text_of (map text (flatten codes)) ≡ area_of (texts_of text codes)
  area_is = ap text_of (map_flat text codes) ∙ area_flat (texts_of text codes)

  second_is : list_bytes as_bits (spots_of 0 (map text (flatten codes))) ++ text_of (map text (flatten codes)) ≡ values_of as_bits (spots_from 0 (texts_of text codes)) ++ area_of (texts_of text codes)
  second_is =
      let texts = texts_of text codes in
      let values = ap (spots_of 0) (map_flat text codes) ∙ spots_flat 0 texts in
      ap₂ ◌++◌ (ap (list_bytes as_bits) values ∙ joined_flat (λ v. le_bytes 8 v) (spots_from 0 texts)) area_is

module _ {F : Form} (text : ℤ → List ℕ) (codes : List (List ℤ)) {n t : ℕ} {values : List ℕ} {r : Answer Parts} (few : t ≤ F.category_limit) (laid : AreaLaid F n t (map text (flatten codes)) values r) where
  pub texts_laid : (numbers : List ℕ) → n ≡ length codes → t ≡ total codes → take (F.number_width * t) numbers ≡ numbers_from F 0 codes
      → derived_in r numbers values ≡ in_writing F (kept F (text_lists (texts_of text codes)))
  unfolding text_kept
  texts_laid numbers size count first =
      go (ltb F.text_limit bytes) refl
      ∙ ap (λ (k : Result Nature). in_writing F (and_then k (text_kept F.text_limit))) (sym (texts_few F text codes (omega arith)))
    where
      bytes : ℕ
      bytes = length (text_of (map text (flatten codes)))

      by : {b : Bool} → ltb F.text_limit bytes ≡ b
          → in_writing F (cond b (refused 28) (ok (text_lists (texts_of text codes)))) ≡ in_writing F (text_kept F.text_limit (text_lists (texts_of text codes)))
      by e = ap (λ (b : Bool). in_writing F (cond b (refused 28) (ok (text_lists (texts_of text codes))))) (sym e ∙ ap (λ (l : List ℕ). ltb F.text_limit (length l)) (area_is F text codes))

      go : (b : Bool) → ltb F.text_limit bytes ≡ b → derived_in r numbers values ≡ in_writing F (text_kept F.text_limit (text_lists (texts_of text codes)))
      go true e = ap (λ (d : Answer Parts). derived_in d numbers values) (laid.over (ltb-true F.text_limit bytes e)) ∙ by e
      go false e =
          let h = ltb-false F.text_limit bytes e in
          let entries = size ∙ sym (length-map codes (map text)) in
          let total = count ∙ sym (total_map text codes) in
          let numbers-are = first ∙ sym (numbers_spots text F 0 0 codes) in
          let values-are = laid.bytes h ∙ second_is F text codes in
          ap (λ (d : Answer Parts). derived_in d numbers values) (laid.given h)
          ∙ (λ i. ok (record { nature = text_lists_nature; entries = entries i; values = total i; text = length (area_is F text codes i); first = numbers-are i; second = values-are i }))
          ∙ by e

  pub laid_within : (numbers : List ℕ) → n ≤ F.list_limit → F.number_width * F.category_limit ≤ length numbers → 8 * F.category_limit + F.text_limit ≤ length values → Within F (texts_room F) numbers values r
  laid_within numbers lists numbered valued = go (ltb F.text_limit bytes) refl
    where
      bytes : ℕ
      bytes = length (text_of (map text (flatten codes)))

      go : (b : Bool) → ltb F.text_limit bytes ≡ b → Within F (texts_room F) numbers values r
      go true e = subst (Within F (texts_room F) numbers values) (sym (laid.over (ltb-true F.text_limit bytes e))) tt
      go false e =
          let h = ltb-false F.text_limit bytes e in
          let more = mul-le-mul_left F.number_width few in
          let placed : Within F (texts_room F) numbers values (D.Ok (laid_parts F n t bytes)) =
          record { entries = lists; values = few; text = h; first_held = omega arith; second_held = omega arith; both = omega arith }
          in
          subst (Within F (texts_room F) numbers values) (sym (laid.given h)) placed
