-- What the codes of the columns stand for is what the two operands' texts come to, joined by Add or united by Pool.
--     texts_read       a sheet's texts are what its parts stand for
--     column_texts     the texts of a column, each once
--     codes_alike      a column's codes, and those of the columns that are like it
--     together_joined  what is made of all columns
-- Assumes nothing.
use mathlib.Core.Path.{◌≡◌, refl, sym, ap, ap₂, ◌∙◌}
use mathlib.Core.Bool.{Bool, true, false}
use mathlib.Core.List.{List, [], ◌∷◌, ◌++◌, map, map-append, Memᴰ}
use Prim.Native.Nat.{ℕ, zero, suc, ◌+◌, ◌^◌, ◌≤◌, ◌<◌}
use native.Mathlib.Omega.{arith}
use lib.IntN.{ℤ, pos}
use lib.ListN.{take, drop}
use Rattle.numbers.specs.Result.{Result, ok, and_then}
use Rattle.utilities.specs.Lists.{list_from, firsts, standardized}
use Rattle.utilities.specs.Columns.{each, each_pair}
use Rattle.utilities.proofs.Mapped.{firsts_map}
use Rattle.base.specs.Form.{Form, Laid, group_count, list_count, category_count, area_at}
use Rattle.base.specs.Decode.{start_in, length_in, category_at, lists, text_in}
use Rattle.base.specs.Encode.{whole_bits}
use Rattle.base.proofs.Passed.{passed, lists_fit}
use Rattle.base.proofs.Lists.{lists_map}
use Rattle.category_lists.specs.Categories.{join_rule, same_text, pairs, product, combined, union, united}
use Rattle.category_lists.specs.Columnwise.{Reaches, Alike, each_from, pick, spread_of, lesser_of}
use Rattle.category_lists.proofs.Operands.{lists_length, pick_map}
use Rattle.category_lists.proofs.Columnwise.{pairs_are, alike}
use Rattle.texts.specs.Joins.{part_of, as_part, join_code, part_in, join_in, join_at, same_join}
use Rattle.texts.specs.Code.{Texts, Starts, parts_of}
use Rattle.texts.proofs.Codes.{start_of, length_of, part_fits, part_back, left_of_lem, right_of, join_back, alone}
use Rattle.texts.proofs.Lying.{read_small, parts_lie}
use Rattle.text_columns.specs.Codes.{pair_codes, both_codes, codes_by}
use Rattle.text_lists.specs.Codes.{Joining, together, column_codes}

-- ---- a sheet's texts

text_read : (F : Form) (s r : List ℕ) (v : ℕ) → start_in v < 2 ^ 16 → length_in v < 2 ^ 16 → text_in F s v ≡ join_at F s r (as_part v)
unfolding text_in part_in
text_read F s r v h k =
    sym
    (ap (join_in F s r) (part_back v h k)
    ∙ alone (part_of v) (part_fits v h k) F s r
    ∙ (λ i. take (length_of v h i) (drop (area_at F (group_count F s) (category_count F s) + start_of v h i) s)))

module _ {F : Form} {s : List ℕ} (laid : Laid F) (t : Texts F s) where
  pub texts_read : (r : List ℕ) → lists F s (text_in F s) ≡ map (map (join_at F s r)) (lists F s as_part)
  texts_read r =
      let v : ℕ → ℕ = category_at F s (group_count F s) (category_count F s) in
      let fit = lists_fit (passed F s t.listed.passed) t.listed.no_range in
      lists_map F s as_part (text_in F s) (join_at F s r) (λ k l. let b = read_small laid t fit k l in text_read F s r (v k) b.0 b.1)

  pub column_texts : (j : ℕ) → firsts same_text (pick (lists F s (text_in F s)) j) ≡ map (join_at F s s) (parts_of F s j)
  column_texts j =
      ap (λ (ls : List (List (List ℕ))). firsts same_text (pick ls j)) (texts_read s)
      ∙ ap (firsts same_text) (pick_map (join_at F s s) (lists F s as_part) j)
      ∙ firsts_map (same_join F s s) same_text (join_at F s s) (λ a b. refl) (pick (lists F s as_part) j)

-- ---- texts of both sheets

-- numbers that are parts
abbrev Parts : List ℤ → Type 0
Parts us = (z : ℤ) → Memᴰ z us → whole_bits z < 2 ^ 32

module _ (F : Form) (left right : List ℕ) where
  join_is : (a b : ℤ) → whole_bits a < 2 ^ 32 → whole_bits b < 2 ^ 32 → join_at F left right (join_code a b) ≡ join_at F left left a ++ join_at F right right b
  unfolding join_in
  join_is a b h k =
      let p = whole_bits a in
      let q = whole_bits b in
      ap (join_in F left right) (join_back a b h k)
      ∙ (λ i. part_in F left (left_of_lem p q h i) ++ part_in F right (right_of p q h i))
      ∙ sym (ap₂ ◌++◌ (alone p h F left left) (alone q k F right right))

  left_is : (a : ℤ) → whole_bits a < 2 ^ 32 → join_at F left right a ≡ join_at F left left a
  left_is a h = alone (whole_bits a) h F left right ∙ sym (alone (whole_bits a) h F left left)

  right_is : (b : ℤ) → whole_bits b < 2 ^ 32 → join_at F left right (join_code (pos 0) b) ≡ join_at F right right b
  unfolding join_in part_in
  right_is b k = join_is (pos 0) b (omega arith) k

  row_joined : (a : ℤ) (bs : List ℤ) → whole_bits a < 2 ^ 32 → Parts bs
      → each (join_rule (join_at F left left a)) (map (join_at F right right) bs) ≡ ok (map (join_at F left right) (map (join_code a) bs))
  unfolding each
  row_joined a [] h parts = refl
  row_joined a (b ∷ bs) h parts =
      let one = sym (join_is a b h (parts b (Memᴰ.head refl))) in
      let rest = row_joined a bs h (λ z m. parts z (Memᴰ.tail m)) in
      ap₂ (λ (x : List ℕ) (g : Result (List (List ℕ))). and_then g (λ zs. ok (x ∷ zs))) one rest

  pairs_joined : (us bs : List ℤ) → Parts us → Parts bs → pairs join_rule (map (join_at F left left) us) (map (join_at F right right) bs) ≡ ok (map (join_at F left right) (pair_codes us bs))
  unfolding pairs pair_codes
  pairs_joined [] bs lefts rights = refl
  pairs_joined (a ∷ us) bs lefts rights =
      let row = row_joined a bs (lefts a (Memᴰ.head refl)) rights in
      let rest = pairs_joined us bs (λ z m. lefts z (Memᴰ.tail m)) rights in
      ap₂ (λ (g h : Result (List (List ℕ))). and_then g (λ cs. and_then h (λ ds. ok (cs ++ ds)))) row rest
      ∙ ap ok (sym (map-append (join_at F left right) (map (join_code a) bs) (pair_codes us bs)))

  lefts_are : (us : List ℤ) → Parts us → map (join_at F left left) us ≡ map (join_at F left right) us
  lefts_are [] parts = refl
  lefts_are (a ∷ us) parts = ap₂ (λ (x : List ℕ) (xs : List (List ℕ)). x ∷ xs) (sym (left_is a (parts a (Memᴰ.head refl)))) (lefts_are us (λ z m. parts z (Memᴰ.tail m)))

  rights_are : (bs : List ℤ) → Parts bs → map (join_at F right right) bs ≡ map (join_at F left right) (map (join_code (pos 0)) bs)
  rights_are [] parts = refl
  rights_are (b ∷ bs) parts = ap₂ (λ (x : List ℕ) (xs : List (List ℕ)). x ∷ xs) (sym (right_is b (parts b (Memᴰ.head refl)))) (rights_are bs (λ z m. parts z (Memᴰ.tail m)))

  both_joined : (us bs : List ℤ) → Parts us → Parts bs → map (join_at F left left) us ++ map (join_at F right right) bs ≡ map (join_at F left right) (both_codes us bs)
  both_joined us bs lefts rights = ap₂ ◌++◌ (lefts_are us lefts) (rights_are bs rights) ∙ sym (map-append (join_at F left right) us (map (join_code (pos 0)) bs))

-- what Add or Pool makes of a column's two lists
abbrev column_by : Bool → List (List ℕ) → List (List ℕ) → Result (List (List ℕ))
column_by true us bs = product same_text join_rule us bs
column_by false us bs = union same_text us bs

module _ (F : Form) (left right : List ℕ) where
  codes_by_lem : (joins : Bool) (us bs : List ℤ) → Parts us → Parts bs
      → column_by joins (map (join_at F left left) us) (map (join_at F right right) bs) ≡ ok (map (join_at F left right) (firsts (same_join F left right) (codes_by joins us bs)))
  unfolding product union
  codes_by_lem true us bs lefts rights =
      ap (λ (g : Result (List (List ℕ))). and_then g (λ cs. ok (firsts same_text cs))) (pairs_joined F left right us bs lefts rights)
      ∙ ap ok (firsts_map (same_join F left right) same_text (join_at F left right) (λ a b. refl) (pair_codes us bs))
  codes_by_lem false us bs lefts rights =
      ap (λ (xs : List (List ℕ)). ok (firsts same_text xs)) (both_joined F left right us bs lefts rights)
      ∙ ap ok (firsts_map (same_join F left right) same_text (join_at F left right) (λ a b. refl) (both_codes us bs))

module _ {F : Form} {left right : List ℕ} (laid : Laid F) (u : Joining F left right) (joins : Bool) where
  column_joined : (j : ℕ) → Reaches F left j → Reaches F right j
      → column_by joins (firsts same_text (pick (lists F left (text_in F left)) j)) (firsts same_text (pick (lists F right (text_in F right)) j))
      ≡ ok (map (join_at F left right) (column_codes joins F left right j))
  unfolding column_codes
  column_joined j l r =
      ap₂ (column_by joins) (column_texts laid u.lefts j) (column_texts laid u.rights j)
      ∙ codes_by_lem F left right joins (parts_of F left j) (parts_of F right j) (λ z m. (parts_lie laid u.lefts j l z m).small) (λ z m. (parts_lie laid u.rights j r z m).small)

-- ---- the columns that are as column j

-- what stands in the stores for column j are the codes of all of them
pub codes_alike : (joins : Bool) (F : Form) (left right : List ℕ) (j end : ℕ) {l r : ℕ} {us bs : List ℤ} → Alike F left right j end
    → Starts (parts_of F left j) l us → Starts (parts_of F right j) r bs
    → (i : ℕ) → j ≤ i → i < end → ◌≡◌ {A = Result (List ℤ)} (ok (column_codes joins F left right i)) (ok (firsts (same_join F left right) (codes_by joins (take l us) (take r bs))))
unfolding column_codes
codes_alike joins F left right j end same lefts rights =
    let codes : List ℤ → List ℤ → Result (List ℤ) = λ us bs. ok (firsts (same_join F left right) (codes_by joins us bs)) in
    alike (λ l m. codes (firsts (same_join F left left) l) (firsts (same_join F right right) m)) F left right as_part j end same
    (sym (ap₂ codes lefts.start rights.start))

-- ---- all columns

together_by : (joins : Bool) (columns : ℕ) (ls ms : List (List (List ℕ))) → each_pair (column_by joins) (standardized same_text columns ls) (standardized same_text columns ms) ≡ together joins columns ls ms
unfolding combined united
together_by true columns ls ms = refl
together_by false columns ls ms = refl

pub from_are : {Y : Type 0} (f : ℕ → Result Y) (g : ℕ → Y) (n i : ℕ) → ((k : ℕ) → i ≤ k → k < i + n → f k ≡ ok (g k)) → each_from f n i ≡ ok (list_from n i g)
unfolding each_from list_from
from_are f g zero i h = refl
from_are {Y} f g (suc n) i h =
    ap₂ (λ (z : Result Y) (zs : Result (List Y)). and_then z (λ y. and_then zs (λ ys. ok (y ∷ ys)))) (h i (omega arith) (omega arith)) (from_are f g n (i + 1) (λ k a b. h k (omega arith) (omega arith)))

module _ {F : Form} {left right : List ℕ} (laid : Laid F) (u : Joining F left right) (joins : Bool) where
  pub together_joined : (columns n : ℕ) → n ≡ lesser_of (spread_of columns (list_count F left)) (spread_of columns (list_count F right))
      → ((list_count F left ≡ 1 → ⊥) → n ≤ list_count F left) → ((list_count F right ≡ 1 → ⊥) → n ≤ list_count F right)
      → together joins columns (lists F left (text_in F left)) (lists F right (text_in F right)) ≡ ok (list_from n 0 (λ j. map (join_at F left right) (column_codes joins F left right j)))
  together_joined columns n size l r =
      let ls = lists F left (text_in F left) in
      let ms = lists F right (text_in F right) in
      let column_of : ℕ → Result (List (List ℕ)) = λ j. column_by joins (firsts same_text (pick ls j)) (firsts same_text (pick ms j)) in
      let e = size ∙ ap₂ (λ (a b : ℕ). lesser_of (spread_of columns a) (spread_of columns b)) (sym (lists_length F left (text_in F left))) (sym (lists_length F right (text_in F right))) in
      sym (pairs_are same_text (column_by joins) columns ls ms n e ∙ together_by joins columns ls ms)
      ∙ from_are column_of (λ j. map (join_at F left right) (column_codes joins F left right j)) n 0 (λ j from to. column_joined laid u joins j (λ h. omega (arith, l h, to)) (λ h. omega (arith, r h, to)))
