-- Parts and joins byte by byte, and texts compared.
--     part_length_lem, join_size             how many bytes they have
--     part_at, join_left, join_right     where byte i of them stands
--     same_lengths                       texts of other lengths
--     Comparing, comparing-..            a loop that compares two texts byte by byte
--     same_refl, same_equal              `same_text` is equality
-- Assumes nothing.
use mathlib.Core.Path.{◌≡◌, refl, sym, ap, ap₂, ◌∙◌}
use mathlib.Core.Bool.{Bool, true, false, ◌&&◌, false≢true}
use mathlib.Core.List.{List, [], ◌∷◌, ◌++◌}
use Prim.Native.Nat.{ℕ, suc, ◌+◌, ◌-◌, ◌≤◌, ◌<◌}
use native.Mathlib.Numerals.{add-one}
use native.Mathlib.Omega.{arith}
use lib.ListN.{length, drop, get_or, length-append, length-drop, drop_of_length-le, get_or-append}
use lib.Seq.{length-take-le, get_or-take, get_or-drop, get_or-append-add, drop-cons}
use lib.Dec.{eqb}
use borrow.Author.Tests.{eqb-true, eq-eqb, ne_eqb}
use Rattle.base.specs.Form.{Form, group_count, category_count, area_at}
use Rattle.category_lists.specs.Categories.{same_text}
use Rattle.texts.specs.Joins.{part_start, part_length, left_part, right_part, part_in, join_in, PartLies, JoinLies}

-- ---- parts and joins

module _ (F : Form) where
  pub part_at : (s : List ℕ) (p i : ℕ) → i < part_length p → get_or (part_in F s p) i 0 ≡ get_or s (area_at F (group_count F s) (category_count F s) + part_start p + i) 0
  unfolding part_in
  part_at s p i h =
      let at = area_at F (group_count F s) (category_count F s) + part_start p in
      get_or-take (part_length p) (drop at s) i 0 h ∙ get_or-drop at s i 0

  room : (a x n l m : ℕ) → a + m ≤ l → x + n ≤ m → n ≤ l - (a + x)
  room a x n l m h k = omega arith

  pub part_length_lem : {s : List ℕ} {p : ℕ} → PartLies F s p → length (part_in F s p) ≡ part_length p
  unfolding part_in
  part_length_lem {s} {p} l =
      let area = area_at F (group_count F s) (category_count F s) in
      let at = area + part_start p in
      let left : part_length p ≤ length s - at = room area (part_start p) (part_length p) (length s) _ l.area l.within in
      length-take-le (part_length p) (drop at s) (rw (length-drop at s) left)

  module _ {left right : List ℕ} {c : ℕ} (l : JoinLies F left right c) where
    pub join_size : length (join_in F left right c) ≡ part_length (left_part c) + part_length (right_part c)
    unfolding join_in
    join_size = length-append (part_in F left (left_part c)) (part_in F right (right_part c)) ∙ ap₂ ◌+◌ (part_length_lem l.lefts) (part_length_lem l.rights)

    pub join_left : (i : ℕ) → i < part_length (left_part c) → get_or (join_in F left right c) i 0 ≡ get_or (part_in F left (left_part c)) i 0
    unfolding join_in
    join_left i h = get_or-append (part_in F left (left_part c)) (part_in F right (right_part c)) 0 i (rw (part_length_lem l.lefts) h)

    pub join_right : (i n : ℕ) → n ≡ part_length (left_part c) → n ≤ i → get_or (join_in F left right c) i 0 ≡ get_or (part_in F right (right_part c)) (i - n) 0
    unfolding join_in
    join_right i n e h =
        let p = part_in F left (left_part c) in
        let q = part_in F right (right_part c) in
        let size : length p ≡ n = part_length_lem l.lefts ∙ sym e in
        let split : i ≡ length p + (i - n) = omega (arith, size, h) in
        ap (λ (k : ℕ). get_or (p ++ q) k 0) split ∙ get_or-append-add p q (i - n) 0

-- ---- texts compared

pub same_lengths : (xs ys : List ℕ) → (length xs ≡ length ys → ⊥) → same_text xs ys ≡ false
unfolding same_text
same_lengths [] [] h = absurd (h refl)
same_lengths [] (y ∷ ys) h = refl
same_lengths (x ∷ xs) [] h = refl
same_lengths (x ∷ xs) (y ∷ ys) h = go (eqb x y) (same_lengths xs ys (λ e. h (ap suc e)))
  where
    go : (t : Bool) → same_text xs ys ≡ false → t && same_text xs ys ≡ false
    go true e = e
    go false e = refl

-- xs and ys, of n bytes each, are the same if they are from byte i on
pub record Comparing (xs ys : List ℕ) (n i : ℕ) (whole : Bool) : Type 0 where
  pub first : length xs ≡ n
  pub second : length ys ≡ n
  pub rest : same_text (drop i xs) (drop i ys) ≡ whole

pub comparing_start : {xs ys : List ℕ} {n : ℕ} → length xs ≡ n → length ys ≡ n → Comparing xs ys n 0 (same_text xs ys)
comparing_start e f = record { first = e; second = f; rest = refl }

module _ {xs ys : List ℕ} {n i : ℕ} {whole : Bool} (inv : Comparing xs ys n i whole) where
  -- the bytes at i, as they are read
  module _ (h : i < n) {x y : ℕ} (e : x ≡ get_or xs i 0) (f : y ≡ get_or ys i 0) where
    step : same_text (drop i xs) (drop i ys) ≡ (eqb x y && same_text (drop (i + 1) xs) (drop (i + 1) ys))
    unfolding same_text
    step = rw (drop-cons xs i 0 (rw inv.first h), drop-cons ys i 0 (rw inv.second h), add-one i, e, f)

    pub comparing_more : x ≡ y → Comparing xs ys n (i + 1) whole
    comparing_more same =
        let rest = same_text (drop (i + 1) xs) (drop (i + 1) ys) in
        record { first = inv.first; second = inv.second; rest = sym (step ∙ ap (λ (t : Bool). t && rest) (eq-eqb x y same)) ∙ inv.rest }

    pub comparing_failed : (x ≡ y → ⊥) → false ≡ whole
    comparing_failed other = let rest = same_text (drop (i + 1) xs) (drop (i + 1) ys) in sym (step ∙ ap (λ (t : Bool). t && rest) (ne_eqb x y other)) ∙ inv.rest

  pub comparing_done : n ≤ i → true ≡ whole
  unfolding same_text
  comparing_done h =
      let first : drop i xs ≡ [] = drop_of_length-le xs (rw inv.first h) in
      let second : drop i ys ≡ [] = drop_of_length-le ys (rw inv.second h) in
      sym (ap₂ same_text first second) ∙ inv.rest

pub same_refl : (xs : List ℕ) → same_text xs xs ≡ true
unfolding same_text
same_refl [] = refl
same_refl (x ∷ xs) = ap₂ ◌&&◌ (eq-eqb x x refl) (same_refl xs)

pub same_equal : (xs ys : List ℕ) → same_text xs ys ≡ true → xs ≡ ys
unfolding same_text
same_equal [] [] e = refl
same_equal [] (y ∷ ys) e = absurd (false≢true e)
same_equal (x ∷ xs) [] e = absurd (false≢true e)
same_equal (x ∷ xs) (y ∷ ys) e = go (eqb x y) refl e (same_equal xs ys)
  where
    go : (t : Bool) → eqb x y ≡ t → (t && same_text xs ys) ≡ true → (same_text xs ys ≡ true → xs ≡ ys) → x ∷ xs ≡ y ∷ ys
    go true d f rest = ap₂ ◌∷◌ (eqb-true x y d) (rest f)
    go false d f rest = absurd (false≢true f)
