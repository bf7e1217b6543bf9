-- Category lists whose list numbers never fall, written again: the values of all lists, in order, are the categories as they stand.
--     in_order        the values of the lists, each with the number of its list
--     lists_order    they are the categories, in order
--     lists_fill     both arrays
--     lists_total    how many they are
--     lists_flat     the values alone
-- Assumes nothing.
use mathlib.Core.Path.{◌≡◌, refl, sym, ap, ap₂, ◌∙◌}
use mathlib.Core.Bool.{Bool, true, false, ◌&&◌, ◌||◌}
use mathlib.Core.List.{List, [], ◌∷◌, ◌++◌, map, append_assoc, flatten}
use Prim.Native.Nat.{ℕ, zero, suc, ◌+◌, ◌-◌, ◌*◌, ◌≤◌, ◌<◌}
use native.Mathlib.Omega.{arith}
use lib.Dec.{eqb, ltb, leb}
use lib.ListN.{length}
use borrow.Author.Tests.{eqb-true, eqb-false, ne_eqb, ltb-true, leb-true}
use Rattle.octets.specs.Le.{le_at, le_bytes}
use Rattle.octets.proofs.Reread.{AllBytes, le_bytes_le_at}
use Rattle.utilities.specs.Lists.{list_from}
use Rattle.utilities.proofs.Built.{list_from_length}
use Rattle.utilities.proofs.Mapped.{list_from_map}
use Rattle.base.specs.Form.{Form, group_count, list_count, category_count, entries_at, number_at, value_at}
use Rattle.base.specs.Decode.{list_number, category_at, list_at, lists}
use Rattle.base.specs.Encode.{joined, total, numbers_from, lists_bytes}
use Rattle.base.specs.Checks.{number_permitted, value_permitted, lists_permitted}
use Rattle.base.specs.Sized.{ListsFit}
use Rattle.base.proofs.Flags.{and_both}
use Rattle.base.proofs.Holding.{holds_within}
use Rattle.base.proofs.Stands.{number_stands, value_stands}
use Rattle.round_trip.proofs.Filling.{Filling, ◌then◌, fill_joined}

-- the values of list j, each with j, before `rest`
abbrev numbered : {X : Type 0} → ℕ → List X → List (ℕ × X) → List (ℕ × X)
numbered j [] rest = rest
numbered j (x ∷ l) rest = (j, x) ∷ numbered j l rest

abbrev in_order : {X : Type 0} → ℕ → List (List X) → List (ℕ × X)
in_order j [] = []
in_order j (l ∷ ls) = numbered j l (in_order (j + 1) ls)

-- ---- bytes and number of values in order

module _ {X : Type 0} where
  joined_numbered : (bytes : ℕ × X → List ℕ) (j : ℕ) (l : List X) (rest : List (ℕ × X)) → joined (λ v. bytes (j, v)) l ++ joined bytes rest ≡ joined bytes (numbered j l rest)
  unfolding joined
  joined_numbered bytes j [] rest = refl
  joined_numbered bytes j (x ∷ l) rest = rw append_assoc (ap (λ (r : List ℕ). bytes (j, x) ++ r) (joined_numbered bytes j l rest))

  numbers_order : (F : Form) (j : ℕ) (ls : List (List X)) → numbers_from F j ls ≡ joined (λ p. le_bytes F.number_width p.0) (in_order j ls)
  unfolding joined numbers_from
  numbers_order F j [] = refl
  numbers_order F j (l ∷ ls) = rw (numbers_order F (j + 1) ls) (joined_numbered _ j l (in_order (j + 1) ls))

  values_order : (bits : X → ℕ) (j : ℕ) (ls : List (List X)) → joined (λ l. joined (λ v. le_bytes 8 (bits v)) l) ls ≡ joined (λ p. le_bytes 8 (bits p.1)) (in_order j ls)
  unfolding joined
  values_order bits j [] = refl
  values_order bits j (l ∷ ls) = rw (values_order bits (j + 1) ls) (joined_numbered (λ p. le_bytes 8 (bits p.1)) j l (in_order (j + 1) ls))

  length_numbered : (j : ℕ) (l : List X) (rest : List (ℕ × X)) → length l + length rest ≡ length (numbered j l rest)
  length_numbered j [] rest = omega arith
  length_numbered j (x ∷ l) rest = omega (arith, length_numbered j l rest)

  total_order : (j : ℕ) (ls : List (List X)) → total ls ≡ length (in_order j ls)
  unfolding total
  total_order j [] = refl
  total_order j (l ∷ ls) = rw (total_order (j + 1) ls) (length_numbered j l (in_order (j + 1) ls))

  second_numbered : (j : ℕ) (l : List X) (rest : List (ℕ × X)) → map (λ p. p.1) (numbered j l rest) ≡ l ++ map (λ p. p.1) rest
  second_numbered j [] rest = refl
  second_numbered j (x ∷ l) rest = ap (λ (r : List X). x ∷ r) (second_numbered j l rest)

  flat_order : (j : ℕ) (ls : List (List X)) → map (λ p. p.1) (in_order j ls) ≡ flatten ls
  unfolding flatten
  flat_order j [] = refl
  flat_order j (l ∷ ls) = second_numbered j l (in_order (j + 1) ls) ∙ ap (λ (r : List X). l ++ r) (flat_order (j + 1) ls)

from_same : {X : Type 0} {f g : ℕ → X} (n j : ℕ) → ((m : ℕ) → j ≤ m → f m ≡ g m) → list_from n j f ≡ list_from n j g
unfolding list_from
from_same zero j h = refl
from_same (suc n) j h = ap₂ ◌∷◌ (h j (omega arith)) (from_same n (j + 1) (λ m l. h m (omega arith)))

-- ---- the categories

module _ (F : Form) (s : List ℕ) (g t : ℕ) {X : Type 0} (read : ℕ → X) where
  abbrev list : ℕ → ℕ → ℕ → List X
  list k i j = list_at F s read g t j k i

  abbrev category : ℕ → ℕ × X
  category i = (list_number F s g i, read (category_at F s g t i))

  -- category i is none of list j's
  passes : (k i j : ℕ) → (list_number F s g i ≡ j → ⊥) → list (suc k) i j ≡ list k (i + 1) j
  unfolding list_at
  passes k i j h = rw (ne_eqb (list_number F s g i) j h)

  -- category i is the next of list j
  takes : (k i j : ℕ) → eqb (list_number F s g i) j ≡ true → list (suc k) i j ≡ read (category_at F s g t i) ∷ list k (i + 1) j
  unfolding list_at
  takes k i j h = rw h

  -- list numbers are below the end, and never fall
  module _ (end : ℕ) (high : (p : ℕ) → p < t → list_number F s g p < end) (climbs : (p : ℕ) → p + 1 < t → list_number F s g p ≤ list_number F s g (p + 1)) where
    none_left : (k i j : ℕ) → i + k ≡ t → (i < t → j < list_number F s g i) → list k i j ≡ []
    unfolding list_at
    none_left zero i j e h = refl
    none_left (suc k) i j e h =
        let here = h (omega arith) in
        passes k i j (λ q. omega arith) ∙ none_left k (i + 1) j (omega arith) (λ l. omega (arith, climbs i l))

    -- the n lists from j on, of the k categories from i on
    abbrev Ordered : ℕ → ℕ → Type 0
    Ordered n j = (k i : ℕ) → i + k ≡ t → (i < t → j ≤ list_number F s g i) → in_order j (list_from n j (list k i)) ≡ list_from k i category

    module _ (n j : ℕ) (later : Ordered n (j + 1)) where
      -- list j has no more
      over : (k i : ℕ) → i + k ≡ t → (i < t → j < list_number F s g i) → in_order j (list_from (suc n) j (list k i)) ≡ list_from k i category
      unfolding list_from
      over k i b above = rw (none_left k i j b above) (later k i b (λ l. omega (arith, above l)))

      one_more : Ordered (suc n) j
      unfolding list_from
      one_more zero i b low = over zero i b (λ l. absurd (omega arith))
      one_more (suc k) i b low = go (eqb (list_number F s g i) j) refl (one_more k (i + 1) (omega arith))
        where
          go : (b : Bool) → eqb (list_number F s g i) j ≡ b
              → ((i + 1 < t → j ≤ list_number F s g (i + 1)) → in_order j (list k (i + 1) j ∷ list_from n (j + 1) (list k (i + 1))) ≡ list_from k (i + 1) category)
              → in_order j (list (suc k) i j ∷ list_from n (j + 1) (list (suc k) i)) ≡ category i ∷ list_from k (i + 1) category
          go true e rest =
              let same = eqb-true (list_number F s g i) j e in
              let others = from_same n (j + 1) (λ m l. passes k i m (λ q. omega arith)) in
              rw (takes k i j e, others) (ap₂ ◌∷◌ (ap (λ (m : ℕ). (m, read (category_at F s g t i))) (sym same)) (rest (λ l. omega (arith, climbs i l))))
          go false e rest = let other = eqb-false (list_number F s g i) j e in let l = low (omega arith) in over (suc k) i b (λ _. omega arith)

    order : (n j : ℕ) → j + n ≡ end → Ordered n j
    unfolding list_from
    order zero j e zero i b low = refl
    order zero j e (suc k) i b low = absurd (omega (arith, low (omega arith), high i (omega arith)))
    order (suc n) j e k i b low = one_more n j (order n (j + 1) (omega arith)) k i b low

-- ---- a sheet that passed 4

module _ (F : Form) (s : List ℕ) {n t : ℕ} (fit : ListsFit F s (group_count F s) n t) (ok : lists_permitted F s ≡ true) where
  abbrev number : ℕ → ℕ
  number i = list_number F s (group_count F s) i

  permitted : (i : ℕ) → i < t → number_permitted F s i ≡ true
  unfolding lists_permitted
  permitted i l = (and_both _ (value_permitted F s i) (holds_within (λ i. number_permitted F s i && value_permitted F s i) (category_count F s) 0 i ok (omega arith) (omega arith))).0

  high : (i : ℕ) → i < t → number i < n
  high i l = omega (arith, ltb-true (number i) (list_count F s) (and_both _ (eqb i 0 || leb (number (i - 1)) (number i)) (permitted i l)).0)

  climbs : (i : ℕ) → i + 1 < t → number i ≤ number (i + 1)
  climbs i l =
      let before : i + 1 - 1 ≡ i = omega arith in
      let rises = rw (ne_eqb (i + 1) 0 (λ e. omega arith), before) at (and_both (ltb (number (i + 1)) (list_count F s)) _ (permitted (i + 1) l)).1 in
      leb-true _ _ rises

  module _ {X : Type 0} (read : ℕ → X) where
    pub lists_order : in_order 0 (lists F s read) ≡ list_from t 0 (category F s (group_count F s) t read)
    unfolding lists
    lists_order = rw (← fit.lists, ← fit.categories) (order F s (group_count F s) t read n high climbs n 0 (omega arith) t 0 (omega arith) (λ l. omega arith))

    pub lists_total : total (lists F s read) ≡ t
    lists_total = total_order 0 (lists F s read) ∙ ap length lists_order ∙ list_from_length (category F s (group_count F s) t read) t 0

    pub lists_flat : flatten (lists F s read) ≡ list_from t 0 (λ i. read (category_at F s (group_count F s) t i))
    lists_flat = sym (flat_order 0 (lists F s read)) ∙ ap (map (λ p. p.1)) lists_order ∙ sym (list_from_map (λ p. p.1) t 0 (category F s (group_count F s) t read) (λ i. read (category_at F s (group_count F s) t i)) (λ i. refl))

    pub lists_fill :
        (bits : X → ℕ) → AllBytes s → ((at : ℕ) → bits (read (le_at 8 at s)) ≡ le_at 8 at s)
        → let a = entries_at F (group_count F s) in Filling s a (a + (F.number_width + 8) * t) (lists_bytes F bits (lists F s read))
    unfolding lists_bytes
    lists_fill bits small back =
        let g = group_count F s in
        let w = F.number_width in
        rw (numbers_order F 0 (lists F s read), values_order bits 0 (lists F s read), lists_order)
        (fill_joined (λ p. le_bytes w p.0) (category F s g t read) w t (λ i l. le_bytes_le_at s small w (number_at F g i) (number_stands fit l)) refl
        then fill_joined (λ p. le_bytes 8 (bits p.1)) (category F s g t read) 8 t
        (λ i l. rw (back (value_at F g t i)) (le_bytes_le_at s small 8 (value_at F g t i) (value_stands fit l))) (omega arith))
