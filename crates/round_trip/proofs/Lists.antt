-- Category lists read back: list j gathers the categories whose list number is j, and those are list j's own.
--     .. -length    the bytes of lists, and of their parts
--     own_list      the categories of one list, as list j sees them
--     earlier       a list before all of those that are filed sees nothing
--     lists_back    the list of each number
-- Assumes nothing.
use mathlib.Core.Path.{◌≡◌, refl, sym, ◌∙◌}
use mathlib.Core.Bool.{Bool, true, false, cond}
use mathlib.Core.List.{List, [], ◌∷◌, ◌++◌, append-nil}
use Prim.Native.Nat.{ℕ, zero, suc, ◌+◌, ◌*◌, ◌^◌, ◌<◌, ◌≤◌}
use native.Mathlib.Nat.{zero-add, suc-add, add-zero, mul-zero, mul-add, add-mul}
use native.Mathlib.Omega.{arith}
use lib.ListN.{length, get_or, length-append}
use lib.Seq.{ext_get_or}
use lib.Dec.{eqb}
use borrow.Author.Tests.{eq-eqb, ne_eqb}
use Rattle.octets.specs.Le.{le_bytes}
use Rattle.octets.proofs.Widths.{length_le_bytes}
use Rattle.utilities.specs.Lists.{list_from}
use Rattle.utilities.proofs.Built.{list_from_length, list_from_at}
use Rattle.base.specs.Form.{Form, entries_at, number_at, value_at}
use Rattle.base.specs.Decode.{prepended, list_number, category_at, list_at}
use Rattle.base.specs.Encode.{joined, total, list_bytes, number_bytes, numbers_from, lists_bytes}
use Rattle.round_trip.specs.WellFormed.{Each, CategoriesFit}
use Rattle.round_trip.proofs.Standing.{Standing, standing_at, standing_left, standing_right, number_back}
use Rattle.round_trip.proofs.Values.{Back, value_back}
use Rattle.round_trip.proofs.Arrays.{joined_length, next_place}

pub number_bytes_length : {X : Type 0} (F : Form) (m : ℕ) (l : List X) → length (number_bytes F m l) ≡ F.number_width * length l
number_bytes_length F m l = joined_length (λ v. le_bytes F.number_width m) F.number_width (λ v. length_le_bytes F.number_width m) l

pub list_bytes_length : {X : Type 0} (bits : X → ℕ) (l : List X) → length (list_bytes bits l) ≡ 8 * length l
list_bytes_length bits l = joined_length (λ v. le_bytes 8 (bits v)) 8 (λ v. length_le_bytes 8 (bits v)) l

module _ {X : Type 0} where
  pub numbers_length : (F : Form) (ls : List (List X)) (m : ℕ) → length (numbers_from F m ls) ≡ F.number_width * total ls
  unfolding numbers_from total
  numbers_length F [] m = rw mul-zero
  numbers_length F (l ∷ ls) m = rw (length-append, number_bytes_length F m l, numbers_length F ls (m + 1)) (sym (mul-add F.number_width (length l) (total ls)))

  values_length : (bits : X → ℕ) (ls : List (List X)) → length (joined (list_bytes bits) ls) ≡ 8 * total ls
  unfolding joined total
  values_length bits [] = refl
  values_length bits (l ∷ ls) = rw (length-append, list_bytes_length bits l, values_length bits ls) (omega arith)

  pub lists_length : (F : Form) (bits : X → ℕ) (ls : List (List X)) → length (lists_bytes F bits ls) ≡ (F.number_width + 8) * total ls
  unfolding lists_bytes
  lists_length F bits ls = rw (length-append, numbers_length F ls 0, values_length bits ls) (sym (add-mul F.number_width 8 (total ls)))

-- what list j sees of no category, and of one more
unseen : {X : Type 0} (b : Bool) (rest : List X) → rest ≡ cond b [] [] ++ rest
unseen true rest = refl
unseen false rest = refl

seen : {X : Type 0} (b : Bool) (x : X) (l rest : List X) → prepended b x (cond b l [] ++ rest) ≡ cond b (x ∷ l) [] ++ rest
seen true x l rest = refl
seen false x l rest = refl

module _ {X : Type 0} {P : X → Type 0} {bits : X → ℕ} {read : ℕ → X} (back : Back P bits read) (F : Form) (s : List ℕ) (g t : ℕ) where
  own_list :
      (m j : ℕ) → m < 256 ^ F.number_width → (l : List X) (i k : ℕ) → Each P l
      → Standing s (number_at F g i) (number_bytes F m l) → Standing s (value_at F g t i) (list_bytes bits l)
      → list_at F s read g t j (length l + k) i ≡ cond (eqb m j) l [] ++ list_at F s read g t j k (i + length l)
  unfolding list_at joined
  own_list m j h [] i k p n v = rw (zero-add, add-zero) (unseen (eqb m j) (list_at F s read g t j k i))
  own_list m j h (x ∷ l) i k p n v =
      let w = F.number_width in
      let here : list_number F s g i ≡ m = number_back w (standing_left (le_bytes w m) (number_bytes F m l) n) h in
      let value : read (category_at F s g t i) ≡ x = value_back back x p.0 (standing_left (le_bytes 8 (bits x)) (list_bytes bits l) v) in
      let rest = own_list m j h l (i + 1) k p.1
      (standing_right (le_bytes w m) (number_bytes F m l) n (next_place (entries_at F g) w i 1 (rw (length_le_bytes w m) (omega arith))))
      (standing_right (le_bytes 8 (bits x)) (list_bytes bits l) v (next_place (entries_at F g + w * t) 8 i 1 (rw (length_le_bytes 8 (bits x)) (omega arith)))) in
      let behind : i + 1 + length l ≡ i + suc (length l) = omega arith in
      rw (suc-add, here, value, rest, behind) (seen (eqb m j) x l (list_at F s read g t j k (i + suc (length l))))

  -- the lists from number m on, whose categories are those from i on
  record Filed (m i : ℕ) (ls : List (List X)) : Type 0 where
    room : m + length ls ≤ 256 ^ F.number_width
    fit : Each (Each P) ls
    numbers : Standing s (number_at F g i) (numbers_from F m ls)
    values : Standing s (value_at F g t i) (joined (list_bytes bits) ls)

  module _ {m i : ℕ} {l : List X} {ls : List (List X)} (f : Filed m i (l ∷ ls)) where
    filed_rest : Filed (m + 1) (i + length l) ls
    unfolding joined numbers_from
    filed_rest = record {
      room = omega (arith, f.room);
      fit = f.fit.1;
      numbers = standing_right (number_bytes F m l) (numbers_from F (m + 1) ls) f.numbers (next_place (entries_at F g) F.number_width i (length l) (number_bytes_length F m l));
      values = standing_right (list_bytes bits l) (joined (list_bytes bits) ls) f.values (next_place (entries_at F g + F.number_width * t) 8 i (length l) (list_bytes_length bits l));
    }

    filed_own :
        (j : ℕ) → list_at F s read g t j (total (l ∷ ls)) i ≡ cond (eqb m j) l [] ++ list_at F s read g t j (total ls) (i + length l)
    unfolding joined numbers_from total
    filed_own j =
        own_list m j (omega (arith, f.room)) l i (total ls) f.fit.0
        (standing_left (number_bytes F m l) (numbers_from F (m + 1) ls) f.numbers) (standing_left (list_bytes bits l) (joined (list_bytes bits) ls) f.values)

  earlier : (ls : List (List X)) {m i : ℕ} (j : ℕ) → Filed m i ls → j < m → list_at F s read g t j (total ls) i ≡ []
  unfolding list_at total
  earlier [] j f h = refl
  earlier (l ∷ ls) {m} {i} j f h =
      filed_own f j ∙ rw (ne_eqb m j (λ e. omega arith)) (earlier ls j (filed_rest f) (omega arith))

  list_back : (ls : List (List X)) {m i : ℕ} (q : ℕ) → Filed m i ls → list_at F s read g t (m + q) (total ls) i ≡ get_or ls q []
  unfolding list_at total
  list_back [] q f = refl
  list_back (l ∷ ls) {m} {i} zero f =
      filed_own f (m + 0) ∙ rw (eq-eqb m (m + 0) (omega arith), earlier ls (m + 0) (filed_rest f) (omega arith)) (append-nil l)
  list_back (l ∷ ls) {m} {i} (suc q) f =
      let shift : m + suc q ≡ m + 1 + q = omega arith in
      filed_own f (m + suc q) ∙ rw (ne_eqb m (m + suc q) (λ e. omega arith), shift) (list_back ls q (filed_rest f))

  pub lists_back :
      (ls : List (List X)) → CategoriesFit F P ls → t ≡ total ls → Standing s (entries_at F g) (lists_bytes F bits ls)
      → list_from (length ls) 0 (λ j. list_at F s read g t j (total ls) 0) ≡ ls
  unfolding lists_bytes
  lists_back ls fit e h =
      let numbers = numbers_from F 0 ls in
      let values = joined (list_bytes bits) ls in
      let none = mul-zero F.number_width in
      let size : length numbers ≡ F.number_width * t = rw e (numbers_length F ls 0) in
      let n : Standing s (number_at F g 0) numbers = standing_at (standing_left numbers values h) (omega arith) in
      let v : Standing s (value_at F g t 0) values = standing_right numbers values h (omega arith) in
      let list : ℕ → List X = λ j. list_at F s read g t j (total ls) 0 in
      let f : Filed 0 0 ls = record { room = omega (arith, fit.numbers); fit = fit.values; numbers = n; values = v } in
      ext_get_or [] (list_from (length ls) 0 list) ls (list_from_length list (length ls) 0)
      (λ j h. list_from_at list (length ls) 0 j [] (rw (list_from_length list (length ls) 0) at h) ∙ list_back ls j f)
