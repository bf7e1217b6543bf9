-- Where the texts of a sheet lie that passed 3 and 4.
--     part_lies, empty_lies  the part of a value lies there, and so does the empty one
--     lies_alone, lies_join  a part alone, and a part of left with a part of right, as joins
--     parts_lie              so does every number in the list of a column; store_lies, of a store that begins with this list
-- Assumes nothing.
use mathlib.Core.Path.{◌≡◌, refl, sym, ap, subst, ◌∙◌}
use mathlib.Core.Bool.{Bool, true, false}
use mathlib.Core.List.Memᴰ
use mathlib.Core.List.{List, [], Memᴰ}
use Prim.Native.Nat.{ℕ, zero, suc, ◌+◌, ◌-◌, ◌^◌, ◌≤◌, ◌<◌}
use native.Mathlib.Omega.{arith}
use lib.IntN.{ℤ, pos}
use lib.ListN.{get_or}
use lib.Seq.{get_or-take}
use lib.Dec.{eqb}
use borrow.Author.Tests.{eqb-true, eqb-false}
use Rattle.utilities.proofs.Members.{at_member, firsts_only}
use Rattle.base.specs.Form.{Form, Laid, group_count, list_count, category_count, area_size}
use Rattle.base.specs.Decode.{prepended, list_number, category_at, list_at, lists, start_in, length_in}
use Rattle.base.specs.Encode.{whole_bits}
use Rattle.base.specs.Sized.{ListsFit}
use Rattle.base.proofs.Passed.{passed, lists_fit, area_ends}
use Rattle.base.proofs.EndToEnd.{value, text_within_lem}
use Rattle.category_lists.specs.Columnwise.{Listed, Reaches, pick}
use Rattle.category_lists.proofs.Operands.{lists_length, lists_from, pick_only, pick_own}
use Rattle.texts.specs.Joins.{part_of, join_of, as_part, PartLies, JoinLies, same_join}
use Rattle.texts.specs.Code.{Texts, Starts, parts_of}
use Rattle.texts.proofs.Codes.{left_of_lem, right_of, start_of, length_of, part_fits, part_back, left_alone, right_alone}

-- ---- parts and joins

module _ {F : Form} {s : List ℕ} where
  pub empty_lies : Listed F s → PartLies F s 0
  empty_lies l = record { small = omega arith; area = omega (arith, area_ends (passed F s l.passed) l.no_range); within = omega arith }

  -- a text that ends within the area starts and ends below 2 ^ 16
  pub ends_small : Laid F → Listed F s → (v : ℕ) → start_in v + length_in v ≤ area_size F s → (start_in v < 2 ^ 16) × (length_in v < 2 ^ 16)
  ends_small laid l v h =
      let size : area_size F s < 2 ^ 16 = omega (arith, (passed F s l.passed).text_within, laid.area_counted) in
      small (start_in v) (length_in v) (area_size F s) h size
    where
      small : (a b n : ℕ) → a + b ≤ n → n < 2 ^ 16 → (a < 2 ^ 16) × (b < 2 ^ 16)
      small a b n h k = omega arith

  value_lies : Laid F → Listed F s → (v : ℕ) → start_in v + length_in v ≤ area_size F s → PartLies F s (part_of v)
  value_lies laid l v h =
      let b = ends_small laid l v h in
      record {
        small = part_fits v b.0 b.1;
        area = omega (arith, area_ends (passed F s l.passed) l.no_range);
        within = rw (start_of v b.0, length_of v b.0) h;
      }

  -- the same of the number that stands for it
  number_lies : Laid F → Listed F s → (v : ℕ) → start_in v + length_in v ≤ area_size F s → PartLies F s (whole_bits (as_part v))
  number_lies laid l v h = let b = ends_small laid l v h in subst (PartLies F s) (sym (part_back v b.0 b.1)) (value_lies laid l v h)

  pub part_lies : Laid F → Texts F s → (i : ℕ) → i < category_count F s → PartLies F s (part_of (value F s i))
  part_lies laid t i h = value_lies laid t.listed (value F s i) (text_within_lem F s t.fields t.is_text i h)

-- the same, of the sizes that were read
module _ {F : Form} {s : List ℕ} (laid : Laid F) (texts : Texts F s) {g n t : ℕ} (fit : ListsFit F s g n t) (i : ℕ) (h : i < t) where
  read_ends : start_in (category_at F s g t i) + length_in (category_at F s g t i) ≤ area_size F s
  read_ends = rw (fit.groups, fit.categories) (text_within_lem F s texts.fields texts.is_text i (omega (arith, h, fit.categories)))

  pub read_small : (start_in (category_at F s g t i) < 2 ^ 16) × (length_in (category_at F s g t i) < 2 ^ 16)
  read_small = ends_small laid texts.listed (category_at F s g t i) read_ends

  pub read_lies : PartLies F s (whole_bits (as_part (category_at F s g t i)))
  read_lies = number_lies laid texts.listed (category_at F s g t i) read_ends

module _ {F : Form} {left right : List ℕ} {p : ℕ} (l : PartLies F left p) where
  pub lies_alone : PartLies F right 0 → JoinLies F left right p
  lies_alone e = record { lefts = subst (PartLies F left) (sym (left_alone p l.small)) l; rights = subst (PartLies F right) (sym (right_alone p l.small)) e }

  pub lies_join : {q : ℕ} → PartLies F right q → JoinLies F left right (join_of p q)
  lies_join {q} r =
      record { lefts = subst (PartLies F left) (sym (left_of_lem p q l.small)) l; rights = subst (PartLies F right) (sym (right_of p q l.small)) r }

-- ---- the list of a column

-- what holds of each value that a list may have holds of its members
list_all : {X : Type 0} (F : Form) (s : List ℕ) (read : ℕ → X) (P : X → Type 0) (g t j k i : ℕ)
    → ((m : ℕ) → m < i + k → P (read (category_at F s g t m))) → (x : X) → Memᴰ x (list_at F s read g t j k i) → P x
unfolding list_at
list_all F s read P g t j zero i all x m = absurd (Memᴰ.not-nil m)
list_all {X} F s read P g t j (suc k) i all x m =
    go (eqb (list_number F s g i) j) (list_all F s read P g t j k (i + 1) (λ n h. all n (omega (arith, h))) x) m
  where
    go : (b : Bool) → (Memᴰ x (list_at F s read g t j k (i + 1)) → P x) → Memᴰ x (prepended b (read (category_at F s g t i)) (list_at F s read g t j k (i + 1))) → P x
    go true rest (Memᴰ.head e) = subst P (sym e) (all i (omega arith))
    go true rest (Memᴰ.tail n) = rest n
    go false rest n = rest n

module _ {F : Form} {s : List ℕ} (laid : Laid F) (t : Texts F s) where
  list_lies : (j : ℕ) → j < list_count F s → (z : ℤ) → Memᴰ z (get_or (lists F s as_part) j []) → PartLies F s (whole_bits z)
  list_lies j h z m =
      let g = group_count F s in
      let n = category_count F s in
      let list = lists_from F s as_part j (lists_fit (passed F s t.listed.passed) t.listed.no_range) h in
      list_all F s as_part (λ (x : ℤ). PartLies F s (whole_bits x)) g n j (n - 0) 0 (λ i l. number_lies laid t.listed (value F s i) (text_within_lem F s t.fields t.is_text i (omega (arith, l)))) z (subst (Memᴰ z) list m)

  pub parts_lie : (j : ℕ) → Reaches F s j → (z : ℤ) → Memᴰ z (parts_of F s j) → PartLies F s (whole_bits z)
  parts_lie j reach z m = go (eqb (list_count F s) 1) refl
    where
      all : List (List ℤ)
      all = lists F s as_part

      member : Memᴰ z (pick all j)
      member = firsts_only (same_join F s s) z (pick all j) m

      go : (b : Bool) → eqb (list_count F s) 1 ≡ b → PartLies F s (whole_bits z)
      go true e = list_lies 0 t.listed.some z (subst (Memᴰ z) (pick_only all j (lists_length F s as_part ∙ eqb-true (list_count F s) 1 e)) member)
      go false e =
          let other = eqb-false (list_count F s) 1 e in
          list_lies j (reach other) z (subst (Memᴰ z) (pick_own all j (λ q. other (sym (lists_length F s as_part) ∙ q))) member)

  pub store_lies : (j : ℕ) → Reaches F s j → {m : ℕ} {store : List ℤ} → Starts (parts_of F s j) m store → (i : ℕ) → i < m → PartLies F s (whole_bits (get_or store i (pos 0)))
  store_lies j reach {m} {store} a i h =
      let here : get_or store i (pos 0) ≡ get_or (parts_of F s j) i (pos 0) = sym (get_or-take m store i (pos 0) h) ∙ ap (λ (l : List ℤ). get_or l i (pos 0)) a.start in
      parts_lie j reach (get_or store i (pos 0)) (subst (λ (z : ℤ). Memᴰ z (parts_of F s j)) (sym here) (at_member (parts_of F s j) i (pos 0) (omega (arith, h, a.count))))
