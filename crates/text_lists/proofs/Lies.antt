-- The codes of the columns are joins of texts that lie in the two sheets, and so is what is read of their bytes.
--     all_lie        the codes of all columns, one after the other
--     codes_fit, codes_stand    they fit 64 bits, and what is read where they were written
-- Assumes nothing.
use mathlib.Core.Path.{◌≡◌, refl, sym, ap, subst, ◌∙◌}
use mathlib.Core.Bool.{Bool, true, false}
use mathlib.Core.Logic.{⊎_elim}
use mathlib.Core.List.Memᴰ
use mathlib.Core.List.{List, [], ◌∷◌, map, flatten, Memᴰ}
use Prim.Native.Nat.{ℕ, zero, suc, ◌+◌, ◌*◌, ◌^◌, ◌≤◌, ◌<◌}
use native.Mathlib.Nat.{zero-add, div-add-mod'}
use native.Mathlib.Omega.{arith}
use lib.IntN.{ℤ, pos}
use lib.ListN.{length, take, get_or, get_or-map}
use Rattle.octets.specs.Le.{le_at}
use Rattle.utilities.specs.Lists.{list_from}
use Rattle.utilities.proofs.Members.{at_member, firsts_only}
use Rattle.utilities.proofs.Built.{list_from_at}
use Rattle.base.specs.Form.{Form, Laid, list_count}
use Rattle.base.specs.Encode.{whole_bits, list_bytes}
use Rattle.category_lists.specs.Columnwise.{Reaches}
use Rattle.texts.specs.Joins.{join_code, PartLies, JoinLies, same_join}
use Rattle.texts.specs.Code.{parts_of}
use Rattle.texts.proofs.Codes.{join_back}
use Rattle.texts.proofs.Lying.{empty_lies, lies_alone, lies_join, parts_lie}
use Rattle.text_columns.specs.Codes.{pair_codes, both_codes, codes_by}
use Rattle.text_areas.proofs.Laying.{codes_read}
use Rattle.text_lists.specs.Codes.{Joining, column_codes}

-- ---- the codes of a column

-- parts that lie in a sheet, and joins that lie in two
abbrev PartsLie : Form → List ℕ → List ℤ → Type 0
PartsLie F s xs = (z : ℤ) → Memᴰ z xs → PartLies F s (whole_bits z)

abbrev pub CodesLie : Form → List ℕ → List ℕ → List ℤ → Type 0
CodesLie F left right xs = (z : ℤ) → Memᴰ z xs → JoinLies F left right (whole_bits z)

module _ {F : Form} {left right : List ℕ} where
  join_lies : (a b : ℤ) → PartLies F left (whole_bits a) → PartLies F right (whole_bits b) → JoinLies F left right (whole_bits (join_code a b))
  join_lies a b l r = subst (JoinLies F left right) (sym (join_back a b l.small r.small)) (lies_join l r)

  row_lies : (a : ℤ) (bs : List ℤ) → PartLies F left (whole_bits a) → PartsLie F right bs → CodesLie F left right (map (join_code a) bs)
  row_lies a bs l rights z m =
      let b = Memᴰ.of_map (join_code a) bs m in
      subst (λ (x : ℤ). JoinLies F left right (whole_bits x)) b.2 (join_lies a b.0 l (rights b.0 b.1))

  pairs_lie : (us bs : List ℤ) → PartsLie F left us → PartsLie F right bs → CodesLie F left right (pair_codes us bs)
  unfolding pair_codes
  pairs_lie [] bs lefts rights z m = absurd (Memᴰ.not-nil m)
  pairs_lie (a ∷ us) bs lefts rights z m =
      ⊎_elim
      (row_lies a bs (lefts a (Memᴰ.head refl)) rights z)
      (pairs_lie us bs (λ x k. lefts x (Memᴰ.tail k)) rights z)
      (Memᴰ.append_cases (map (join_code a) bs) m)

  module _ (left-none : PartLies F left 0) (right-none : PartLies F right 0) where
    both_lie : (us bs : List ℤ) → PartsLie F left us → PartsLie F right bs → CodesLie F left right (both_codes us bs)
    both_lie us bs lefts rights z m =
        ⊎_elim
        (λ (k : Memᴰ z us). lies_alone (lefts z k) right-none)
        (row_lies (pos 0) bs left-none rights z)
        (Memᴰ.append_cases us m)

    lie_by : (joins : Bool) (us bs : List ℤ) → PartsLie F left us → PartsLie F right bs → CodesLie F left right (codes_by joins us bs)
    lie_by true us bs lefts rights = pairs_lie us bs lefts rights
    lie_by false us bs lefts rights = both_lie us bs lefts rights

module _ {F : Form} {left right : List ℕ} (laid : Laid F) (u : Joining F left right) (joins : Bool) where
  codes_lie : (j : ℕ) → Reaches F left j → Reaches F right j → CodesLie F left right (column_codes joins F left right j)
  unfolding column_codes
  codes_lie j l r z m =
      let us = parts_of F left j in
      let bs = parts_of F right j in
      lie_by (empty_lies u.lefts.listed) (empty_lies u.rights.listed) joins us bs (parts_lie laid u.lefts j l) (parts_lie laid u.rights j r) z
      (firsts_only (same_join F left right) z (codes_by joins us bs) m)

-- ---- those of all columns

flat_lie : {F : Form} {left right : List ℕ} (g : ℕ → List ℤ) (n i : ℕ) → ((j : ℕ) → i ≤ j → j < i + n → CodesLie F left right (g j)) → CodesLie F left right (flatten (list_from n i g))
unfolding flatten list_from
flat_lie g zero i h z m = absurd (Memᴰ.not-nil m)
flat_lie g (suc n) i h z m =
    ⊎_elim
    (h i (omega arith) (omega arith) z)
    (flat_lie g n (i + 1) (λ j a b. h j (omega arith) (omega arith)) z)
    (Memᴰ.append_cases (g i) m)

pub all_lie : {F : Form} {left right : List ℕ} → Laid F → Joining F left right → (joins : Bool) (n : ℕ) → ((list_count F left ≡ 1 → ⊥) → n ≤ list_count F left) → ((list_count F right ≡ 1 → ⊥) → n ≤ list_count F right)
    → CodesLie F left right (flatten (list_from n 0 (column_codes joins F left right)))
all_lie {F} {left} {right} laid u joins n l r = flat_lie (column_codes joins F left right) n 0 (λ j from to. codes_lie laid u joins j (λ h. omega (arith, l h, to)) (λ h. omega (arith, r h, to)))

-- ---- where they were written

code_read :
    (s : List ℕ) (t : ℕ) (cs : List ℤ) → 8 * t ≤ length s → take (8 * t) s ≡ list_bytes whole_bits cs → ((i : ℕ) → i < t → whole_bits (get_or cs i (pos 0)) < 2 ^ 64)
    → (i : ℕ) → i < t → le_at 8 (8 * i) s ≡ whole_bits (get_or cs i (pos 0))
code_read s t cs h e fits i l =
    let read = codes_read (λ (c : ℕ). c) s t cs h e fits in
    ap (λ (k : ℕ). le_at 8 (8 * k) s) (sym (zero-add i)) ∙ sym (list_from_at (λ i. le_at 8 (8 * i) s) t 0 i 0 l)
    ∙ ap (λ (ns : List ℕ). get_or ns i 0) read
    ∙ get_or-map whole_bits cs i (pos 0)

-- t codes, at the start of the second buffer
module _ {F : Form} {left right : List ℕ} (cs : List ℤ) (lie : CodesLie F left right cs) (t : ℕ) (size : length cs ≡ t) where
  pub codes_fit : (i : ℕ) → i < t → whole_bits (get_or cs i (pos 0)) < 2 ^ 64
  codes_fit i h =
      let c = whole_bits (get_or cs i (pos 0)) in
      let l = lie (get_or cs i (pos 0)) (at_member cs i (pos 0) (omega arith)) in
      omega (arith, l.lefts.small, l.rights.small, div-add-mod' c (2 ^ 32))

  pub codes_stand : (values : List ℕ) → 8 * t ≤ length values → take (8 * t) values ≡ list_bytes whole_bits cs → (i : ℕ) → i < t → JoinLies F left right (le_at 8 (8 * i) values)
  codes_stand values room e i h = subst (JoinLies F left right) (sym (code_read values t cs room e codes_fit i h)) (lie (get_or cs i (pos 0)) (at_member cs i (pos 0) (omega arith)))
