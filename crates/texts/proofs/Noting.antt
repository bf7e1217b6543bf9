-- One join more in a store.
--     Grows, grows_length      what the code leaves of the store where a join is new: it stands behind the k, if there is room
--     joins_grow               the store's numbers stay joins
--     stored_known, stored_grow    the list that the store holds, over any equality
--     starts_stored            a list that the store has room for
--     Taking, taking-..        a list's values noted one by one
-- Assumes nothing.
use mathlib.Core.Path.{◌≡◌, refl, sym, ap, subst, ◌∙◌}
use mathlib.Core.Bool.{Bool, true, false}
use mathlib.Core.Logic.{◌⊎◌, inl, inr}
use mathlib.Core.List.{List, [], ◌∷◌, ◌++◌}
use Prim.Native.Nat.{ℕ, ◌+◌, ◌≤◌, ◌<◌}
use native.Mathlib.Numerals.{add-one}
use native.Mathlib.Omega.{arith}
use lib.IntN.{ℤ, pos}
use lib.ListN.{length, take, set, get_or, length-set, length-take}
use lib.Seq.{length-take-le, take-suc-set, get_or-set_same, get_or-set_other}
use lib.Dec.{eqb, ltb}
use borrow.Author.Tests.{eqb-true, eqb-false, ltb-true, ltb-false}
use Rattle.utilities.specs.Lists.{has, noted, firsts_from, firsts}
use Rattle.utilities.proofs.Firsts.{noted_known, noted_new, noted_length}
use Rattle.base.specs.Form.{Form}
use Rattle.base.specs.Encode.{whole_bits}
use Rattle.category_lists.specs.Answers.{Stored}
use Rattle.category_lists.proofs.Gathering.{stored_list, stored_noted, stored_full}
use Rattle.texts.specs.Joins.{JoinLies}
use Rattle.texts.specs.Code.{Starts, Joins}

abbrev pub Grows : ℤ → ℕ → List ℤ → List ℤ → Type 0
Grows x k store store' = ((k < length store) × (store' ≡ set store k x)) ⊎ ((length store ≤ k) × (store' ≡ store))

pub grows_length : (x : ℤ) (k : ℕ) {store store' : List ℤ} → Grows x k store store' → length store' ≡ length store
grows_length x k {store} (inl w) = ap length w.1 ∙ length-set store k x
grows_length x k (inr w) = ap length w.1

-- ---- what stands there are joins

module _ (F : Form) (left right : List ℕ) where
  lies_set : (x : ℤ) (k : ℕ) (store : List ℤ) → k < length store → Joins F left right k store → JoinLies F left right (whole_bits x) → Joins F left right (k + 1) (set store k x)
  lies_set x k store room all new i h l = go (eqb i k) refl
    where
      go : (b : Bool) → eqb i k ≡ b → JoinLies F left right (whole_bits (get_or (set store k x) i (pos 0)))
      go true e =
          let here : get_or (set store k x) i (pos 0) ≡ x = ap (λ (j : ℕ). get_or (set store k x) j (pos 0)) (eqb-true i k e) ∙ get_or-set_same store k x (pos 0) room in
          subst (λ (z : ℤ). JoinLies F left right (whole_bits z)) (sym here) new
      go false e =
          let other = eqb-false i k e in
          subst (λ (z : ℤ). JoinLies F left right (whole_bits z)) (sym (get_or-set_other store k i x (pos 0) other)) (all i (omega (arith, h, other)) (omega (arith, l, length-set store k x)))

  pub joins_grow : (x : ℤ) (k : ℕ) {store store' : List ℤ} → Grows x k store store' → Joins F left right k store → JoinLies F left right (whole_bits x) → Joins F left right (k + 1) store'
  joins_grow x k {store} (inl w) all new = subst (Joins F left right (k + 1)) (sym w.1) (lies_set x k store w.0 all new)
  joins_grow x k {store} (inr w) all new =
      let full : Joins F left right (k + 1) store = λ i h l. all i (omega (arith, l, w.0)) l in
      subst (Joins F left right (k + 1)) (sym w.1) full

-- ---- the list that it holds

module _ (same : ℤ → ℤ → Bool) {k : ℕ} {store seen : List ℤ} (s : Stored k store seen) (x : ℤ) (room : k ≤ length store) where
  pub stored_known : has same x (take k store) ≡ true → Stored k store (noted same seen x)
  stored_known e = stored_noted same s refl room (sym (noted_known same (take k store) x e)) room

  pub stored_grow : {store' : List ℤ} → has same x (take k store) ≡ false → Grows x k store store' → Stored (k + 1) store' (noted same seen x)
  stored_grow {store'} e (inl w) =
      let taken : take (k + 1) (set store k x) ≡ take k store ++ (x ∷ []) = ap (λ (n : ℕ). take n (set store k x)) (add-one k) ∙ take-suc-set store k x w.0 in
      let start : take (k + 1) store' ≡ noted same (take k store) x = ap (take (k + 1)) w.1 ∙ taken ∙ sym (noted_new same (take k store) x e) in
      stored_noted same s refl room start (omega (arith, w.0, grows_length x k {store = store} (inl w)))
  stored_grow e (inr w) = stored_full same s refl room (k + 1) (omega (arith, w.0)) e w.0 w.1

-- k is no more than there is room for
pub starts_stored : {k : ℕ} {store xs : List ℤ} → Stored k store xs → length xs ≤ length store → Starts xs k store
starts_stored {k} {store} {xs} s h = go (ltb (length store) k) refl
  where
    go : (b : Bool) → ltb (length store) k ≡ b → Starts xs k store
    go true e = absurd (omega (arith, s.exceeds (ltb-true (length store) k e), h))
    go false e =
        let room = ltb-false (length store) k e in
        record { count = sym (length-take-le k store room) ∙ ap length (s.holds room); start = s.holds room }

-- ---- a list's values, one by one

-- the whole is what stands in out and the rest, without repeats
pub record Taking (same : ℤ → ℤ → Bool) (n : ℕ) (out rest whole : List ℤ) : Type 0 where
  pub room : n ≤ length out
  pub left : whole ≡ firsts_from same (take n out) rest

pub taking_start : (same : ℤ → ℤ → Bool) (out : List ℤ) {rest whole : List ℤ} → whole ≡ firsts same rest → Taking same 0 out rest whole
unfolding firsts
taking_start same out e = record { room = omega arith; left = e }

module _ {same : ℤ → ℤ → Bool} {n : ℕ} {out rest whole : List ℤ} (a : Taking same n out rest whole) where
  pub taking_same : {rest' : List ℤ} → rest ≡ rest' → Taking same n out rest' whole
  taking_same e = record { room = a.room; left = a.left ∙ ap (firsts_from same (take n out)) e }

  -- one value more, where there is room for it
  pub taking_noted : (x : ℤ) {m : ℕ} {out' : List ℤ} → n < length out → length out' ≡ length out
      → ((seen : List ℤ) → Stored n out seen → Stored m out' (noted same seen x)) → Starts (noted same (take n out) x) m out'
  taking_noted x {m} {out'} h size note =
      let few = noted_length same (take n out) x in
      starts_stored (note (take n out) (stored_list out a.room)) (omega (arith, few, length-take-le n out a.room, h, size))

  pub taking_note : {x : ℤ} {rest' : List ℤ} {m : ℕ} {out' : List ℤ} → rest ≡ x ∷ rest' → Starts (noted same (take n out) x) m out' → Taking same m out' rest' whole
  unfolding firsts_from
  taking_note {x} {rest'} {m} {out'} e b =
      record {
        room = omega (arith, b.count, ap length b.start, length-take m out');
        left = a.left ∙ ap (firsts_from same (take n out)) e ∙ ap (λ (l : List ℤ). firsts_from same l rest') (sym b.start);
      }

  pub taking_done : rest ≡ [] → Starts whole n out
  unfolding firsts_from
  taking_done e =
      let all : take n out ≡ whole = sym (a.left ∙ ap (firsts_from same (take n out)) e) in
      record { count = sym (length-take-le n out a.room) ∙ ap length all; start = all }
