-- An operand's lists: what its sheet has room for, list j category by category, and the list of a column. Assumes nothing.
use mathlib.Core.Path.{◌≡◌, sym, ap, subst, ◌∙◌}
use mathlib.Core.Bool.{cond}
use mathlib.Core.List.{List, [], ◌∷◌, map}
use Prim.Native.Nat.{ℕ, suc, ◌+◌, ◌-◌, ◌<◌, ◌≤◌}
use native.Mathlib.Nat.{sub-zero}
use native.Mathlib.Omega.{arith}
use lib.IntN.{ℤ}
use lib.ListN.{length, take, get_or, length-map, get_or-map}
use lib.Dec.{eqb}
use borrow.Author.Tests.{eq-eqb, ne_eqb}
use Rattle.numbers.specs.Kind.{eq_z}
use Rattle.utilities.specs.Lists.{noted, firsts_from, firsts}
use Rattle.utilities.specs.Noted.{Begins}
use Rattle.utilities.proofs.Built.{list_from_length, list_from_at}
use Rattle.utilities.proofs.Begins.{begins_none, begins_note}
use Rattle.base.specs.Form.{Form, group_count, list_count, category_count}
use Rattle.base.specs.Decode.{list_number, category_at, list_at, lists}
use Rattle.base.specs.Sized.{SizesIn, ListsFit}
use Rattle.base.specs.declared.Sizes.{Sizes}
use Rattle.base.proofs.Passed.{passed, sized, long_enough, lists_fit}
use Rattle.category_lists.specs.Columnwise.{Listed, pick}

module _ {F : Form} {s : List ℕ} (l : Listed F s) where
  pub listed_long : F.arrays_at ≤ length s
  listed_long = long_enough (passed F s l.passed)

  pub listed_within : list_count F s ≤ F.list_limit
  listed_within = (passed F s l.passed).lists_within

  pub listed_fits : {r : Sizes} → SizesIn F s r → ListsFit F s r.groups r.lists r.categories
  listed_fits a = lists_fit (sized F s l.passed a) l.no_range

module _ (F : Form) (s : List ℕ) where
  pub lists_length : {X : Type 0} (read : ℕ → X) → length (lists F s read) ≡ list_count F s
  unfolding lists
  lists_length read = list_from_length (λ j. list_at F s read (group_count F s) (category_count F s) j (category_count F s) 0) (list_count F s) 0

  lists_at : {X : Type 0} (read : ℕ → X) (j : ℕ) → j < list_count F s
      → get_or (lists F s read) j [] ≡ list_at F s read (group_count F s) (category_count F s) j (category_count F s) 0
  unfolding lists
  lists_at {X} read j h =
      let f : ℕ → List X = λ k. list_at F s read (group_count F s) (category_count F s) k (category_count F s) 0 in
      list_from_at f (list_count F s) 0 j [] h ∙ ap f (omega arith)

  -- the same, of the sizes that were read
  pub lists_from : {X : Type 0} (read : ℕ → X) {g n t : ℕ} (j : ℕ) → ListsFit F s g n t → j < list_count F s → get_or (lists F s read) j [] ≡ list_at F s read g t j (t - 0) 0
  lists_from read {g} {n} {t} j f h =
      lists_at read j h
      ∙ (λ i. list_at F s read (sym f.groups i) (sym f.categories i) j (sym f.categories i) 0)
      ∙ ap (λ (k : ℕ). list_at F s read g t j k 0) (sym (sub-zero t))

  -- list j, from category i on
  module _ {X : Type 0} (read : ℕ → X) (g t j i : ℕ) (h : i < t) where
    one_less : t - i ≡ suc (t - (i + 1))
    one_less = omega arith

    pub list_has : list_number F s g i ≡ j → list_at F s read g t j (t - i) i ≡ read (category_at F s g t i) ∷ list_at F s read g t j (t - (i + 1)) (i + 1)
    unfolding list_at
    list_has e = ap (λ (k : ℕ). list_at F s read g t j k i) one_less ∙ rw (eq-eqb (list_number F s g i) j e)

    pub list_skips : (list_number F s g i ≡ j → ⊥) → list_at F s read g t j (t - i) i ≡ list_at F s read g t j (t - (i + 1)) (i + 1)
    unfolding list_at
    list_skips e = ap (λ (k : ℕ). list_at F s read g t j k i) one_less ∙ rw (ne_eqb (list_number F s g i) j e)

  pub list_end : {X : Type 0} (read : ℕ → X) (g t j i : ℕ) → t ≤ i → list_at F s read g t j (t - i) i ≡ []
  unfolding list_at
  list_end read g t j i h = let z : t - i ≡ 0 = omega arith in ap (λ (k : ℕ). list_at F s read g t j k i) z

-- ---- values taken into a list without repeats

-- the whole is what stands in out and the rest, without repeats
pub record Taking (n : ℕ) (out₀ out rest whole : List ℤ) : Type 0 where
  pub begins : Begins (take n out) n out₀ out
  pub left : whole ≡ firsts_from eq_z (take n out) rest

pub taking_start : (out : List ℤ) {rest whole : List ℤ} → whole ≡ firsts eq_z rest → Taking 0 out out rest whole
unfolding firsts
taking_start out e = record { begins = begins_none out; left = e }

module _ {n : ℕ} {out₀ out rest whole : List ℤ} (a : Taking n out₀ out rest whole) where
  pub taking_same : {rest' : List ℤ} → rest ≡ rest' → Taking n out₀ out rest' whole
  taking_same e = record { begins = a.begins; left = a.left ∙ ap (firsts_from eq_z (take n out)) e }

  pub taking_note : {v x : ℤ} {rest' : List ℤ} {m : ℕ} {out' : List ℤ}
      → rest ≡ x ∷ rest' → v ≡ x → Begins (noted eq_z (take n out) v) m out out' → Taking m out₀ out' rest' whole
  unfolding firsts_from
  taking_note {v} {x} {rest'} {m} {out'} e read b =
      let c = begins_note a.begins read b in
      record {
        begins = subst (λ (l : List ℤ). Begins l m out₀ out') (sym c.start) c;
        left = a.left ∙ ap (firsts_from eq_z (take n out)) e ∙ ap (λ (l : List ℤ). firsts_from eq_z l rest') (sym c.start);
      }

  pub taking_done : rest ≡ [] → Begins whole n out₀ out
  unfolding firsts_from
  taking_done e =
      let same : take n out ≡ whole = sym (a.left ∙ ap (firsts_from eq_z (take n out)) e) in
      subst (λ (l : List ℤ). Begins l n out₀ out) same a.begins

-- ---- the list of a column

module _ {ℓ} {X : Type ℓ} (ls : List (List X)) (j : ℕ) where
  pub pick_only : length ls ≡ 1 → pick ls j ≡ get_or ls 0 []
  pick_only e = rw (eq-eqb (length ls) 1 e)

  pub pick_own : (length ls ≡ 1 → ⊥) → pick ls j ≡ get_or ls j []
  pick_own e = rw (ne_eqb (length ls) 1 e)

-- lists of other elements
pub pick_map : {X Y : Type 0} (f : X → Y) (ls : List (List X)) (j : ℕ) → pick (map (map f) ls) j ≡ map f (pick ls j)
pick_map f ls j =
    ap (λ (n : ℕ). get_or (map (map f) ls) (cond (eqb n 1) 0 j) []) (length-map ls (map f))
    ∙ get_or-map (map f) ls (cond (eqb (length ls) 1) 0 j) []
