-- When Divide adds nullity: a range by its entries, float categories by their values, in whichever list they stand. Assumes nothing.
use mathlib.Core.Path.{◌≡◌, refl, sym, ap, ap₂, ◌∙◌}
use mathlib.Core.Bool.{Bool, true, false, cond, not, ◌&&◌, ◌||◌, not-not}
use mathlib.Core.List.{List, [], ◌∷◌}
use Prim.Native.Nat.{ℕ, zero, suc, ◌+◌, ◌-◌, ◌≤◌, ◌<◌}
use native.Mathlib.Omega.{arith}
use lib.Dec.{eqb, leb, ltb}
use borrow.Author.Tests.{ltb-true, eqb-false}
use Rattle.utilities.specs.Lists.{list_from, every, any}
use Rattle.numbers.specs.Kind.{whole, float}
use Rattle.base.specs.Form.{Form, nature_at, byte_at, last_nature, group_count, list_count, category_count}
use Rattle.base.specs.Sheet.{Nature}
use Rattle.base.specs.Decode.{as_float, as_bits, list_number, category_at, list_at, prepended, entries, lists, nature_in}
use Rattle.base.specs.Bounds.{every_entry}
use Rattle.base.specs.Checks.{holds_from, number_permitted, value_permitted, lists_permitted, fields_fail}
use Rattle.base.proofs.Natures.{nature_absent, nature_whole_range, nature_float_range, nature_whole_lists, nature_bool_lists, nature_float_lists, nature_text_lists}
use Rattle.base.proofs.Permitted.{permitted, nature_within, lists_tested}
use Rattle.base.proofs.Holding.{holds_both, every_from}
use Rattle.base.proofs.Flags.{and_both}
use Rattle.bounds.specs.declared.Ask.TheVariants as A
use Rattle.shape.specs.Fields.{spans_zero, nan_or_zero, divisor_sets_nullity}
use Rattle.bounds.specs.Asked.{asked, value_apart}

-- ---- tests, number by number

pub any_not : {X : Type 0} (p : X → Bool) (xs : List X) → any p xs ≡ not (every (λ x. not (p x)) xs)
unfolding any every
any_not p [] = refl
any_not p (x ∷ xs) = go (p x) (any p xs) (every (λ x. not (p x)) xs) (any_not p xs)
  where
    go : (t a b : Bool) → a ≡ not b → cond t true a ≡ not (cond (not t) b false)
    go true a b e = refl
    go false a b e = e

holds_same : {p q : ℕ → Bool} → ((k : ℕ) → p k ≡ q k) → (n i : ℕ) → holds_from n i p ≡ holds_from n i q
unfolding holds_from
holds_same h zero i = refl
holds_same h (suc n) i = ap₂ ◌&&◌ (h i) (holds_same h n (i + 1))

holds_always : (n i : ℕ) → holds_from n i (λ k. true) ≡ true
unfolding holds_from
holds_always zero i = refl
holds_always (suc n) i = holds_always n (i + 1)

-- of the n numbers from a on one is m
fails_at : (n a m : ℕ) → a ≤ m → m < a + n → holds_from n a (λ j. cond (eqb m j) false true) ≡ false
unfolding holds_from
fails_at zero a m h k = absurd (omega arith)
fails_at (suc n) a m h k = go (eqb m a) refl (λ d. fails_at n (a + 1) m (omega arith) (omega arith))
  where
    go : (t : Bool) {r : Bool} → eqb m a ≡ t → ((m ≡ a → ⊥) → r ≡ false) → (cond t false true && r) ≡ false
    go true e f = refl
    go false e f = f (eqb-false m a e)

one_of : (n a m : ℕ) (u : Bool) → a ≤ m → m < a + n → holds_from n a (λ j. cond (eqb m j) u true) ≡ u
one_of n a m true h k = holds_same (λ j. go (eqb m j)) n a ∙ holds_always n a
  where
    go : (t : Bool) → cond t true true ≡ true
    go true = refl
    go false = refl
one_of n a m false h k = fails_at n a m h k

-- ---- the values of all lists

module _ (F : Form) (s : List ℕ) (g t n : ℕ) (p : ℕ → Bool) where
  -- value i is in another list than j, or passes
  abbrev elsewhere : ℕ → ℕ → Bool
  elsewhere j i = cond (eqb (list_number F s g i) j) (p (category_at F s g t i)) true

  list_from_lem : (j k i : ℕ) → every p (list_at F s as_bits g t j k i) ≡ holds_from k i (elsewhere j)
  unfolding every list_at holds_from
  list_from_lem j zero i = refl
  list_from_lem j (suc k) i =
      go (eqb (list_number F s g i) j) (category_at F s g t i) (list_at F s as_bits g t j k (i + 1)) (p (category_at F s g t i)) refl (list_from_lem j k (i + 1))
    where
      go : (b : Bool) (v : ℕ) (vs : List ℕ) (u : Bool) {r : Bool} → p v ≡ u → every p vs ≡ r → every p (prepended b v vs) ≡ (cond b (p v) true && r)
      go true v vs true h e = rw h e
      go true v vs false h e = rw h
      go false v vs u h e = e

  all_lists : (k i : ℕ) → holds_from k i (λ i. ltb (list_number F s g i) n) ≡ true
      → holds_from n 0 (λ j. holds_from k i (elsewhere j)) ≡ holds_from k i (λ i. p (category_at F s g t i))
  unfolding holds_from
  all_lists zero i h = holds_always n 0
  all_lists (suc k) i h =
      let here = ltb (list_number F s g i) n in
      let later = holds_from k (i + 1) (λ i. ltb (list_number F s g i) n) in
      let below : list_number F s g i < n = ltb-true (list_number F s g i) n (and_both here later h).0 in
      sym (holds_both (λ j. elsewhere j i) (λ j. holds_from k (i + 1) (elsewhere j)) n 0)
      ∙ ap₂ ◌&&◌ (one_of n 0 (list_number F s g i) (p (category_at F s g t i)) (omega arith) (omega arith)) (all_lists k (i + 1) (and_both here later h).1)

  pub every_list : holds_from t 0 (λ i. ltb (list_number F s g i) n) ≡ true
      → every (λ l. every p l) (list_from n 0 (λ j. list_at F s as_bits g t j t 0)) ≡ holds_from t 0 (λ i. p (category_at F s g t i))
  every_list h =
      every_from (λ l. every p l) (λ j. list_at F s as_bits g t j t 0) n 0
      ∙ holds_same (λ j. list_from_lem j t 0) n 0
      ∙ all_lists t 0 h

none_of : (ls : List (List ℕ)) → every (λ l. not (any nan_or_zero l)) ls ≡ every (λ l. every (λ v. not (nan_or_zero v)) l) ls
unfolding every
none_of [] = refl
none_of (l ∷ ls) =
    ap₂ (λ (a b : Bool). cond a b false) (ap not (any_not nan_or_zero l) ∙ not-not (every (λ v. not (nan_or_zero v)) l)) (none_of ls)

-- ---- by the nature's byte

module _ (F : Form) (s : List ℕ) where
  -- check 4 keeps the list numbers below n
  numbers_below :
      fields_fail F s ≡ false → byte_at F nature_at s ≡ 5
      → holds_from (category_count F s) 0 (λ i. ltb (list_number F s (group_count F s) i) (list_count F s)) ≡ true
  unfolding lists_permitted
  numbers_below h e =
      let t = category_count F s in
      let below : ℕ → Bool = λ i. ltb (list_number F s (group_count F s) i) (list_count F s) in
      let rising : ℕ → Bool = λ i. eqb i 0 || leb (list_number F s (group_count F s) (i - 1)) (list_number F s (group_count F s) i) in
      let number =
      (and_both (holds_from t 0 (number_permitted F s)) (holds_from t 0 (value_permitted F s))
      (holds_both (number_permitted F s) (value_permitted F s) t 0 ∙ lists_tested F s (permitted F s h).nature (rw e) (rw e))
      ).0 in
      (and_both (holds_from t 0 below) (holds_from t 0 rising) (holds_both below rising t 0 ∙ number)).0

  pub lists_set_nullity : fields_fail F s ≡ false → byte_at F nature_at s ≡ 5 → divisor_sets_nullity (nature_in F s) ≡ not (holds_from (category_count F s) 0 (value_apart F s))
  unfolding divisor_sets_nullity lists
  lists_set_nullity h e =
      let t = category_count F s in
      ap divisor_sets_nullity (nature_float_lists F s e)
      ∙ any_not (λ l. any nan_or_zero l) (lists F s as_bits)
      ∙ ap not (none_of (lists F s as_bits) ∙ every_list F s (group_count F s) t (list_count F s) (λ v. not (nan_or_zero v)) (numbers_below h e))

  pub range_sets_nullity : byte_at F nature_at s ≡ 2 → divisor_sets_nullity (nature_in F s) ≡ not (every_entry (asked whole A.Apart) (asked float A.Apart) (nature_in F s))
  unfolding divisor_sets_nullity every_entry
  range_sets_nullity e =
      let k = nature_float_range F s e in
      ap divisor_sets_nullity k
      ∙ any_not (λ r. spans_zero float r.lower r.upper) (entries F s as_float)
      ∙ sym (ap (λ (k : Nature). not (every_entry (asked whole A.Apart) (asked float A.Apart) k)) k)

  neither : (k : ℕ) → k ≤ last_nature → byte_at F nature_at s ≡ k → (k ≡ 2 → ⊥) → (k ≡ 5 → ⊥) → divisor_sets_nullity (nature_in F s) ≡ eqb k 0
  unfolding divisor_sets_nullity
  neither zero h e x y = ap divisor_sets_nullity (nature_absent F s e)
  neither (suc zero) h e x y = ap divisor_sets_nullity (nature_whole_range F s e)
  neither (suc (suc zero)) h e x y = absurd (x refl)
  neither (suc (suc (suc zero))) h e x y = ap divisor_sets_nullity (nature_whole_lists F s e)
  neither (suc (suc (suc (suc zero)))) h e x y = ap divisor_sets_nullity (nature_bool_lists F s e)
  neither (suc (suc (suc (suc (suc zero))))) h e x y = absurd (y refl)
  neither (suc (suc (suc (suc (suc (suc zero)))))) h e x y = ap divisor_sets_nullity (nature_text_lists F s e)
  neither (suc (suc (suc (suc (suc (suc (suc k))))))) h e x y = absurd (omega arith)

  -- of the other natures only the absent one
  pub else_sets_nullity : fields_fail F s ≡ false → (byte_at F nature_at s ≡ 2 → ⊥) → (byte_at F nature_at s ≡ 5 → ⊥)
      → divisor_sets_nullity (nature_in F s) ≡ eqb (byte_at F nature_at s) 0
  else_sets_nullity h x y = neither (byte_at F nature_at s) (nature_within F s (permitted F s h)) refl x y
