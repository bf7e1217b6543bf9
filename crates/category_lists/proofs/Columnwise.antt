-- Lists column by column: combined and mapped lists as `each_from` of their columns. Assumes nothing.
use mathlib.Core.Path.{◌≡◌, refl, sym, ap, ap₂, ◌∙◌}
use mathlib.Core.Bool.{Bool, true, false, cond}
use mathlib.Core.List.{List, [], ◌∷◌, ◌++◌, append_assoc, append-nil}
use mathlib.Core.Logic.{⊎_elim}
use Prim.Native.Nat.{ℕ, zero, suc, ◌+◌, ◌-◌, ◌<◌, ◌≤◌, min}
use native.Mathlib.Nat.{add-zero}
use native.Mathlib.Omega.{arith}
use lib.IntN.{ℤ}
use lib.ListN.{length, get_or, length-map, length-replicate}
use lib.Dec.{eqb}
use borrow.Author.Tests.{eqb-true, ne_eqb}
use Rattle.numbers.specs.Result.{Result, ok, refused, and_then}
use Rattle.numbers.specs.Kind.{eq_z}
use Rattle.utilities.specs.Lists.{firsts, repeated, standardized}
use Rattle.utilities.specs.Columns.{each, each_pair}
use Rattle.utilities.proofs.Repeated.{standardized_one, standardized_at}
use Rattle.base.specs.Form.{Form, list_count}
use Rattle.base.specs.Decode.{as_whole, lists}
use Rattle.base.specs.declared.Component.{Component}
use Rattle.category_lists.specs.Categories.{product, combined, image, mapped, rule_of}
use Rattle.category_lists.specs.Columnwise.{Alike, each_from, behind, pick, spread_of, lesser_of, column_of}
use Rattle.category_lists.proofs.Operands.{lists_length, pick_only, pick_own}

-- ---- the lesser of two counts

pub lesser_is : (a b : ℕ) → min a b ≡ lesser_of a b
unfolding lesser_of
lesser_is zero b = omega arith
lesser_is (suc a) zero = omega arith
lesser_is (suc a) (suc b) = omega (arith, lesser_is a b)

lesser_below : (a b : ℕ) → (lesser_of a b ≤ a) × (lesser_of a b ≤ b)
lesser_below a b = (omega (arith, lesser_is a b), omega (arith, lesser_is a b))

-- n of the columns that m lists have
pub columns_within_lem : {k : ℕ} (columns m n : ℕ) → n ≤ spread_of columns m → columns ≤ k → m ≤ k → ((m ≡ 1 → ⊥) → n ≤ m) × (n ≤ k)
columns_within_lem {k} columns m n h c l = go (eqb m 1) refl h
  where
    go : (b : Bool) → eqb m 1 ≡ b → n ≤ cond b columns m → ((m ≡ 1 → ⊥) → n ≤ m) × (n ≤ k)
    go true e h = (λ other. absurd (other (eqb-true m 1 e)), omega arith)
    go false e h = (λ other. h, omega arith)

-- two operands' lists go together as far as the lesser of their columns, of which the code reads the two list counts ..
pub columns_counted : (columns l r : ℕ) {l₀ r₀ a b n : ℕ} → a ≡ spread_of columns l₀ → l₀ ≡ l → b ≡ spread_of columns r₀ → r₀ ≡ r → n ≡ lesser_of a b
    → n ≡ lesser_of (spread_of columns l) (spread_of columns r)
columns_counted columns l r left lefts right rights least = least ∙ ap₂ lesser_of (left ∙ ap (spread_of columns) lefts) (right ∙ ap (spread_of columns) rights)

-- .. and both operands have lists for them
pub columns_reached : {k : ℕ} (columns l r n : ℕ) → n ≡ lesser_of (spread_of columns l) (spread_of columns r) → columns ≤ k → l ≤ k → r ≤ k
    → ((l ≡ 1 → ⊥) → n ≤ l) × ((r ≡ 1 → ⊥) → n ≤ r) × (n ≤ k)
columns_reached columns l r n e few left right =
    let below = lesser_below (spread_of columns l) (spread_of columns r) in
    let lefts = columns_within_lem columns l n (omega (arith, e, below.0)) few left in
    let rights = columns_within_lem columns r n (omega (arith, e, below.1)) few right in
    (lefts.0, rights.0, lefts.1)

-- ---- rules by columns

joins : {Y : Type 0} → Result Y → Result (List Y) → Result (List Y)
joins g gs = and_then g (λ z. and_then gs (λ zs. ok (z ∷ zs)))

module _ {Y : Type 0} where
  pub behind_none : (g : Result (List Y)) → g ≡ behind [] g
  behind_none (ok zs) = refl
  behind_none (refused k) = refl

  pub behind_end : (done : List Y) → behind done (ok []) ≡ ok done
  behind_end done = ap ok (append-nil done)

  joined_behind : (done : List Y) (z : Y) (gs : Result (List Y)) → behind done (joins (ok z) gs) ≡ behind (done ++ (z ∷ [])) gs
  unfolding joins
  joined_behind done z (ok zs) = ap ok (sym (append_assoc done (z ∷ []) zs))
  joined_behind done z (refused k) = refl

  -- one value more, of a rule by numbers
  module _ (f : ℕ → Result Y) (n j : ℕ) (done : List Y) (h : j < n) where
    one_less : n - j ≡ suc (n - (j + 1))
    one_less = omega arith

    pub from_ok : {z : Y} → f j ≡ ok z → behind done (each_from f (n - j) j) ≡ behind (done ++ (z ∷ [])) (each_from f (n - (j + 1)) (j + 1))
    unfolding each_from joins
    from_ok {z} e =
        ap (λ (k : ℕ). behind done (each_from f k j)) one_less
        ∙ ap (λ (g : Result Y). behind done (joins g (each_from f (n - (j + 1)) (j + 1)))) e
        ∙ joined_behind done z (each_from f (n - (j + 1)) (j + 1))

    pub from_bad : {k : ℕ} → f j ≡ refused k → behind done (each_from f (n - j) j) ≡ refused k
    unfolding each_from joins
    from_bad e =
        ap (λ (k : ℕ). behind done (each_from f k j)) one_less
        ∙ ap (λ (g : Result Y). behind done (joins g (each_from f (n - (j + 1)) (j + 1)))) e

  pub from_end : (f : ℕ → Result Y) (n j : ℕ) (done : List Y) → n ≤ j → behind done (each_from f (n - j) j) ≡ ok done
  unfolding each_from
  from_end f n j done h = let z : n - j ≡ 0 = omega arith in ap (λ (k : ℕ). behind done (each_from f k j)) z ∙ behind_end done

  pub from_same : (f g : ℕ → Result Y) (n i : ℕ) → ((k : ℕ) → f k ≡ g k) → each_from f n i ≡ each_from g n i
  unfolding each_from joins
  from_same f g zero i h = refl
  from_same f g (suc n) i h = ap₂ joins (h i) (from_same f g n (i + 1) h)

module _ {X Y : Type 0} (d : X) (f : ℕ → Result Y) where
  pub from_pairs : (rule : X → X → Result Y) (xs ys : List X) (i : ℕ)
      → ((k : ℕ) → k < lesser_of (length xs) (length ys) → f (i + k) ≡ rule (get_or xs k d) (get_or ys k d))
      → each_from f (lesser_of (length xs) (length ys)) i ≡ each_pair rule xs ys
  unfolding each_from each_pair lesser_of joins
  from_pairs rule [] ys i h = refl
  from_pairs rule (x ∷ xs) [] i h = refl
  from_pairs rule (x ∷ xs) (y ∷ ys) i h =
      ap₂ joins
      (ap f (sym (add-zero i)) ∙ h 0 (omega arith))
      (from_pairs rule xs ys (i + 1) (λ k l. ap f (omega arith) ∙ h (suc k) (omega arith)))

  pub from_each : (rule : X → Result Y) (xs : List X) (i : ℕ)
      → ((k : ℕ) → k < length xs → f (i + k) ≡ rule (get_or xs k d))
      → each_from f (length xs) i ≡ each rule xs
  unfolding each_from each joins
  from_each rule [] i h = refl
  from_each rule (x ∷ xs) i h =
      ap₂ joins
      (ap f (sym (add-zero i)) ∙ h 0 (omega arith))
      (from_each rule xs (i + 1) (λ k l. ap f (omega arith) ∙ h (suc k) (omega arith)))

-- ---- lists made ready for the columns

module _ {X : Type 0} (same : X → X → Bool) (columns : ℕ) where
  pub standardized_length : (ls : List (List X)) → length (standardized same columns ls) ≡ spread_of columns (length ls)
  unfolding standardized repeated
  standardized_length [] = refl
  standardized_length (l ∷ []) = length-replicate columns (firsts same l)
  standardized_length (l ∷ m ∷ ls) =
      rw (ne_eqb (suc (suc (length ls))) 1 (λ e. omega arith)) (ap (λ (n : ℕ). suc (suc n)) (length-map ls (firsts same)))

  pub standardized_pick : (ls : List (List X)) (j : ℕ) → j < spread_of columns (length ls) → get_or (standardized same columns ls) j [] ≡ firsts same (pick ls j)
  standardized_pick [] j h = standardized_at same columns [] j (λ (e : 0 ≡ 1). omega arith)
  standardized_pick (l ∷ []) j h = standardized_one same columns l j [] h
  standardized_pick (l ∷ m ∷ ls) j h = standardized_at same columns (l ∷ m ∷ ls) j (λ e. omega arith) ∙ ap (firsts same) (sym (pick_own (l ∷ m ∷ ls) j (λ e. omega arith)))

-- two operands' lists, column by column
pub pairs_are : {X Y : Type 0} (same : X → X → Bool) (rule : List X → List X → Result Y) (columns : ℕ) (ls ms : List (List X)) (n : ℕ)
    → n ≡ lesser_of (spread_of columns (length ls)) (spread_of columns (length ms))
    → each_from (λ j. rule (firsts same (pick ls j)) (firsts same (pick ms j))) n 0 ≡ each_pair rule (standardized same columns ls) (standardized same columns ms)
pairs_are {X} {Y} same rule columns ls ms n e =
    let us = standardized same columns ls in
    let bs = standardized same columns ms in
    let f : ℕ → Result Y = λ j. rule (firsts same (pick ls j)) (firsts same (pick ms j)) in
    let l = standardized_length same columns ls in
    let m = standardized_length same columns ms in
    let below = lesser_below (length us) (length bs) in
    ap (λ (k : ℕ). each_from f k 0) (e ∙ sym (ap₂ lesser_of l m))
    ∙ from_pairs [] f rule us bs 0
    (λ k h.
    let a : k < spread_of columns (length ls) = omega (arith, below.0) in
    let b : k < spread_of columns (length ms) = omega (arith, below.1) in
    ap f (omega arith) ∙ sym (ap₂ rule (standardized_pick same columns ls k a) (standardized_pick same columns ms k b)))

module _ {X : Type 0} (same : X → X → Bool) (rule : X → X → Result X) (columns : ℕ) (ls ms : List (List X)) (n : ℕ) where
  pub combined_is : n ≡ lesser_of (spread_of columns (length ls)) (spread_of columns (length ms)) → each_from (column_of false same rule ls ms) n 0 ≡ combined same rule columns ls ms
  unfolding combined column_of
  combined_is e = pairs_are same (product same rule) columns ls ms n e

  pub mapped_is : n ≡ spread_of columns (length ls) → each_from (column_of true same rule ls ms) n 0 ≡ mapped same rule columns ls
  unfolding mapped column_of
  mapped_is e =
      let us = standardized same columns ls in
      let l = standardized_length same columns ls in
      ap (λ (k : ℕ). each_from (column_of true same rule ls ms) k 0) (e ∙ sym l)
      ∙ from_each [] (column_of true same rule ls ms) (image same rule) us 0
      (λ k h.
      let a : k < spread_of columns (length ls) = omega arith in
      ap (column_of true same rule ls ms) (omega arith) ∙ sym (ap (image same rule) (standardized_pick same columns ls k a)))

-- the columns from j up to end are all column j, for whatever is made of the two operands' lists
pub alike : {X Y : Type 0} (made : List X → List X → Result Y) (F : Form) (left right : List ℕ) (read : ℕ → X) (j end : ℕ) {y : Y} → Alike F left right j end
    → made (pick (lists F left read) j) (pick (lists F right read) j) ≡ ok y
    → (i : ℕ) → j ≤ i → i < end → made (pick (lists F left read) i) (pick (lists F right read) i) ≡ ok y
alike {X} made F left right read j end a column i from to =
    ⊎_elim
    (λ (e : end ≡ j + 1). let same : i ≡ j = omega arith in rw same column)
    (λ (e : (list_count F left ≡ 1) × (list_count F right ≡ 1)). ap₂ made (one left e.0) (one right e.1) ∙ column)
    a
  where
    one : (s : List ℕ) → list_count F s ≡ 1 → pick (lists F s read) i ≡ pick (lists F s read) j
    one s e = let n = lists_length F s read ∙ e in pick_only (lists F s read) i n ∙ sym (pick_only (lists F s read) j n)

-- column j of the operands' sheets, by a component's rule
abbrev pub column_in : Bool → Component → Form → List ℕ → List ℕ → ℕ → Result (List ℤ)
column_in alone c F left right = column_of alone eq_z (rule_of c) (lists F left as_whole) (lists F right as_whole)

pub column_alike : (alone : Bool) (c : Component) (F : Form) (left right : List ℕ) (j end : ℕ) {xs : List ℤ} → Alike F left right j end
    → column_in alone c F left right j ≡ ok xs → (i : ℕ) → j ≤ i → i < end → column_in alone c F left right i ≡ ok xs
unfolding column_of
column_alike true c F left right = alike (λ l m. image eq_z (rule_of c) (firsts eq_z l)) F left right as_whole
column_alike false c F left right = alike (λ l m. product eq_z (rule_of c) (firsts eq_z l) (firsts eq_z m)) F left right as_whole
