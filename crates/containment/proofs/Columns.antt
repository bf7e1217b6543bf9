-- A rule taken column by column: entry j of the answer is the rule's value at the operands' entries for column j. Assumes nothing.
use mathlib.Core.Path.{◌≡◌, refl, sym, ap, subst, ◌∙◌}
use mathlib.Core.Bool.{false, not}
use mathlib.Core.List.{List, [], ◌∷◌}
use mathlib.Core.Logic.{⊎_elim}
use mathlib.Core.Option.{Option, some}
use Prim.Native.Nat.{ℕ, zero, suc, ◌<◌}
use native.Mathlib.Omega.{arith}
use lib.ListN.{length, get_elem?, replicate}
use borrow.Author.Tests.{not-false}
use Rattle.numbers.specs.Result.{Result, ok, and_then, check, checked}
use Rattle.numbers.specs.Kind.{Span}
use Rattle.numbers.proofs.Results.{ok_same, then_ok_inv, checked_passed}
use Rattle.utilities.specs.Lists.{repeated}
use Rattle.utilities.specs.Columns.{spreads, each, each_pair}
use Rattle.utilities.proofs.Repeated.{one_or_each, repeated_full, repeated_length}
use Rattle.ends.specs.Ranges.{range_pair, range_alone}
use Rattle.derived.proofs.Each.{pair_length}
use Rattle.containment.specs.Demand.{entry_for, OneOrPerColumn}

-- ---- the entry for a column

pub entry_full {ℓ} : {X : Type ℓ} (xs : List X) (j : ℕ) → j < length xs → entry_for xs j ≡ get_elem? xs j
unfolding entry_for
entry_full [] j h = absurd (omega arith)
entry_full (x ∷ []) zero h = refl
entry_full (x ∷ []) (suc j) h = absurd (omega arith)
entry_full (x ∷ y ∷ xs) j h = refl

-- one entry is that of any column
pub entry_one {ℓ} : {X : Type ℓ} (xs : List X) (i j : ℕ) → length xs ≡ 1 → entry_for xs i ≡ entry_for xs j
unfolding entry_for
entry_one [] i j h = refl
entry_one (x ∷ []) i j h = refl
entry_one (x ∷ y ∷ xs) i j h = absurd (omega arith)

replicate_elem {ℓ} : {X : Type ℓ} (n : ℕ) (x : X) (j : ℕ) → j < n → get_elem? (replicate n x) j ≡ some x
replicate_elem zero x j h = absurd (omega arith)
replicate_elem (suc n) x zero h = refl
replicate_elem (suc n) x (suc j) h = replicate_elem n x j (omega arith)

module _ {ℓ} {X : Type ℓ} (columns : ℕ) where
  one_entry : (xs : List X) (j : ℕ) → length xs ≡ 1 → j < columns → get_elem? (repeated columns xs) j ≡ entry_for xs j
  unfolding repeated entry_for
  one_entry [] j h k = absurd (omega arith)
  one_entry (x ∷ []) j h k = replicate_elem columns x j k
  one_entry (x ∷ y ∷ xs) j h k = absurd (omega arith)

  pub repeated_entry : (xs : List X) (j : ℕ) → OneOrPerColumn xs columns → j < columns → get_elem? (repeated columns xs) j ≡ entry_for xs j
  repeated_entry xs j o k =
      ⊎_elim
      (λ (h : length xs ≡ 1). one_entry xs j h k)
      (λ (h : length xs ≡ columns). ap (λ (l : List X). get_elem? l j) (repeated_full columns xs h) ∙ sym (entry_full xs j (omega arith)))
      o

-- ---- the rule at one column, and at all

pub record Column {X Y : Type 0} (rule : X → X → Result Y) (ex ey : Option X) (ez : Option Y) : Type 0 where
  pub left : X
  pub right : X
  pub value : Y
  pub is_left : ex ≡ some left
  pub is_right : ey ≡ some right
  pub is_value : ez ≡ some value
  pub holds : rule left right ≡ ok value

pub record Columnwise {X Y : Type 0} (rule : X → X → Result Y) (columns : ℕ) (xs ys : List X) (zs : List Y) : Type 0 where
  pub many : length zs ≡ columns
  pub at : (j : ℕ) → j < columns → Column rule (entry_for xs j) (entry_for ys j) (entry_for zs j)

-- what the rule keeps, its column keeps
pub column_keeps : {X Y : Type 0} {rule : X → X → Result Y} {ex ey : Option X} {ez : Option Y} (P Q : Option X → Type 0) (R : Option Y → Type 0)
    → ((x y : X) (z : Y) → rule x y ≡ ok z → P (some x) → Q (some y) → R (some z)) → Column rule ex ey ez → P ex → Q ey → R ez
column_keeps P Q R law c p q =
    subst R (sym c.is_value) (law c.left c.right c.value c.holds (subst P c.is_left p) (subst Q c.is_right q))

module _ {X Y : Type 0} (rule : X → X → Result Y) where
  pairs_at : (us vs : List X) {zs : List Y} → each_pair rule us vs ≡ ok zs → length us ≡ length vs
      → (j : ℕ) → j < length us → Column rule (get_elem? us j) (get_elem? vs j) (get_elem? zs j)
  unfolding each_pair
  pairs_at [] vs e h j k = absurd (omega arith)
  pairs_at (u ∷ us) [] e h j k = absurd (omega arith)
  pairs_at (u ∷ us) (v ∷ vs) {zs} e h zero k =
      let s = then_ok_inv (rule u v) _ e in
      let t = then_ok_inv (each_pair rule us vs) _ s.after in
      record {
        left = u;
        right = v;
        value = s.value;
        is_left = refl;
        is_right = refl;
        is_value = sym (ap (λ (l : List Y). get_elem? l 0) (ok_same t.after));
        holds = s.is;
      }
  pairs_at (u ∷ us) (v ∷ vs) {zs} e h (suc j) k =
      let s = then_ok_inv (rule u v) _ e in
      let t = then_ok_inv (each_pair rule us vs) _ s.after in
      let r = pairs_at us vs t.is (omega arith) j (omega arith) in
      record {
        left = r.left;
        right = r.right;
        value = r.value;
        is_left = r.is_left;
        is_right = r.is_right;
        is_value = sym (ap (λ (l : List Y). get_elem? l (suc j)) (ok_same t.after)) ∙ r.is_value;
        holds = r.holds;
      }

  -- lists of one entry spread
  pub spread_columns : (columns : ℕ) (xs ys : List X) {zs : List Y} → OneOrPerColumn xs columns → OneOrPerColumn ys columns
      → each_pair rule (repeated columns xs) (repeated columns ys) ≡ ok zs → Columnwise rule columns xs ys zs
  spread_columns columns xs ys {zs} o p e =
      let m = repeated_length columns xs o in
      let n = repeated_length columns ys p in
      let k = pair_length rule (repeated columns xs) (repeated columns ys) e in
      let l : length zs ≡ columns = omega arith in
      record { many = l; at = λ j h. at j h l m n }
    where
      at : (j : ℕ) → j < columns → length zs ≡ columns → length (repeated columns xs) ≡ columns → length (repeated columns ys) ≡ columns
          → Column rule (entry_for xs j) (entry_for ys j) (entry_for zs j)
      at j h l m n =
          let r = pairs_at (repeated columns xs) (repeated columns ys) e (omega arith) j (omega arith) in
          record {
            left = r.left;
            right = r.right;
            value = r.value;
            is_left = sym (repeated_entry columns xs j o h) ∙ r.is_left;
            is_right = sym (repeated_entry columns ys j p h) ∙ r.is_right;
            is_value = entry_full zs j (omega arith) ∙ r.is_value;
            holds = r.holds;
          }

  -- one operand taken as both
  pub each_twice : (us : List X) → each (λ u. rule u u) us ≡ each_pair rule us us
  unfolding each each_pair
  each_twice [] = refl
  each_twice (u ∷ us) = ap (λ (g : Result (List Y)). and_then (rule u u) (λ z. and_then g (λ zs. ok (z ∷ zs)))) (each_twice us)

-- ---- ranges, whose lists 18 has passed

spread_passed {ℓ} : {X : Type ℓ} (columns : ℕ) (xs : List X) → not (spreads columns (length xs)) ≡ false → OneOrPerColumn xs columns
spread_passed columns xs e = one_or_each columns (length xs) (not-false (spreads columns (length xs)) e)

module _ {E : Type 0} (rule : Span E → Span E → Result (Span E)) (columns : ℕ) where
  pub range_columns : (xs ys : List (Span E)) {zs : List (Span E)} → range_pair rule columns xs ys ≡ ok zs → Columnwise rule columns xs ys zs
  unfolding range_pair checked
  range_columns xs ys e =
      let p = checked_passed (check 18 (not (spreads columns (length xs)))) (check 18 (not (spreads columns (length ys))) ∷ []) _ e in
      let q = checked_passed (check 18 (not (spreads columns (length ys)))) [] _ p.1 in
      spread_columns rule columns xs ys (spread_passed columns xs p.0) (spread_passed columns ys q.0) q.1

  pub alone_columns : (xs : List (Span E)) {zs : List (Span E)} → range_alone rule columns xs ≡ ok zs → Columnwise rule columns xs xs zs
  unfolding range_alone checked
  alone_columns xs e =
      let p = checked_passed (check 18 (not (spreads columns (length xs)))) [] (each (λ x. rule x x) (repeated columns xs)) e in
      let o = spread_passed columns xs p.0 in
      spread_columns rule columns xs xs o o (sym (each_twice rule (repeated columns xs)) ∙ p.1)
