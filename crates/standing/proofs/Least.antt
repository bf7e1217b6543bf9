-- What a node stands on is the least set that holds the node and, with a step, its operands.
--     stands_leaf, stands_step    what a leaf stands on, and what a step does by its operands
--     stands_self                 a node stands on itself
--     stands_operands             with a step, on its operands
--     stands_least                on nothing else: a set that holds the node and, with a step, its operands holds all of it
--     stands_on_least             these three, of a node of a plan that passed 1
--     stands_below                it stands on no later node
--     stands_listed               the list `stands_on` has the nodes that it stands on, and no others
--     stands_ascending            in ascending order
--     stands_parts                its leaves, and then its steps
-- Assumes nothing.
use mathlib.Core.Path.{◌≡◌, refl, sym, ap, ap₂, subst, ◌∙◌}
use mathlib.Core.Bool.{Bool, true, false, cond, ◌&&◌, ◌||◌, and-false}
use mathlib.Core.List.{List, [], ◌∷◌, ◌++◌}
use Prim.Native.Nat.{ℕ, zero, suc, ◌+◌, ◌≤◌, ◌<◌}
use native.Mathlib.Omega.{arith}
use lib.Dec.{eqb, leb, ltb, leb-zero}
use borrow.Author.Tests.{ltb-true, ltb-false, eqb-true, eqb-false, eq-eqb, lt-ltb, le-ltb, leb-true, leb-false, le-leb, lt-leb}
use Rattle.utilities.specs.Lists.{list_from, every, has}
use Rattle.utilities.proofs.Built.{both_hold}
use Rattle.base.proofs.Flags.{either_way, and_both}
use Rattle.plan_form.specs.Form.{node_count, leaf_count, step_count, left_of, right_of, plan_fails}
use Rattle.plan_form.proofs.FormLaws.{planned, earlier}
use Rattle.sets.specs.Sets.{chosen}
use Rattle.standing.specs.Standing.{turns, stands, stands_on, walked_leaves, walked_steps}
use Rattle.standing.specs.Least.{Least, ascending}
use Rattle.standing.proofs.Turns.{by_leaf, by_step}

-- ---- a test by its cases

or_second : (t : Bool) {u : Bool} → u ≡ true → t || u ≡ true
or_second true e = refl
or_second false e = e

or_cases : {R : Type 0} (t u : Bool) → t || u ≡ true → (t ≡ true → R) → (u ≡ true → R) → R
or_cases true u e f g = f refl
or_cases false u e f g = g e

-- ---- any plan

module _ (p : List ℕ) where
  -- node k stands on node j, as far as n turns find
  abbrev found : ℕ → ℕ → ℕ → Bool
  found j n k = turns p (λ i. eqb i j) (λ i left right. eqb i j || (left || right)) n k

  found_self : (n k : ℕ) → found k n k ≡ true
  unfolding turns
  found_self zero k = eq-eqb k k refl
  found_self (suc n) k = rw (eq-eqb k k refl) (sym (either_way (ltb k (leaf_count p)) true))

  pub stands_self : (k : ℕ) → stands p k k ≡ true
  stands_self k = found_self k k

  module _ (Q : ℕ → Type 0) (closed : (j : ℕ) → leaf_count p ≤ j → Q j → Q (left_of p j) × Q (right_of p j)) where
    found_least : (j n k : ℕ) → Q k → found j n k ≡ true → Q j
    unfolding turns
    found_least j zero k q e = subst Q (eqb-true k j e) q
    found_least j (suc n) k q e = go (ltb k (leaf_count p)) refl e (found_least j n (left_of p k)) (found_least j n (right_of p k))
      where
        go : (t : Bool) → ltb k (leaf_count p) ≡ t → cond t (eqb k j) (eqb k j || (found j n (left_of p k) || found j n (right_of p k))) ≡ true
            → (Q (left_of p k) → found j n (left_of p k) ≡ true → Q j) → (Q (right_of p k) → found j n (right_of p k) ≡ true → Q j) → Q j
        go true l e left right = subst Q (eqb-true k j e) q
        go false l e left right =
            let both = closed k (ltb-false k (leaf_count p) l) q in
            or_cases (eqb k j) (found j n (left_of p k) || found j n (right_of p k)) e (λ h. subst Q (eqb-true k j h) q)
            (λ h. or_cases (found j n (left_of p k)) (found j n (right_of p k)) h (left both.0) (right both.1))

pub stands_least : (p : List ℕ) (Q : ℕ → Type 0) {k : ℕ} → Q k → ((j : ℕ) → leaf_count p ≤ j → Q j → Q (left_of p j) × Q (right_of p j)) → (j : ℕ) → stands p k j ≡ true → Q j
stands_least p Q {k} q closed j e = found_least p Q closed j k k q e

-- ---- a plan that passed 1

pub stands_leaf : (p : List ℕ) (k j : ℕ) → k < leaf_count p → stands p k j ≡ eqb k j
stands_leaf p k j h = by_leaf p (λ i. eqb i j) (λ i left right. eqb i j || (left || right)) k h

module _ (p : List ℕ) (passed : plan_fails p ≡ false) where
  pub stands_step : (k j : ℕ) → leaf_count p ≤ k → k < node_count p → stands p k j ≡ (eqb k j || (stands p (left_of p k) j || stands p (right_of p k) j))
  stands_step k j later within = by_step p (λ i. eqb i j) (λ i left right. eqb i j || (left || right)) passed k later within

  -- it is the node itself, or one that an operand stands on
  cases : {R : Type 0} (k j : ℕ) → k < node_count p → stands p k j ≡ true → (k ≡ j → R)
      → (leaf_count p ≤ k → left_of p k < k → stands p (left_of p k) j ≡ true → R) → (leaf_count p ≤ k → right_of p k < k → stands p (right_of p k) j ≡ true → R) → R
  cases {R} k j within e self left right = go (ltb k (leaf_count p)) refl
    where
      go : (t : Bool) → ltb k (leaf_count p) ≡ t → R
      go true l = self (eqb-true k j (sym (stands_leaf p k j (ltb-true k (leaf_count p) l)) ∙ e))
      go false l =
          let later = ltb-false k (leaf_count p) l in
          let early = earlier p k passed later within in
          or_cases (eqb k j) (stands p (left_of p k) j || stands p (right_of p k) j) (sym (stands_step k j later within) ∙ e) (λ h. self (eqb-true k j h))
          (λ h. or_cases (stands p (left_of p k) j) (stands p (right_of p k) j) h (left later early.0) (right later early.1))

  by_left : (k j : ℕ) → leaf_count p ≤ k → k < node_count p → stands p (left_of p k) j ≡ true → stands p k j ≡ true
  by_left k j later within h = stands_step k j later within ∙ or_second (eqb k j) (ap (λ (t : Bool). t || stands p (right_of p k) j) h)

  by_right : (k j : ℕ) → leaf_count p ≤ k → k < node_count p → stands p (right_of p k) j ≡ true → stands p k j ≡ true
  by_right k j later within h = stands_step k j later within ∙ or_second (eqb k j) (or_second (stands p (left_of p k) j) h)

  below_from : (n k j : ℕ) → k ≤ n → k < node_count p → stands p k j ≡ true → j ≤ k
  below_from zero k j a within e =
      cases k j within e (λ same. omega arith) (λ later early h. absurd (omega arith)) (λ later early h. absurd (omega arith))
  below_from (suc n) k j a within e =
      cases k j within e (λ same. omega arith)
      (λ later early h. let b = below_from n (left_of p k) j (omega arith) (omega arith) h in omega arith)
      (λ later early h. let b = below_from n (right_of p k) j (omega arith) (omega arith) h in omega arith)

  module _ (j : ℕ) (step : leaf_count p ≤ j) where
    abbrev Both : ℕ → Type 0
    Both k = (stands p k (left_of p j) ≡ true) × (stands p k (right_of p j) ≡ true)

    operands_self : (k : ℕ) → k < node_count p → k ≡ j → Both k
    operands_self k within same =
        let later : leaf_count p ≤ k = omega arith in
        let l = ap (left_of p) same in
        let r = ap (right_of p) same in
        (by_left k (left_of p j) later within (rw l (stands_self p (left_of p j))), by_right k (right_of p j) later within (rw r (stands_self p (right_of p j))))

    operands_from : (n k : ℕ) → k ≤ n → k < node_count p → stands p k j ≡ true → Both k
    operands_from zero k a within e =
        cases k j within e (operands_self k within) (λ later early h. absurd (omega arith)) (λ later early h. absurd (omega arith))
    operands_from (suc n) k a within e =
        cases k j within e (operands_self k within)
        (λ later early h.
        let both = operands_from n (left_of p k) (omega arith) (omega arith) h in
        (by_left k (left_of p j) later within both.0, by_left k (right_of p j) later within both.1))
        (λ later early h.
        let both = operands_from n (right_of p k) (omega arith) (omega arith) h in
        (by_right k (left_of p j) later within both.0, by_right k (right_of p j) later within both.1))

pub stands_operands : (p : List ℕ) {k j : ℕ} → plan_fails p ≡ false → k < node_count p → stands p k j ≡ true → leaf_count p ≤ j
    → (stands p k (left_of p j) ≡ true) × (stands p k (right_of p j) ≡ true)
stands_operands p {k} {j} passed within e step = operands_from p passed j step k k (omega arith) within e

pub stands_below : (p : List ℕ) {k j : ℕ} → plan_fails p ≡ false → k < node_count p → stands p k j ≡ true → j ≤ k
stands_below p {k} {j} passed within e = below_from p passed k k j (omega arith) within e

pub stands_on_least : {p : List ℕ} {k : ℕ} → plan_fails p ≡ false → k < node_count p → Least p k
stands_on_least {p} {k} passed within =
    record {
      self = stands_self p k;
      operands = λ e step. stands_operands p passed within e step;
      least = λ Q q closed j e. stands_least p Q q closed j e;
    }

-- ---- the list of these nodes

-- which numbers it has

among_chosen : (test : ℕ → Bool) (j : ℕ) (ks : List ℕ) → has eqb j (chosen test ks) ≡ (has eqb j ks && test j)
unfolding chosen has
among_chosen test j [] = refl
among_chosen test j (k ∷ ks) = go (eqb j k) refl (test k) refl (among_chosen test j ks)
  where
    go : (s : Bool) → eqb j k ≡ s → (t : Bool) → test k ≡ t → has eqb j (chosen test ks) ≡ (has eqb j ks && test j)
        → has eqb j (cond t (k ∷ chosen test ks) (chosen test ks)) ≡ ((s || has eqb j ks) && test j)
    go true e true t h = rw (e, ap test (eqb-true j k e), t)
    go true e false t h =
        let no' = ap test (eqb-true j k e) ∙ t in
        h ∙ ap (λ (u : Bool). has eqb j ks && u) no' ∙ and-false (has eqb j ks) ∙ sym no'
    go false e true t h = rw (e, h)
    go false e false t h = h

among_from : (n i j : ℕ) → has eqb j (list_from n i (λ k. k)) ≡ (leb i j && ltb j (i + n))
unfolding list_from has
among_from zero i j = go (leb i j) refl
  where
    go : (t : Bool) → leb i j ≡ t → false ≡ (t && ltb j (i + 0))
    go true e = let h = leb-true i j e in sym (le-ltb j (i + 0) (omega arith))
    go false e = refl
among_from (suc n) i j = go (eqb j i) refl (leb i j) refl (among_from n (i + 1) j)
  where
    go : (s : Bool) → eqb j i ≡ s → (t : Bool) → leb i j ≡ t → has eqb j (list_from n (i + 1) (λ k. k)) ≡ (leb (i + 1) j && ltb j (i + 1 + n))
        → (s || has eqb j (list_from n (i + 1) (λ k. k))) ≡ (t && ltb j (i + suc n))
    go true e true t h = let same = eqb-true j i e in sym (lt-ltb j (i + suc n) (omega arith))
    go true e false t h = let same = eqb-true j i e in let apart = leb-false i j t in absurd (omega arith)
    go false e true t h =
        let apart = eqb-false j i e in
        let later = leb-true i j t in
        h ∙ ap₂ ◌&&◌ (le-leb (i + 1) j (omega arith)) (ap (ltb j) (omega arith))
    go false e false t h = let below = leb-false i j t in h ∙ ap (λ (u : Bool). u && ltb j (i + 1 + n)) (lt-leb (i + 1) j (omega arith))

pub stands_listed : (p : List ℕ) (k j : ℕ) → has eqb j (stands_on p k) ≡ (ltb j (node_count p) && stands p k j)
stands_listed p k j =
    among_chosen (stands p k) j (list_from (node_count p) 0 (λ i. i))
    ∙ ap (λ (t : Bool). t && stands p k j) (among_from (node_count p) 0 j ∙ ap₂ ◌&&◌ (leb-zero j) (ap (ltb j) (omega arith)))

-- their order

every_chosen : (q test : ℕ → Bool) (ks : List ℕ) → every q ks ≡ true → every q (chosen test ks) ≡ true
unfolding chosen every
every_chosen q test [] e = refl
every_chosen q test (k ∷ ks) e =
    let b = both_hold (q k) (every q ks) e in
    let rest = every_chosen q test ks b.1 in
    go (test k) b.0 rest
  where
    go : (t : Bool) → q k ≡ true → every q (chosen test ks) ≡ true → every q (cond t (k ∷ chosen test ks) (chosen test ks)) ≡ true
    go true e h = rw (e, h)
    go false e h = h

ascending_chosen : (test : ℕ → Bool) (ks : List ℕ) → ascending ks ≡ true → ascending (chosen test ks) ≡ true
unfolding chosen ascending
ascending_chosen test [] e = refl
ascending_chosen test (k ∷ ks) e =
    let b = and_both (every (ltb k) ks) (ascending ks) e in
    let rest = ascending_chosen test ks b.1 in
    go (test k) (every_chosen (ltb k) test ks b.0) rest
  where
    go : (t : Bool) → every (ltb k) (chosen test ks) ≡ true → ascending (chosen test ks) ≡ true → ascending (cond t (k ∷ chosen test ks) (chosen test ks)) ≡ true
    go true e h = rw (e, h)
    go false e h = h

every_from : (k n i : ℕ) → k < i → every (ltb k) (list_from n i (λ j. j)) ≡ true
unfolding list_from every
every_from k zero i h = refl
every_from k (suc n) i h = rw (lt-ltb k i h, every_from k n (i + 1) (omega arith))

ascending_from : (n i : ℕ) → ascending (list_from n i (λ j. j)) ≡ true
unfolding list_from ascending
ascending_from zero i = refl
ascending_from (suc n) i = rw (every_from i n (i + 1) (omega arith), ascending_from n (i + 1))

pub stands_ascending : (p : List ℕ) (k : ℕ) → ascending (stands_on p k) ≡ true
stands_ascending p k = ascending_chosen (stands p k) (list_from (node_count p) 0 (λ j. j)) (ascending_from (node_count p) 0)

-- its leaves and its steps

chosen_append : (test : ℕ → Bool) (ks ls : List ℕ) → chosen test (ks ++ ls) ≡ chosen test ks ++ chosen test ls
unfolding chosen
chosen_append test [] ls = refl
chosen_append test (k ∷ ks) ls = go (test k) (chosen_append test ks ls)
  where
    go : (t : Bool) → chosen test (ks ++ ls) ≡ chosen test ks ++ chosen test ls
        → cond t (k ∷ chosen test (ks ++ ls)) (chosen test (ks ++ ls)) ≡ cond t (k ∷ chosen test ks) (chosen test ks) ++ chosen test ls
    go true h = ap (◌∷◌ k) h
    go false h = h

from_append : (n m i : ℕ) → list_from (n + m) i (λ j. j) ≡ list_from n i (λ j. j) ++ list_from m (i + n) (λ j. j)
unfolding list_from
from_append zero m i =
    let count : 0 + m ≡ m = omega arith in
    let start : i ≡ i + 0 = omega arith in
    ap₂ (λ (a b : ℕ). list_from a b (λ j. j)) count start
from_append (suc n) m i =
    let count : suc n + m ≡ suc (n + m) = omega arith in
    let start : i + 1 + n ≡ i + suc n = omega arith in
    ap (λ (a : ℕ). list_from a i (λ j. j)) count
    ∙ ap (◌∷◌ i) (from_append n m (i + 1) ∙ ap (λ (a : ℕ). list_from n (i + 1) (λ j. j) ++ list_from m a (λ j. j)) start)

pub stands_parts : (p : List ℕ) (k : ℕ) → plan_fails p ≡ false → stands_on p k ≡ walked_leaves p k ++ walked_steps p k
stands_parts p k passed =
    let all : node_count p ≡ leaf_count p + step_count p = omega (arith, (planned p passed).leaves) in
    let first : 0 + leaf_count p ≡ leaf_count p = omega arith in
    ap (chosen (stands p k))
    (ap (λ (n : ℕ). list_from n 0 (λ j. j)) all
    ∙ from_append (leaf_count p) (step_count p) 0
    ∙ ap (λ (n : ℕ). list_from (leaf_count p) 0 (λ j. j) ++ list_from (step_count p) n (λ j. j)) first)
    ∙ chosen_append (stands p k) (list_from (leaf_count p) 0 (λ j. j)) (list_from (step_count p) (leaf_count p) (λ j. j))
