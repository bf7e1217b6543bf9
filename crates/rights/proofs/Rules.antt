-- 02, S-7, sentence by sentence.
--     owners_leaf     a leaf's owners are its set
--     owners_step     "a step's owners are the union of its operands'"
--     inside_each     "the owners all lie in the reader's set": each of them does
--     each_inside     and where each of them does, they all do
--     no_owners       a node without owners is shown to everybody
--     five_owners     "or if the owners number five or more"
--     few_owners      a node of fewer owners, not all of them in the reader's set, is not shown
-- Assumes nothing.
use mathlib.Core.Path.{◌≡◌, refl, sym, ap, ap₂, ◌∙◌}
use mathlib.Core.Bool.{Bool, true, false, ◌||◌, or-true}
use mathlib.Core.List.{List}
use Prim.Native.Nat.{ℕ, zero, suc, ◌+◌, ◌*◌, ◌/◌, ◌%◌, ◌^◌, max, ◌≤◌, ◌<◌}
use native.Mathlib.Nat.{div-add-mod', div-one, mod-lt, pow-suc}
use native.Mathlib.Omega.{arith}
use lib.Bits.{bit_or, or_step}
use lib.Count.{ones}
use lib.Dec.{eqb, leb}
use lib.Pow.{shr-shr}
use borrow.Author.Tests.{eqb-true, eq-eqb, le-leb, lt-leb}
use Rattle.plan_form.specs.Form.{node_count, leaf_count, left_of, right_of, plan_fails}
use Rattle.sets.specs.Sets.{in_set}
use Rattle.sets.proofs.SetLaws.{in_union}
use Rattle.standing.proofs.Turns.{by_leaf, by_step}
use Rattle.rights.specs.Rights.{owner_set, owners_of, inside, fewest_shown, seen}

-- ---- owners

module _ (p owners : List ℕ) where
  pub owners_leaf : (k : ℕ) → k < leaf_count p → owners_of p owners k ≡ owner_set owners k
  owners_leaf k h = by_leaf p (owner_set owners) (λ i left right. bit_or left right) k h

  pub owners_step : (k : ℕ) → plan_fails p ≡ false → leaf_count p ≤ k → k < node_count p
      → owners_of p owners k ≡ bit_or (owners_of p owners (left_of p k)) (owners_of p owners (right_of p k))
  owners_step k passed later within = by_step p (owner_set owners) (λ i left right. bit_or left right) passed k later within

-- ---- the reader's set

pub inside_each : (a b r : ℕ) → inside a b ≡ true → in_set a r ≡ true → in_set b r ≡ true
inside_each a b r e h =
    sym (ap (λ (n : ℕ). in_set n r) (eqb-true (bit_or a b) b e)) ∙ in_union a b r ∙ ap (λ (t : Bool). t || in_set b r) h

-- the lowest digit, and the others
lowest : (a : ℕ) → in_set a 0 ≡ eqb (a % 2) 1
lowest a = ap (λ (n : ℕ). eqb (n % 2) 1) (div-one a)

above : (a r : ℕ) → in_set (a / 2) r ≡ in_set a (1 + r)
above a r = ap (λ (n : ℕ). eqb (n % 2) 1) (shr-shr a 1 r)

-- digits of which the second is 1 where the first is
higher : (x y : ℕ) → x < 2 → (eqb x 1 ≡ true → eqb y 1 ≡ true) → max x y ≡ y
higher zero y h e = omega arith
higher (suc zero) y h e = let one = eqb-true y 1 (e refl) in omega arith
higher (suc (suc x)) y h e = absurd (omega arith)

-- a set of n digits, all of them in another
union_all : (n a b : ℕ) → a < 2 ^ n → ((r : ℕ) → r < n → in_set a r ≡ true → in_set b r ≡ true) → bit_or a b ≡ b
union_all zero a b h f = let none : a ≡ 0 = omega arith in ap (λ (x : ℕ). bit_or x b) none
union_all (suc n) a b h f =
    let two : 0 < 2 = omega arith in
    let half : a / 2 < 2 ^ n = omega (arith, pow-suc 2 n) in
    let rest = union_all n (a / 2) (b / 2) half (λ r l e. above b r ∙ f (1 + r) (omega arith) (sym (above a r) ∙ e)) in
    let last = higher (a % 2) (b % 2) (mod-lt a two) (λ e. sym (lowest b) ∙ f 0 (omega arith) (lowest a ∙ e)) in
    or_step a b ∙ ap₂ (λ (x y : ℕ). x * 2 + y) rest last ∙ div-add-mod' b 2

pub each_inside : (a b : ℕ) → a < 2 ^ 64 → ((r : ℕ) → r < 64 → in_set a r ≡ true → in_set b r ≡ true) → inside a b ≡ true
each_inside a b h f = eq-eqb (bit_or a b) b (union_all 64 a b h f)

-- ---- what is shown

pub no_owners : (reader : ℕ) → seen 0 reader ≡ true
unfolding seen
no_owners reader = ap (λ (t : Bool). t || leb fewest_shown (ones 0)) (eq-eqb reader reader refl)

pub five_owners : (owners reader : ℕ) → fewest_shown ≤ ones owners → seen owners reader ≡ true
unfolding seen
five_owners owners reader h = ap (λ (t : Bool). inside owners reader || t) (le-leb fewest_shown (ones owners) h) ∙ or-true (inside owners reader)

pub few_owners : (owners reader : ℕ) → inside owners reader ≡ false → ones owners < fewest_shown → seen owners reader ≡ false
unfolding seen
few_owners owners reader e h = ap₂ ◌||◌ e (lt-leb fewest_shown (ones owners) h)
