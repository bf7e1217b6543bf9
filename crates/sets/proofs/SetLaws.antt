-- Sets as digits.
--     in_union      a number is in a union if it is in one of the two
--     in_only       k alone is in its set
--     in_full       every number below 64 is in the full set
--     chosen_same   lists chosen by tests that agree
--     chosen_all    a test that every number of the list passes
--     chosen_full   the full set has all of them
-- Assumes nothing.
use mathlib.Core.Path.{◌≡◌, refl, sym, ap, ◌∙◌}
use mathlib.Core.Bool.{Bool, true, false, ◌||◌}
use mathlib.Core.List.{List, [], ◌∷◌}
use Prim.Native.Nat.{ℕ, zero, suc, ◌+◌, ◌-◌, ◌/◌, ◌%◌, ◌^◌, ◌≤◌, ◌<◌}
use native.Mathlib.Nat.{mod-lt, pow-suc, div-eq_of_lt}
use native.Mathlib.Omega.{arith}
use lib.Bits.{bit_or, or_shr, or_mod}
use lib.Dec.{eqb, ltb}
use lib.Pow.{pow-lt, pow-add, shl-shr, high, ones_split, ones_lt}
use borrow.Author.Tests.{ltb-true, ltb-false, ne_eqb, eq-eqb}
use Rattle.utilities.specs.Lists.{list_from}
use Rattle.sets.specs.Sets.{in_set, full_set, chosen}

digits : (x y : ℕ) → x < 2 → y < 2 → eqb (bit_or x y) 1 ≡ (eqb x 1 || eqb y 1)
digits zero zero h l = refl
digits zero (suc zero) h l = refl
digits (suc zero) zero h l = refl
digits (suc zero) (suc zero) h l = refl
digits zero (suc (suc y)) h l = absurd (omega arith)
digits (suc zero) (suc (suc y)) h l = absurd (omega arith)
digits (suc (suc x)) y h l = absurd (omega arith)

pub in_union : (a b k : ℕ) → in_set (bit_or a b) k ≡ (in_set a k || in_set b k)
in_union a b k =
    let two : 0 < 2 = omega arith in
    ap (λ (n : ℕ). eqb (n % 2) 1) (or_shr a b k)
    ∙ ap (λ (n : ℕ). eqb n 1) (or_mod (a / 2 ^ k) (b / 2 ^ k) 1)
    ∙ digits (a / 2 ^ k % 2) (b / 2 ^ k % 2) (mod-lt (a / 2 ^ k) two) (mod-lt (b / 2 ^ k) two)

-- a power of two, by its distance from another
pow_over : (k d : ℕ) → 2 ^ (k + d) / 2 ^ k ≡ 2 ^ d
pow_over k d = ap (λ (n : ℕ). n / 2 ^ k) (ap (λ (n : ℕ). 2 ^ n) (omega arith) ∙ pow-add 2 d k) ∙ shl-shr (2 ^ d) k

even : (d : ℕ) → 2 ^ suc d % 2 ≡ 0
even d = ap (λ (n : ℕ). n % 2) (pow-suc 2 d) ∙ omega arith

pub in_only : (i k : ℕ) → in_set (2 ^ i) k ≡ eqb i k
in_only i k = go (ltb i k) refl
  where
    above : (d : ℕ) → k + d ≡ i → in_set (2 ^ i) k ≡ eqb i k
    above zero e =
        let same : i ≡ k = omega arith in
        ap (λ (n : ℕ). in_set (2 ^ n) k) (sym e) ∙ ap (λ (n : ℕ). eqb (n % 2) 1) (pow_over k 0) ∙ sym (eq-eqb i k same)
    above (suc d) e =
        ap (λ (n : ℕ). in_set (2 ^ n) k) (sym e)
        ∙ ap (λ (n : ℕ). eqb (n % 2) 1) (pow_over k (suc d))
        ∙ ap (λ (n : ℕ). eqb n 1) (even d)
        ∙ sym (ne_eqb i k (λ (same : i ≡ k). omega arith))

    go : (t : Bool) → ltb i k ≡ t → in_set (2 ^ i) k ≡ eqb i k
    go true e =
        let h = ltb-true i k e in
        ap (λ (n : ℕ). eqb (n % 2) 1) (div-eq_of_lt (pow-lt h)) ∙ sym (ne_eqb i k (λ (same : i ≡ k). omega arith))
    go false e = let h = ltb-false i k e in above (i - k) (omega arith)

odd : (j : ℕ) → 0 < j → (2 ^ j - 1) % 2 ≡ 1
odd zero h = absurd (omega arith)
odd (suc j) h =
    let some : 0 < 2 ^ j = omega (arith, ones_lt j) in
    ap (λ (n : ℕ). (n - 1) % 2) (pow-suc 2 j) ∙ omega arith

pub in_full : (k : ℕ) → k < 64 → in_set full_set k ≡ true
in_full k h =
    let j = 64 - k in
    let whole : 64 ≡ j + k = omega arith in
    ap (λ (n : ℕ). eqb ((2 ^ n - 1) / 2 ^ k % 2) 1) whole
    ∙ ap (λ (n : ℕ). eqb (n / 2 ^ k % 2) 1) (ones_split j k)
    ∙ ap (λ (n : ℕ). eqb (n % 2) 1) (high (2 ^ j - 1) k (ones_lt k))
    ∙ ap (λ (n : ℕ). eqb n 1) (odd j (omega arith))

pub chosen_same : (test other : ℕ → Bool) → ((k : ℕ) → test k ≡ other k) → (ks : List ℕ) → chosen test ks ≡ chosen other ks
unfolding chosen
chosen_same test other e [] = refl
chosen_same test other e (k ∷ ks) = rw (e k, chosen_same test other e ks)

pub chosen_all : (test : ℕ → Bool) (n i : ℕ) → ((k : ℕ) → i ≤ k → k < i + n → test k ≡ true) → chosen test (list_from n i (λ k. k)) ≡ list_from n i (λ k. k)
unfolding chosen list_from
chosen_all test zero i h = refl
chosen_all test (suc n) i h = rw (h i (omega arith) (omega arith), chosen_all test n (i + 1) (λ k a b. h k (omega arith) (omega arith)))

pub chosen_full : (n i : ℕ) → i + n ≤ 64 → chosen (in_set full_set) (list_from n i (λ k. k)) ≡ list_from n i (λ k. k)
chosen_full n i h = chosen_all (in_set full_set) n i (λ k a b. in_full k (omega arith))
