-- List numbers that never fall.
--     previous     the number before number i; 0 before the first, so that a loop needs no branch for it
--     rises_is     one comparison tests whether a number falls
--     risen        where none falls, the last is the greatest: that all are below a limit is one test
-- Assumes nothing.
use Rattle.std.proofs.Common.{◌≡◌, ℕ, zero, suc, ◌+◌, ◌-◌, Bool, true, false, cond, not, ◌&&◌, ◌||◌, eqb, ltb, leb, sym, refl, ap, ◌∙◌, ap₂, zero-add, add-one, arith, ltb-true, le-ltb, lt-ltb, ne_eqb, leb-true}
use Rattle.base.specs.Checks.{holds_from}
use Rattle.base.proofs.Flags.{lt_not_le}
use Rattle.base.proofs.Holding.{holds_last}

not_none : (i : ℕ) → eqb (suc i) 0 ≡ false
not_none i = ne_eqb (suc i) 0 (λ z. omega arith)

back : (i : ℕ) → suc i - 1 ≡ i
back i = omega arith

module _ (number : ℕ → ℕ) where
  abbrev pub previous : ℕ → ℕ
  previous i = cond (eqb i 0) 0 (number (i - 1))

  -- number i is not below the one before it
  abbrev pub rises : ℕ → Bool
  rises i = eqb i 0 || leb (number (i - 1)) (number i)

  pub previous_next : (i : ℕ) → number i ≡ previous (i + 1)
  previous_next i = rw (add-one, not_none i, back i)

  pub rises_is : (i : ℕ) {l : ℕ} → l ≡ previous i → ltb (number i) l ≡ not (rises i)
  rises_is i e = ap (ltb (number i)) e ∙ go (eqb i 0)
    where
      go : (t : Bool) → ltb (number i) (cond t 0 (number (i - 1))) ≡ not (t || leb (number (i - 1)) (number i))
      go true = le-ltb (number i) 0 (omega arith)
      go false = lt_not_le (number i) (number (i - 1))

  -- numbers below n that never fall
  abbrev pub rising_below : ℕ → ℕ → Bool
  rising_below n i = ltb (number i) n && rises i

  -- how the last of t numbers is tested
  abbrev last_below : ℕ → ℕ → Bool
  last_below n t = eqb t 0 || ltb (previous t) n

  last_is : (n t : ℕ) → last_below n (suc t) ≡ ltb (number t) n
  last_is n t = rw (not_none t, back t)

  -- a number that does not fall and is below n has the one before it below n
  below : (n t : ℕ) → rises t ≡ true → ltb (number t) n ≡ true → last_below n t ≡ true
  below n zero r b = refl
  below n (suc t) r b =
      let l = leb-true (number t) (number (suc t)) (rw (not_none t, back t) at r) in
      let h = ltb-true (number (suc t)) n b in
      last_is n t ∙ lt-ltb (number t) n (omega arith)

  pub risen : (n t : ℕ) → (holds_from t 0 rises && last_below n t) ≡ holds_from t 0 (rising_below n)
  unfolding holds_from
  risen n zero = refl
  risen n (suc t) =
      ap₂ ◌&&◌ (taken rises) (last_is n t)
      ∙ sym (step (holds_from t 0 rises) (rises t) (ltb (number t) n) (last_below n t) (below n t))
      ∙ ap (λ (b : Bool). b && rising_below n t) (risen n t)
      ∙ sym (taken (rising_below n))
    where
      taken : (p : ℕ → Bool) → holds_from (suc t) 0 p ≡ (holds_from t 0 p && p t)
      taken p = holds_last p t 0 ∙ rw zero-add

      step : (a r b c : Bool) → (r ≡ true → b ≡ true → c ≡ true) → ((a && c) && (b && r)) ≡ ((a && r) && b)
      step false r b c h = refl
      step true true true c h = ap (λ (t : Bool). t && true) (h refl refl)
      step true true false true h = refl
      step true true false false h = refl
      step true false true true h = refl
      step true false true false h = refl
      step true false false true h = refl
      step true false false false h = refl
