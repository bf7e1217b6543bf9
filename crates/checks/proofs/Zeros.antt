-- Bytes that are all zero, tested as one number.
--     zeros          n bytes from a place on
--     zeros_behind   the bytes behind the lowest of a number
--     holds_moved    a test at places that are all moved by as much
-- Assumes nothing.
use mathlib.Core.Path.{◌≡◌, refl, sym, ap, ◌∙◌}
use mathlib.Core.Bool.{Bool, ◌&&◌}
use mathlib.Core.List.{List}
use Prim.Native.Nat.{ℕ, zero, suc, ◌+◌, ◌*◌, ◌<◌}
use native.Mathlib.Omega.{arith}
use lib.ListN.{get_or}
use lib.Dec.{eqb, ltb, eqb-suc-zero}
use borrow.Author.Tests.{ne_eqb, lt-ltb, le-ltb}
use Rattle.octets.specs.Le.{le_at}
use Rattle.base.specs.Checks.{holds_from}

-- a number is 0 where its lowest byte and the rest are
digits_zero : (a b : ℕ) → eqb (a + 256 * b) 0 ≡ (eqb a 0 && eqb b 0)
digits_zero zero zero = refl
digits_zero zero (suc b) = ne_eqb (0 + 256 * suc b) 0 (λ e. omega arith) ∙ sym (eqb-suc-zero b)
digits_zero (suc a) b = ne_eqb (suc a + 256 * b) 0 (λ e. omega arith) ∙ sym (ap (λ (t : Bool). t && eqb b 0) (eqb-suc-zero a))

-- a number is below 256 where all but its lowest byte is 0
digits_small : (a b : ℕ) → a < 256 → ltb (a + 256 * b) 256 ≡ eqb b 0
digits_small a zero h = lt-ltb (a + 256 * 0) 256 (omega arith)
digits_small a (suc b) h = le-ltb (a + 256 * suc b) 256 (omega arith) ∙ sym (eqb-suc-zero b)

module _ (s : List ℕ) where
  pub zeros : (n at : ℕ) → eqb (le_at n at s) 0 ≡ holds_from n at (λ k. eqb (get_or s k 0) 0)
  unfolding le_at holds_from
  zeros zero at = refl
  zeros (suc n) at = digits_zero (get_or s at 0) (le_at n (at + 1) s) ∙ ap (λ (t : Bool). eqb (get_or s at 0) 0 && t) (zeros n (at + 1))

  pub zeros_behind : (n at : ℕ) → get_or s at 0 < 256 → ltb (le_at (suc n) at s) 256 ≡ holds_from n (at + 1) (λ k. eqb (get_or s k 0) 0)
  unfolding le_at
  zeros_behind n at h = digits_small (get_or s at 0) (le_at n (at + 1) s) h ∙ zeros n (at + 1)

pub holds_moved : (p : ℕ → Bool) (d n i : ℕ) → holds_from n i (λ k. p (k + d)) ≡ holds_from n (i + d) p
unfolding holds_from
holds_moved p d zero i = refl
holds_moved p d (suc n) i =
    let next : i + 1 + d ≡ i + d + 1 = omega arith in
    ap (λ (t : Bool). p (i + d) && t) (holds_moved p d n (i + 1) ∙ ap (λ (k : ℕ). holds_from n k p) next)
