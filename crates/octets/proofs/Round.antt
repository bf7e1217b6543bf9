-- Reading what was written.
--     le_at_cong       the number depends on its own bytes alone
--     le_at_shift      the number does not depend on what lies before it
--     le_at_le_bytes    the bytes of a number read back
--     number_back     the same, behind any bytes, of a number that the width holds
-- Assumes nothing.
use mathlib.Core.Path.{◌≡◌, refl, sym, ap, ◌∙◌}
use mathlib.Core.List.{List, [], ◌∷◌, ◌++◌}
use Prim.Native.Nat.{ℕ, zero, suc, ◌+◌, ◌/◌, ◌%◌, ◌^◌, ◌<◌}
use native.Mathlib.Nat.{add-zero, mod-one, mod-eq_of_lt}
use native.Mathlib.Omega.{arith}
use lib.ListN.{length, get_or}
use lib.Seq.{get_or-append-add}
use Rattle.octets.specs.Le.{le_at, le_bytes}
use Rattle.octets.proofs.Widths.{low_byte}

-- two lists that agree at n places from two starts have the same number there
pub le_at_cong : (n at at' : ℕ) (s s' : List ℕ) → ((i : ℕ) → i < n → get_or s (at + i) 0 ≡ get_or s' (at' + i) 0) → le_at n at s ≡ le_at n at' s'
unfolding le_at
le_at_cong zero at at' s s' same = refl
le_at_cong (suc n) at at' s s' same =
    let first : get_or s at 0 ≡ get_or s' at' 0 =
    ap (λ (k : ℕ). get_or s k 0) (sym (add-zero at)) ∙ same 0 (omega arith) ∙ ap (λ (k : ℕ). get_or s' k 0) (add-zero at') in
    let rest : le_at n (at + 1) s ≡ le_at n (at' + 1) s' =
    le_at_cong n (at + 1) (at' + 1) s s'
    (λ i h. ap (λ (k : ℕ). get_or s k 0) (shift at i) ∙ same (i + 1) (omega arith) ∙ ap (λ (k : ℕ). get_or s' k 0) (sym (shift at' i))) in
    rw (first, rest)
  where
    shift : (a i : ℕ) → a + 1 + i ≡ a + (i + 1)
    shift a i = omega arith

module _ (n at : ℕ) where
  pub le_at_shift : (p s : List ℕ) → le_at n (length p + at) (p ++ s) ≡ le_at n at s
  le_at_shift p s =
      le_at_cong n (length p + at) at (p ++ s) s
      (λ i h. ap (λ (k : ℕ). get_or (p ++ s) k 0) (group (length p) i) ∙ get_or-append-add p s (at + i) 0)
    where
      group : (l i : ℕ) → l + at + i ≡ l + (at + i)
      group l i = omega arith

pub le_at_le_bytes : (n v : ℕ) (q : List ℕ) → le_at n 0 (le_bytes n v ++ q) ≡ v % 256 ^ n
unfolding le_at le_bytes
le_at_le_bytes zero v q = sym (mod-one v)
le_at_le_bytes (suc n) v q =
    let tail : le_at n 1 (v % 256 ∷ (le_bytes n (v / 256) ++ q)) ≡ v / 256 % 256 ^ n = le_at_shift n 0 (v % 256 ∷ []) (le_bytes n (v / 256) ++ q) ∙ le_at_le_bytes n (v / 256) q in
    omega (arith, low_byte n v)

-- p is what stands before the number, and q what stands behind it
module _ (p q : List ℕ) where
  pub number_back : (n v : ℕ) → v < 256 ^ n → le_at n (length p) (p ++ (le_bytes n v ++ q)) ≡ v
  number_back n v h =
      ap (λ (k : ℕ). le_at n k (p ++ (le_bytes n v ++ q))) (sym (add-zero (length p)))
      ∙ le_at_shift n 0 p (le_bytes n v ++ q) ∙ le_at_le_bytes n v q ∙ mod-eq_of_lt h
