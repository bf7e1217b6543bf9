-- Bytes that fill a list from one place up to another. Those that meet are chained without a sum of their places.
--     _then_         two that meet
--     fill_byte, fill_number, fill_zeros    a byte, a number that was read, a run of zeros
--     fill_part, fill_all    a part of the list, and the whole
--     fill_joined    an array whose elements are parts of the list
-- Assumes nothing.
use mathlib.Core.Path.{◌≡◌, refl, sym, ap, ◌∙◌}
use mathlib.Core.List.{List, [], ◌∷◌, ◌++◌, append_assoc, append-nil}
use Prim.Native.Nat.{ℕ, zero, suc, ◌+◌, ◌*◌, ◌≤◌, ◌<◌}
use native.Mathlib.Nat.{add-zero, mul-zero}
use native.Mathlib.Numerals.{add-one}
use native.Mathlib.Omega.{arith}
use lib.ListN.{length, get_or, take, drop, replicate}
use lib.Seq.{take-suc, take-add, take-length}
use Rattle.octets.specs.Le.{le_at, le_bytes}
use Rattle.octets.proofs.Reread.{AllBytes, le_bytes_le_at}
use Rattle.utilities.specs.Lists.{list_from}
use Rattle.base.specs.Encode.{joined}
use Rattle.base.proofs.Groups.{joined_parts}

-- vs are the bytes of s from a up to b
pub record Filling (s : List ℕ) (a b : ℕ) (vs : List ℕ) : Type 0 where
  pub same : take a s ++ vs ≡ take b s

module _ {s : List ℕ} where
  infixl 40 ◌then◌
  pub ◌then◌ : {a b c : ℕ} {xs ys : List ℕ} → Filling s a b xs → Filling s b c ys → Filling s a c (xs ++ ys)
  ◌then◌ {a} {xs = xs} {ys} p q = record { same = sym (append_assoc (take a s) xs ys) ∙ ap (λ (l : List ℕ). l ++ ys) p.same ∙ q.same }

  pub fill_none : (a : ℕ) → Filling s a a []
  fill_none a = record { same = append-nil (take a s) }

  pub fill_part : (n : ℕ) {a b : ℕ} {vs : List ℕ} → vs ≡ take n (drop a s) → a + n ≡ b → Filling s a b vs
  fill_part n {a} e h = record { same = rw (e, ← h) (sym (take-add a n s)) }

  pub fill_byte : {a b v : ℕ} → v ≡ get_or s a 0 → a < length s → a + 1 ≡ b → Filling s a b (v ∷ [])
  fill_byte {a} e l h = record { same = rw (e, ← h, add-one) (sym (take-suc s a 0 l)) }

  pub fill_all : {vs : List ℕ} → Filling s 0 (length s) vs → vs ≡ s
  fill_all p = p.same ∙ take-length s

  pub fill_zeros : (n : ℕ) {a b : ℕ} → ((i : ℕ) → i < n → get_or s (a + i) 0 ≡ 0) → a + n ≤ length s → a + n ≡ b → Filling s a b (replicate n 0)
  fill_zeros zero {a} h l e = rw (← e, add-zero) (fill_none a)
  fill_zeros (suc n) {a} h l e =
      fill_byte {b = a + 1} (sym (rw add-zero at (h 0 (omega arith)))) (omega arith) refl
      then fill_zeros n (λ i k. ap (λ (j : ℕ). get_or s j 0) (omega arith) ∙ h (suc i) (omega arith)) (omega arith) (omega arith)

module _ {s : List ℕ} (small : AllBytes s) where
  pub fill_number : (n a : ℕ) {b v : ℕ} → v ≡ le_at n a s → a + n ≤ length s → a + n ≡ b → Filling s a b (le_bytes n v)
  fill_number n a e l h = rw e (fill_part n (le_bytes_le_at s small n a l) h)

-- elements of w bytes
module _ {X : Type 0} {s : List ℕ} (bytes : X → List ℕ) (f : ℕ → X) (w n : ℕ) {a b : ℕ} where
  pub fill_joined : ((i : ℕ) → i < n → bytes (f i) ≡ take w (drop (a + w * i) s)) → a + w * n ≡ b → Filling s a b (joined bytes (list_from n 0 f))
  fill_joined h e = fill_part (w * n) (simp (mul-zero, add-zero) at (joined_parts bytes f s w a n 0 (λ i k. h i (omega arith)))) e
