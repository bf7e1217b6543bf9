-- Words gathered by `|`: the whole is 0 where every word is.
--     or_zero      the `|` of two words
--     two_more     words gathered so far, and two more
--     end_word     a word that is 0 where a mark and its 64 bits are permitted
-- Assumes nothing.
use Rattle.std.proofs.Common.{◌≡◌, ℕ, zero, suc, ◌+◌, ◌-◌, ◌*◌, ◌/◌, ◌%◌, ◌^◌, ◌<◌, ◌≤◌, Bool, true, false, not, ◌&&◌, ◌||◌, eqb, sym, refl, ap, ◌∙◌, ap₂, mod-eq_of_lt, arith, eq-eqb, ne_eqb, eqb-true}
use lib.Bits.{bit_and, bit_or, or_add_and, and_le_l, and_le_r, and_comm, and_mask, and_high}
use borrow.Author.Tests.{eqb-false}

pub or_zero : (a b : ℕ) → eqb (bit_or a b) 0 ≡ (eqb a 0 && eqb b 0)
or_zero a b = go (eqb a 0) refl (eqb b 0) refl (bit_or a b) (bit_and a b) (or_add_and a b) (and_le_l a b) (and_le_r a b)
  where
    go : (t : Bool) → eqb a 0 ≡ t → (u : Bool) → eqb b 0 ≡ u → (o n : ℕ) → o + n ≡ a + b → n ≤ a → n ≤ b → eqb o 0 ≡ (t && u)
    go true e true f o n s l r = let h = eqb-true a 0 e in let k = eqb-true b 0 f in eq-eqb o 0 (omega arith)
    go true e false f o n s l r = let h = eqb-true a 0 e in let k = eqb-false b 0 f in ne_eqb o 0 (λ z. k (omega arith))
    go false e u f o n s l r = let h = eqb-false a 0 e in ne_eqb o 0 (λ z. h (omega arith))

pub two_more : (b x y : ℕ) → (not (eqb b 0) || not (eqb x 0 && eqb y 0)) ≡ not (eqb (bit_or b (bit_or x y)) 0)
two_more b x y = go (eqb b 0) (eqb x 0 && eqb y 0) ∙ sym (ap not (or_zero b (bit_or x y) ∙ ap (λ (t : Bool). eqb b 0 && t) (or_zero x y)))
  where
    go : (t u : Bool) → (not t || not u) ≡ not (t && u)
    go true u = refl
    go false u = refl

-- w is m - 1, modulo 2 ^ 64
pub end_word : (m v w : ℕ) → m < 256 → v < 2 ^ 64 → w < 2 ^ 64 → (w + 1) % 2 ^ 64 ≡ m
    → eqb (bit_or (bit_and m 0xfe) (bit_and w v)) 0 ≡ (eqb m 1 || (eqb m 0 && eqb v 0))
end_word zero v w h k l e =
    let all : w ≡ 2 ^ 64 - 1 = omega arith in
    let kept : bit_and w v ≡ v = ap (λ (x : ℕ). bit_and x v) all ∙ and_comm (2 ^ 64 - 1) v ∙ and_mask v 64 ∙ mod-eq_of_lt k in
    ap (λ (n : ℕ). eqb n 0) kept
end_word (suc zero) v w h k l e =
    let none : w ≡ 0 = omega arith in
    ap (λ (x : ℕ). eqb (bit_and x v) 0) none
end_word (suc (suc m)) v w h k l e =
    or_zero (bit_and (suc (suc m)) 0xfe) (bit_and w v)
    ∙ ap₂ ◌&&◌ high refl
    ∙ sym (ap₂ ◌||◌ one (ap (λ (t : Bool). t && eqb v 0) none))
  where
    above : suc (suc m) / 2 ^ 1 % 2 ^ 7 * 2 ^ 1 ≡ 0 → ⊥
    above z =
        let q : suc (suc m) / 2 % 2 ^ 7 ≡ suc (suc m) / 2 = mod-eq_of_lt (omega arith) in
        omega arith

    high : eqb (bit_and (suc (suc m)) 0xfe) 0 ≡ false
    high = ap (λ (n : ℕ). eqb n 0) (and_high (suc (suc m)) 7 1) ∙ ne_eqb (suc (suc m) / 2 ^ 1 % 2 ^ 7 * 2 ^ 1) 0 above

    one : eqb (suc (suc m)) 1 ≡ false
    one = ne_eqb (suc (suc m)) 1 (λ z. omega arith)

    none : eqb (suc (suc m)) 0 ≡ false
    none = ne_eqb (suc (suc m)) 0 (λ z. omega arith)
