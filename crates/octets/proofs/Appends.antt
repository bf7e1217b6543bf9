-- Laws of appends.
--     _then_        two appends, the second where the first ended
--     same_bytes    an append of equal bytes
--     pending-..    a loop that appends, by what it has still to append
-- Assumes nothing.
use mathlib.Core.Path.{◌≡◌, refl, sym, subst, ◌∙◌}
use mathlib.Core.List.{List, [], ◌∷◌, ◌++◌, append_assoc, append-nil}
use Prim.Native.Nat.{ℕ, ◌+◌, ◌<◌}
use native.Mathlib.Numerals.{add-one}
use native.Mathlib.Omega.{arith}
use lib.ListN.{length, take, set}
use lib.Seq.{take-suc-set}
use Rattle.octets.specs.Wrote.{Wrote, Pending}

infixl 40 ◌then◌
module _ {d d₁ : List ℕ} {at n r₁ : ℕ} {vs : List ℕ} (a : Wrote d at n vs d₁ r₁) where
  pub ◌then◌ : {d₂ ws : List ℕ} {m r₂ : ℕ} → Wrote d₁ r₁ m ws d₂ r₂ → Wrote d at (n + m) (vs ++ ws) d₂ r₂
  ◌then◌ b = record { next = omega arith; front = rw (b.front, a.front, append_assoc) }

  pub same_bytes : {ws : List ℕ} → vs ≡ ws → Wrote d at n ws d₁ r₁
  same_bytes e = subst (λ (l : List ℕ). Wrote d at n l d₁ r₁) e a

pub one_byte : (d : List ℕ) (at v : ℕ) → at < length d → Wrote d at 1 (v ∷ []) (set d at v) (at + 1)
one_byte d at v h = record { next = refl; front = rw add-one (take-suc-set d at v h) }

pub pending_start : (d : List ℕ) (at : ℕ) (vs : List ℕ) → Pending d at vs (take at d ++ vs)
pending_start d at vs = record { so_far = refl }

pub pending_more : {d d₁ rest rest₁ vs all : List ℕ} {end end₁ n : ℕ}
    → Pending d end rest all → Wrote d end n vs d₁ end₁ → rest ≡ vs ++ rest₁ → Pending d₁ end₁ rest₁ all
pending_more p w e = record { so_far = rw (w.front, append_assoc, ← e) p.so_far }

-- with nothing left, all is written
pub pending_end : {d rest all : List ℕ} {end : ℕ} → Pending d end rest all → rest ≡ [] → take end d ≡ all
pending_end {d} {end = end} p none = sym (append-nil (take end d)) ∙ (rw none at p.so_far)
