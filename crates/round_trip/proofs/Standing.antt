-- Bytes that stand at a place of a list: what is read there is what they say.
--     standing-..    parts of bytes that stand somewhere, stand there too
--     byte_back, number_back    a byte and a number, read where they stand
--     part_back      bytes, cut out where they stand
-- Assumes nothing.
use mathlib.Core.Path.{◌≡◌, refl, ap, subst, ◌∙◌}
use mathlib.Core.List.{List, [], ◌∷◌, ◌++◌, append_assoc}
use Prim.Native.Nat.{ℕ, ◌+◌, ◌^◌, ◌<◌}
use lib.ListN.{length, get_or, take, drop, length-append}
use lib.Seq.{get_or_at, drop_at, take-append_seam}
use Rattle.octets.specs.Le.{le_at, le_bytes}
use Rattle.octets.proofs.Round as Bytes

-- vs are the bytes of s from `at` on
pub record Standing (s : List ℕ) (at : ℕ) (vs : List ℕ) : Type 0 where
  pub before : List ℕ
  pub after : List ℕ
  pub whole : s ≡ before ++ (vs ++ after)
  pub place : length before ≡ at

pub standing_first : (vs rest : List ℕ) → Standing (vs ++ rest) 0 vs
standing_first vs rest = record { before = []; after = rest; whole = refl; place = refl }

module _ {s : List ℕ} {at : ℕ} where
  pub standing_left : (xs ys : List ℕ) → Standing s at (xs ++ ys) → Standing s at xs
  standing_left xs ys h =
      record { before = h.before; after = ys ++ h.after; whole = h.whole ∙ ap (λ (l : List ℕ). h.before ++ l) (append_assoc xs ys h.after); place = h.place }

  -- the right part, at its own place
  pub standing_right : (xs ys : List ℕ) {to : ℕ} → Standing s at (xs ++ ys) → at + length xs ≡ to → Standing s to ys
  standing_right xs ys h e =
      record {
        before = h.before ++ xs;
        after = h.after;
        whole = h.whole ∙ simp append_assoc;
        place = length-append h.before xs ∙ ap (λ (n : ℕ). n + length xs) h.place ∙ e;
      }

  pub standing_at : {vs : List ℕ} {to : ℕ} → Standing s at vs → at ≡ to → Standing s to vs
  standing_at {vs} h e = subst (λ (k : ℕ). Standing s k vs) e h

  pub byte_back : {v : ℕ} → Standing s at (v ∷ []) → get_or s at 0 ≡ v
  byte_back {v} h = ap (λ (l : List ℕ). get_or l at 0) h.whole ∙ get_or_at h.before v h.after 0 at h.place

  pub number_back : (n : ℕ) {v : ℕ} → Standing s at (le_bytes n v) → v < 256 ^ n → le_at n at s ≡ v
  number_back n {v} h b = rw (h.whole, ← h.place) (Bytes.number_back h.before h.after n v b)

  pub part_back : {vs : List ℕ} → Standing s at vs → take (length vs) (drop at s) ≡ vs
  part_back {vs} h = ap (λ (l : List ℕ). take (length vs) (drop at l)) h.whole ∙ ap (take (length vs)) (drop_at h.before (vs ++ h.after) at h.place) ∙ take-append_seam vs h.after
