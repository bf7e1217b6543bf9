-- The place that `position` gives of what stands behind `from` is that of `Found`.
-- Assumes nothing.
use Rattle.std.proofs.Common.{◌≡◌, ℕ, ◌+◌, ◌≤◌, ◌==◌, Bool, true, false, cond, ltb, ltb-false, List, length, drop, length-drop, Option, Some, None, refl, ap, ◌∙◌, arith}
use Rattle.std.specs.Prelude.{unwrap_or}
use Rattle.std.specs.List.{position_or_len}
use Rattle.std.proofs.lemmas.List.Sums.{prefix_len-le-length}
use Rattle.lines.specs.Fields.{Found}

place_or : (p n : ℕ) (t : Bool) → ltb p n ≡ t → p ≤ n → unwrap_or (cond t (Some p) None) n ≡ p
place_or p n true e h = refl
place_or p n false e h = omega (arith, ltb-false p n e)

pub found_at : {b : ℕ} {s : List ℕ} {from : ℕ} (xs : List ℕ) {o : Option ℕ} {k : ℕ} → from ≤ length s → xs ≡ drop from s
    → o ≡ cond (ltb (position_or_len (λ x. x == b) xs) (length xs)) (Some (position_or_len (λ x. x == b) xs)) None
    → k ≡ unwrap_or o (length xs) → Found b s from (from + k)
found_at {b} {s} {from} xs {o} {k} within e place said =
    let p = position_or_len (λ x. x == b) xs in
    let most : p ≤ length xs = prefix_len-le-length _ xs in
    let first : k ≡ p = said ∙ rw place (place_or p (length xs) (ltb p (length xs)) refl most) in
    let all : length xs ≡ length (drop from s) = ap length e in
    record { low = omega arith; high = omega (arith, length-drop from s); place = ap (λ (n : ℕ). from + n) first ∙ rw e refl }
