-- A loop over texts that must lie end to end, and that is not left early: what failed so far is a flag, and the next text starts where the last one ended.
-- `Running` is its invariant: the flag, with what the rest decides from there on, is what the whole decides. Lengths are below 2 ^ 32, so that the starts of a
-- sheet's texts stay far below 2 ^ 64. Assumes nothing.
use Rattle.std.proofs.Common.{◌≡◌, ℕ, suc, ◌+◌, ◌-◌, ◌*◌, ◌^◌, ◌<◌, ◌≤◌, Bool, true, false, not, ◌&&◌, ◌||◌, eqb, List, sym, refl, ap, ◌∙◌, arith}
use native.Mathlib.Nat.{sub-zero}
use Rattle.base.specs.Form.{Form, group_count, category_count, area_size}
use Rattle.base.specs.Decode.{category_at, start_in, length_in}
use Rattle.base.specs.Checks.{end_to_end}

module _ (F : Form) (s : List ℕ) where
  -- i is the next text to be tested, `at` where it must start, and t the end
  pub record Running (t i at : ℕ) (bad all : Bool) : Type 0 where
    pub within : i ≤ t
    pub small : at ≤ 2 ^ 32 * i
    pub rest : (not bad && end_to_end F s (t - i) i at) ≡ all

  pub running_start : (t : ℕ) → Running t 0 0 false (end_to_end F s t 0 0)
  running_start t = record { within = omega arith; small = omega arith; rest = ap (λ (k : ℕ). end_to_end F s k 0 0) (sub-zero t) }

  module _ {t i at : ℕ} {bad all : Bool} (inv : Running t i at bad all) where
    -- one more, whose value is v
    pub running_more : i < t → (v : ℕ) → v ≡ category_at F s (group_count F s) (category_count F s) i → v < 2 ^ 64
        → Running t (i + 1) (at + length_in v) (bad || not (eqb (start_in v) at)) all
    unfolding end_to_end
    running_more h v e l =
        let w = inv.within in
        let b = inv.small in
        let m : t - i ≡ suc (t - (i + 1)) = omega arith in
        record {
          within = omega arith;
          small = omega arith;
          rest =
              go bad (eqb (start_in v) at) (end_to_end F s (t - (i + 1)) (i + 1) (at + length_in v))
              ∙ ap (λ (x : ℕ). not bad && (eqb (start_in x) at && end_to_end F s (t - (i + 1)) (i + 1) (at + length_in x))) e
              ∙ sym (ap (λ (k : ℕ). not bad && end_to_end F s k i at) m)
              ∙ inv.rest;
        }
      where
        go : (b t r : Bool) → (not (b || not t) && r) ≡ (not b && (t && r))
        go true t r = refl
        go false true r = refl
        go false false r = refl

    pub running_done : t ≤ i → (not bad && eqb at (area_size F s)) ≡ all
    unfolding end_to_end
    running_done h =
        let m : t - i ≡ 0 = omega arith in
        sym (ap (λ (k : ℕ). not bad && end_to_end F s k i at) m) ∙ inv.rest
