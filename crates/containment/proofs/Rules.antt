-- A category rule's value is the exact result. Assumes nothing.
use mathlib.Core.Path.{◌≡◌, sym, ap, ◌∙◌}
use mathlib.Core.Bool.{Bool, true, false, cond}
use mathlib.Core.Option.{Option, none, some}
use Prim.Native.Nat.{ℕ}
use lib.Dec.{eqb}
use lib.IntN.{ℤ, pos, negsuc, neg_ℤ, nat_abs, ◌+ℤ◌, ◌-ℤ◌, ◌*ℤ◌, pow}
use lib.Signed.{quot_z}
use Rattle.numbers.specs.Result.{Result, ok, refused}
use Rattle.numbers.specs.Checked.{in_range}
use Rattle.numbers.specs.Kind.{whole}
use Rattle.numbers.proofs.Laws.{exactly}
use Rattle.numbers.proofs.Results.{ok_same, never}
use Rattle.base.specs.Form.{int_type}
use Rattle.base.specs.declared.Component.{Component}
use Rattle.base.specs.declared.Component.TheVariants as C
use Rattle.category_lists.specs.Categories.{remainder, mod_whole, power_whole, category_rule}
use Rattle.derived.proofs.Answers.{some_same, none_some}
use Rattle.containment.specs.Exact.{Side, exact}
use Rattle.containment.proofs.Spans.{quotient_inv}
use Rattle.containment.proofs.Entries.{unless_some}

cond_ok : (t : Bool) (k : ℕ) {n v : ℤ} → cond t (ok n) (refused k) ≡ ok v → n ≡ v
cond_ok true k e = ok_same e
cond_ok false k e = absurd (never (sym e))

power_exact : (side : Side) (a b : ℤ) {v : ℤ} → power_whole a b ≡ ok v → exact side C.Power a b ≡ some v
unfolding exact
power_exact side a (pos n) e = ap some (cond_ok (in_range (pow a n)) 25 e)
power_exact side a (negsuc n) e = absurd (never (sym e))

mod_exact : (side : Side) (a b : ℤ) {v : ℤ} → mod_whole a b ≡ ok v → exact side C.Modulo a b ≡ some v
unfolding exact
mod_exact side a b e = go (eqb (nat_abs b) 0) e
  where
    go : (t : Bool) {v : ℤ} → cond t (refused 24) (ok (remainder a b)) ≡ ok v → cond t none (some (remainder a b)) ≡ some v
    go true e = absurd (never (sym e))
    go false e = ap some (ok_same e)

div_exact : (side : Side) (a b : ℤ) {v : ℤ} → whole.div a b ≡ ok v → exact side C.Divide a b ≡ some v
unfolding exact
div_exact side a b e = let h = quotient_inv a b e in unless_some b (quot_z a b) h.0 ∙ ap some (sym h.1)

module _ (side : Side) {rule : ℤ → ℤ → Result ℤ} (a b : ℤ) where
  -- a rule that was chosen
  chosen : {f : ℤ → ℤ → Result ℤ} {v : ℤ} → ◌≡◌ {A = Option (ℤ → ℤ → Result ℤ)} (some f) (some rule) → rule a b ≡ ok v → f a b ≡ ok v
  chosen {f} e r = ap (λ (g : ℤ → ℤ → Result ℤ). g a b) (some_same e) ∙ r

  pub rule_exact : (c : Component) (type : ℕ) {v : ℤ} → category_rule c type ≡ some rule → rule a b ≡ ok v → exact side c a b ≡ some v
  unfolding category_rule exact
  rule_exact C.Abs type e r = ap some (sym (exactly (pos (nat_abs a)) (chosen e r)))
  rule_exact C.Add type e r = ap some (sym (exactly (a +ℤ b) (chosen e r)))
  rule_exact C.Subtract type e r = ap some (sym (exactly (a -ℤ b) (chosen e r)))
  rule_exact C.Multiply type e r = ap some (sym (exactly (a *ℤ b) (chosen e r)))
  rule_exact C.Divide type e r = div_exact side a b (chosen e r)
  rule_exact C.Modulo type {v} e r = go (eqb type int_type) e
    where
      go : (t : Bool) → cond t (some mod_whole) none ≡ some rule → exact side C.Modulo a b ≡ some v
      go true e = mod_exact side a b (chosen e r)
      go false e = absurd (none_some e)
  rule_exact C.Log type e r = absurd (none_some e)
  rule_exact C.Power type {v} e r = go (eqb type int_type) e
    where
      go : (t : Bool) → cond t (some power_whole) none ≡ some rule → exact side C.Power a b ≡ some v
      go true e = power_exact side a b (chosen e r)
      go false e = absurd (none_some e)
  rule_exact C.Negative type e r = ap some (sym (exactly (neg_ℤ a) (chosen e r)))
  rule_exact C.Pool type e r = absurd (none_some e)
