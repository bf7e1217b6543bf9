-- Laws of `Hinting`: no hint at all, and one more value with its hint. Assumes nothing.
use mathlib.Core.Path.{◌≡◌, refl, sym, ap, ap₂, subst, ◌∙◌}
use mathlib.Core.Bool.{Bool, true, false, ◌||◌}
use mathlib.Core.List.{List, [], ◌∷◌, ◌++◌}
use Prim.Native.Nat.{ℕ, ◌<◌}
use native.Mathlib.Omega.{arith}
use lib.IntN.{ℤ}
use lib.ListN.{length, take, get_or, set, replicate, length-set, length-replicate}
use lib.Seq.{get_or-set_same, get_or-set_other}
use lib.Dec.{eqb}
use borrow.Author.Tests.{eqb-true, eqb-false}
use Rattle.numbers.specs.Kind.{eq_z}
use Rattle.numbers.proofs.Choices.{eq_z_no}
use Rattle.utilities.specs.Lists.{has}
use Rattle.utilities.specs.Noted.{Hinting, hint_count, hint_at, held}
use Rattle.std.specs.declared.option.Option as Rust
use Rattle.std.specs.declared.option.Option.TheVariants.{Some, None}
use Rattle.utilities.proofs.Firsts.{has_append}

-- no value was noted yet
pub hinting_none : {hints : List ℕ} → hints ≡ replicate hint_count 0 → Hinting hints []
unfolding has
hinting_none cleared = record { size = ap length cleared ∙ length-replicate {A = ℕ} hint_count 0; new = λ x e. refl }

pub hint_within : (x : ℤ) → hint_at x < hint_count
hint_within x = omega arith

by_hint : (t : Bool) {P : Type 0} → (t ≡ true → P) → (t ≡ false → P) → P
by_hint true yes' no' = yes' refl
by_hint false yes' no' = no' refl

-- one more value, whose hint is set
pub hinting_added : {hints : List ℕ} {values : List ℤ} (x : ℤ) (h : ℕ) → 0 < h → hint_at x < hint_count → Hinting hints values → Hinting (set hints (hint_at x) h) (values ++ (x ∷ []))
unfolding has
hinting_added {hints} {values} x h some-hint within old =
    record {
      size = length-set hints (hint_at x) h ∙ old.size;
      new = λ y e. by_hint (eqb (hint_at x) (hint_at y))
          (λ (q : eqb (hint_at x) (hint_at y) ≡ true).
          let same = eqb-true (hint_at x) (hint_at y) q in
          let read = ap (λ (k : ℕ). get_or (set hints (hint_at x) h) k 0) same in
          let stands = get_or-set_same hints (hint_at x) h 0 (subst (λ (n : ℕ). hint_at x < n) (sym old.size) within) in
          let zero : h ≡ 0 = sym stands ∙ read ∙ e in
          absurd (omega (arith, zero, some-hint)))
          (λ (q : eqb (hint_at x) (hint_at y) ≡ false).
          let other = eqb-false (hint_at x) (hint_at y) q in
          let read = get_or-set_other hints (hint_at x) (hint_at y) h 0 (λ z. other (sym z)) in
          let missing = old.new y (sym read ∙ e) in
          has_append eq_z y values (x ∷ []) ∙ ap₂ ◌||◌ missing (ap (λ (t : Bool). t || false) (eq_z_no y x (λ z. other (ap hint_at (sym z))))));
    }

-- what `note_hinted` answered
module _ (n : ℕ) (out : List ℤ) {hints : List ℕ} {r : Rust.Option ℕ} where
  pub hinting_at : {m : ℕ} → r ≡ Some m → Hinting hints (take (held n r) out) → Hinting hints (take m out)
  hinting_at e h = subst (λ (q : Rust.Option ℕ). Hinting hints (take (held n q) out)) e h

  pub hinting_full : r ≡ None → Hinting hints (take (held n r) out) → Hinting hints (take n out)
  hinting_full e h = subst (λ (q : Rust.Option ℕ). Hinting hints (take (held n q) out)) e h
