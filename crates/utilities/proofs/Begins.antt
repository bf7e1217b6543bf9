-- Laws of `Begins` and `Lacks`: what one value does to a list, and how such steps add up. Assumes nothing.
use mathlib.Core.Path.{◌≡◌, refl, sym, ap, ap₂, subst, ◌∙◌}
use mathlib.Core.Bool.{true, false}
use mathlib.Core.List.{List, [], ◌∷◌, ◌++◌}
use Prim.Native.Nat.{ℕ, ◌+◌, ◌-◌, ◌<◌, ◌≤◌}
use native.Mathlib.Numerals.{add-one}
use native.Mathlib.Omega.{arith}
use lib.IntN.{ℤ}
use lib.ListN.{length, take, drop, set, length-append, length-take}
use lib.Seq.{take-suc-set, drop-set-lt, drop-drop, length-take-le}
use Rattle.numbers.specs.Kind.{eq_z}
use Rattle.utilities.specs.Lists.{has, noted}
use Rattle.utilities.specs.Noted.{Begins, Lacks, Notes}
use Rattle.std.specs.declared.option.Option as Rust
use Rattle.std.specs.declared.option.Option.TheVariants.{Some, None}
use Rattle.utilities.proofs.Firsts.{noted_known, noted_new, noted_keeps}

-- v is what the code reads of a local that holds x
module _ (out : List ℤ) (n : ℕ) {v x : ℤ} (read : v ≡ x) where
  pub kept : n ≤ length out → has eq_z v (take n out) ≡ true → Begins (noted eq_z (take n out) x) n out out
  kept room h =
      let e = ap (noted eq_z (take n out)) (sym read) ∙ noted_known eq_z (take n out) v h in
      record { count = sym (ap length e ∙ length-take-le n out room); start = sym e; rest = refl }

  pub added : n < length out → has eq_z v (take n out) ≡ false → Begins (noted eq_z (take n out) x) (n + 1) out (set out n v)
  added room h =
      let e = ap (noted eq_z (take n out)) (sym read) ∙ noted_new eq_z (take n out) v h in
      let before = length-take-le n out (omega arith) in
      let l : n + 1 ≡ length (take n out ++ (v ∷ [])) = omega (arith, length-append (take n out) (v ∷ [])) in
      record {
        count = l ∙ ap length (sym e);
        start = ap (λ (k : ℕ). take k (set out n v)) (add-one n) ∙ take-suc-set out n v room ∙ sym e;
        rest = drop-set-lt (n + 1) out n v (omega arith);
      }

  pub lacking : n ≡ length out → has eq_z v (take n out) ≡ false → Lacks n x out out
  lacking full h = record { new = ap (λ (z : ℤ). has eq_z z (take n out)) (sym read) ∙ h; full = full; same = refl }

pub begins_none : (out : List ℤ) → Begins [] 0 out out
begins_none out = record { count = refl; start = refl; rest = refl }

module _ {values : List ℤ} {n : ℕ} {out₀ out : List ℤ} (b : Begins values n out₀ out) where
  -- so another value may be noted
  pub begins_room : n ≤ length out
  begins_room = omega (arith, b.count, ap length b.start, length-take n out)

  pub begins_note : {v x : ℤ} {m : ℕ} {out' : List ℤ} → v ≡ x → Begins (noted eq_z (take n out) v) m out out' → Begins (noted eq_z values x) m out₀ out'
  begins_note {v} {x} {m} {out'} read s =
      let e = ap₂ (noted eq_z) b.start read in
      let more : n ≤ m = omega (arith, b.count, ap length b.start, s.count, noted_keeps eq_z (take n out) v) in
      let k : n + (m - n) ≡ m = omega arith in
      let far : (l : List ℤ) → drop (m - n) (drop n l) ≡ drop m l = λ l. drop-drop (m - n) n l ∙ ap (λ (j : ℕ). drop j l) k in
      record {
        count = s.count ∙ ap length e;
        start = s.start ∙ e;
        rest = s.rest ∙ sym (far out) ∙ ap (drop (m - n)) b.rest ∙ far out₀;
      }

-- what `note_hinted` answered
module _ (n : ℕ) (x : ℤ) (before after : List ℤ) {r : Rust.Option ℕ} where
  pub notes_at : {m : ℕ} → r ≡ Some m → Notes n x before after r → Begins (noted eq_z (take n before) x) m before after
  notes_at e h = subst (Notes n x before after) e h

  pub notes_full : r ≡ None → Notes n x before after r → Lacks n x before after
  notes_full e h = subst (Notes n x before after) e h
