-- Laws of what a line's fields tell: bytes at the start of a buffer; and of a part of a filled buffer.
-- Assumes nothing.
use Prim.Native.Nat.{ℕ, zero, suc, ◌≤◌}
use mathlib.Core.Path.{◌≡◌, refl, sym, ap, subst, ◌∙◌}
use mathlib.Core.Option.{Option, some, bind}
use mathlib.Core.List.{List, ◌∷◌, ◌++◌}
use native.Mathlib.Omega.{arith}
use lib.ListN.{length, take, drop}
use lib.Seq.{take_at}
use Rattle.calls.specs.Single as Single
use Rattle.std.specs.Prelude as Std
use Rattle.lines.specs.Bytes.{field_bytes, Puts}
use Rattle.answers.specs.Texts.{filled}
use Rattle.answers.specs.Answers.{Confirms}
use Rattle.answers.specs.declared.Outcome.{Outcome}

pub confirms : (r : Std.Option Outcome) {d d' s s' : Option Single.Outcome} → d ≡ d' → s ≡ s' → Std.IfSome r (λ o. Confirms o d' s') → Std.IfSome r (λ o. Confirms o d s)
confirms r e f h = rw (e, f) h

take_filled : (n m : ℕ) → n ≤ m → take n (filled m) ≡ filled n
unfolding filled
take_filled zero m h = refl
take_filled (suc n) zero h = absurd (omega arith)
take_filled (suc n) (suc m) h = ap (λ (l : List ℕ). 165 ∷ l) (take_filled n m (omega arith))

pub part_filled : (n m : ℕ) {r : List ℕ} → n ≤ m → r ≡ filled m → filled n ≡ take n r
part_filled n m h e = sym (ap (take n) e ∙ take_filled n m h)

-- a field's bytes, which were put at the start of a buffer
module _ {t s : List ℕ} (f : t ≡ s) (d d' : List ℕ) {n : ℕ} (p : Puts (Std.Some n) (field_bytes t) d d') where
  puts : Puts (Std.Some n) (field_bytes s) d d'
  puts = subst (λ (l : List ℕ). Puts (Std.Some n) (field_bytes l) d d') f p

  pub bytes_told : field_bytes s ≡ some (take n d')
  bytes_told = puts.1 ∙ ap {B = Option (List ℕ)} some (sym (ap (take n) puts.3 ∙ take_at puts.0 (drop n d) n puts.2))

  pub bytes_stored : (code : ℕ) → bind (field_bytes s) (λ vs. some (Single.outcome code (length vs) (vs ++ drop (length vs) d))) ≡ some (Single.outcome code n d')
  unfolding bind
  bytes_stored code = rw (puts.1, puts.2, sym puts.3)
