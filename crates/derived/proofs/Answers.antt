-- An answer taken apart: its value, and the checks that it passed. Assumes nothing.
use mathlib.Core.Path.{◌≡◌, refl, ap, ◌∙◌}
use mathlib.Core.Bool.{Bool, cond}
use mathlib.Core.List.{List, [], ◌∷◌, ◌++◌}
use mathlib.Core.Option.{Option, none, some}
use Prim.Native.Nat.{ℕ}
use native.Mathlib.Omega.{arith}
use Rattle.numbers.specs.Result.{Result, ok, refused, Check, checked}
use Rattle.numbers.proofs.Results.{checked_passed}

pub some_same : {X : Type 0} {a b : X} → ◌≡◌ {A = Option X} (some a) (some b) → a ≡ b
some_same e = cc

pub none_some : {X : Type 0} {a : X} → ◌≡◌ {A = Option X} none (some a) → ⊥
none_some e = let z : ◌≡◌ {A = ℕ} 0 1 = cc in omega arith

-- ---- checks in a row: where the answer is a value, none failed

pub checked_rest : {X : Type 0} (cs : List Check) (rest : Result X) {x : X} → checked cs rest ≡ ok x → rest ≡ ok x
unfolding checked
checked_rest [] rest e = e
checked_rest (c ∷ cs) rest e = checked_rest cs rest (checked_passed c cs rest e).1

module _ {X : Type 0} {x : X} (ds : List Check) (rest : Result X) where
  pub checked_after : (cs : List Check) → checked (cs ++ ds) rest ≡ ok x → checked ds rest ≡ ok x
  unfolding checked
  checked_after [] e = e
  checked_after (c ∷ cs) e = checked_after cs (checked_passed c (cs ++ ds) rest e).1

  pub checked_before : (cs : List Check) → checked (cs ++ ds) rest ≡ ok x → checked cs (ok x) ≡ ok x
  unfolding checked
  checked_before [] e = refl
  checked_before (c ∷ cs) e =
      let p = checked_passed c (cs ++ ds) rest e in
      ap (λ (t : Bool). cond t (refused c.number) (checked cs (ok x))) p.0 ∙ checked_before cs p.1
