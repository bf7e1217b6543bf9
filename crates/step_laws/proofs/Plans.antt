-- The numbers that the plan call replies with, in any stored form.
--     walk_given, leaves_given    those of steps and of leaves are below 30, and not 25
--     plan_given                  so are those of the whole call
--     plan_never_25               25 is none
-- Assumes nothing.
use mathlib.Core.Path.{◌≡◌, refl}
use mathlib.Core.Bool.{true}
use mathlib.Core.List.{List, [], ◌∷◌}
use Prim.Native.Nat.{ℕ}
use lib.Dec.{eqb, ltb}
use lib.ListN.{length}
use Rattle.numbers.specs.Result.{Result, ok, refused}
use Rattle.base.specs.Form.{Form}
use Rattle.base.specs.Sheet.{Sheet}
use Rattle.base.specs.Checks.{read}
use Rattle.base.specs.Components.{component_of}
use Rattle.plan_form.specs.Form.{node_count, plan_fails, component_number}
use Rattle.calls.specs.Single.{Outcome, outcome}
use Rattle.calls.specs.Walk.{slot_at, sheet_in, step_on, unless_refused, walk, leaf_then, leaves_then, leaf_nodes, step_nodes, plan}
use Rattle.step_laws.proofs.Clear.{given, not_given, chosen_given, Clear, other}
use Rattle.step_laws.proofs.Never.{read_given, single_given}

abbrev code_of : Outcome → ℕ
code_of o = o.code

module _ (F : Form) where
  step_on_given : (p : List ℕ) (k : ℕ) (work : List ℕ) → given (step_on F p k work).code ≡ true
  unfolding step_on
  step_on_given p k work = single_given F (component_of (component_number p k)) k _ _ _

  unless_given : (o : Outcome) (k : ℕ) (rest : List ℕ → Outcome) → given o.code ≡ true → ((work : List ℕ) → given (rest work).code ≡ true)
      → given (unless_refused F o k rest).code ≡ true
  unless_given o k rest e f = chosen_given code_of (eqb o.code 0) (rest o.bytes) (outcome o.code k o.bytes) (f o.bytes) e

  pub walk_given : (p ks work : List ℕ) → given (walk F p ks work).code ≡ true
  unfolding walk
  walk_given p [] work = refl
  walk_given p (k ∷ ks) work = unless_given (step_on F p k work) k (walk F p ks) (step_on_given p k work) (walk_given p ks)

  leaf_given : (g : Result Sheet) (k : ℕ) (work : List ℕ) (rest : Outcome) → Clear g → given rest.code ≡ true → given (leaf_then F g k work rest).code ≡ true
  leaf_given (ok s) k work rest c e = e
  leaf_given (refused n) k work rest (other h) e = h

  pub leaves_given : (ks work : List ℕ) (rest : Outcome) → given rest.code ≡ true → given (leaves_then F ks work rest).code ≡ true
  unfolding leaves_then
  leaves_given [] work rest e = e
  leaves_given (k ∷ ks) work rest e = leaf_given (read F (sheet_in F k work)) k work _ (read_given F (sheet_in F k work)) (leaves_given ks work rest e)

  pub plan_given : (p work : List ℕ) → given (plan F p work).code ≡ true
  unfolding plan
  plan_given p work =
      chosen_given code_of (plan_fails p) _ _ refl
      (chosen_given code_of (ltb (length work) (slot_at F (node_count p))) _ _ refl
      (leaves_given (leaf_nodes F p) work _ (walk_given p (step_nodes F p) work)))

-- 25: no plan and no work buffer give it
pub plan_never_25 : (F : Form) (p work : List ℕ) → (plan F p work).code ≡ 25 → ⊥
plan_never_25 F p work = not_given 25 refl (plan_given F p work)
