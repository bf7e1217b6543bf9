-- The numbers that the call that shows a node replies with, in any stored form.
--     shown_given        what was walked, and is shown or not, has those of the plan call
--     reveal_given       so has the call, but for 30
--     reveal_never_25    25 is none
-- Assumes nothing.
use mathlib.Core.Path.{◌≡◌, refl}
use mathlib.Core.Bool.{Bool, true, false, cond}
use mathlib.Core.List.{List}
use mathlib.Core.Logic.{◌⊎◌, inl, inr, ⊎_elim}
use Prim.Native.Nat.{ℕ}
use native.Mathlib.Omega.{arith}
use lib.Dec.{eqb, leb, ltb}
use lib.ListN.{length}
use Rattle.base.specs.Form.{Form}
use Rattle.plan_form.specs.Form.{node_count, no_node}
use Rattle.calls.specs.Single.{Outcome}
use Rattle.calls.specs.Walk.{slot_at, sheet_in}
use Rattle.step_laws.proofs.Clear.{given, not_given, chosen_given}
use Rattle.step_laws.proofs.Plans.{walk_given, leaves_given}
use Rattle.standing.specs.Standing.{walked_leaves, walked_steps}
use Rattle.rights.specs.Rights.{owners_of, seen}
use Rattle.rights.specs.Reveal.{Revealed, revealed, call_fails, showing, shown_of, walked_to, reveal}

showing_given : (sheet out : List ℕ) → given (showing sheet out).code ≡ true
unfolding showing
showing_given sheet out = chosen_given (λ (o : Outcome). o.code) (leb (length sheet) (length out)) _ _ refl refl

module _ (F : Form) where
  of_walked : (wanted : ℕ) (o : Outcome) (out : List ℕ) → given o.code ≡ true → given (shown_of F wanted o out).code ≡ true
  unfolding shown_of
  of_walked wanted o out e =
      chosen_given (λ (r : Revealed). r.code) (eqb o.code 0) _ _ (showing_given (sheet_in F wanted o.bytes) out) e

  pub shown_given : (p : List ℕ) (wanted : ℕ) (work out : List ℕ) → given (shown_of F wanted (walked_to F p wanted work) out).code ≡ true
  shown_given p wanted work out =
      of_walked wanted (walked_to F p wanted work) out
      (leaves_given F (walked_leaves p wanted) work _ (walk_given F p (walked_steps p wanted) work))

  module _ (p owners : List ℕ) (reader wanted : ℕ) (work out : List ℕ) where
    pub reveal_given : (given (reveal F p owners reader wanted work out).code ≡ true) ⊎ ((reveal F p owners reader wanted work out).code ≡ 30)
    unfolding reveal
    reveal_given = go (call_fails p owners wanted) (ltb (length work) (slot_at F (node_count p))) (seen (owners_of p owners wanted) reader)
      where
        shown : Revealed
        shown = shown_of F wanted (walked_to F p wanted work) out

        whole : Bool → Bool → Bool → Revealed
        whole a b c = cond a (revealed 1 no_node work out) (cond b (revealed 27 no_node work out) (cond c shown (revealed 30 wanted work out)))

        go : (a b c : Bool) → (given (whole a b c).code ≡ true) ⊎ ((whole a b c).code ≡ 30)
        go true b c = inl refl
        go false true c = inl refl
        go false false true = inl (shown_given p wanted work out)
        go false false false = inr refl

    -- 25: no plan, owners, reader, wanted node and buffers give it
    pub reveal_never_25 : (reveal F p owners reader wanted work out).code ≡ 25 → ⊥
    reveal_never_25 e = ⊎_elim (λ h. not_given 25 refl h e) (λ h. omega (arith, h, e)) reveal_given
