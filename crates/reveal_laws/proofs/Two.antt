-- Two work buffers that have the same sheets of the nodes, before a node, that the wanted node stands on.
--     Same, Ready              such buffers; the sheets of such nodes can be operands
--     sheets_before            the slots before a node are known by the bytes before its slot
--     same_itself              a buffer has the same sheets as itself
--     same_put, ready_put      one node more, where both put the same sheet into its slot
--     same_skip, ready_skip    or where the wanted node does not stand on it
--     same_past                and then whatever becomes of the second buffer from its slot on
--     taken                    a step does the same on both
-- Assumes nothing.
use mathlib.Core.Path.{◌≡◌, refl, sym, ap, ap₂, subst, ◌∙◌}
use mathlib.Core.Bool.{Bool, true, false}
use mathlib.Core.List.{List}
use Prim.Native.Nat.{ℕ, ◌+◌, ◌≤◌, ◌<◌}
use native.Mathlib.Omega.{arith}
use lib.Dec.{T, eqb}
use lib.ListN.{length, take}
use borrow.Author.Tests.{eqb-true, eqb-false}
use Rattle.numbers.specs.Result.{Result, ok, refused}
use Rattle.base.specs.Form.{narrow}
use Rattle.base.specs.Decode.{decode}
use Rattle.base.specs.Components.{component_of}
use Rattle.plan_form.specs.Form.{node_count, leaf_count, component_number, left_of, right_of, plan_fails}
use Rattle.plan_form.proofs.FormLaws.{planned}
use Rattle.calls.specs.Single.{outcome}
use Rattle.calls.specs.Walk.{slot_at, sheet_in, step_on}
use Rattle.derived.specs.Held.{Held}
use Rattle.derived.proofs.Gives.{Gives}
use Rattle.containment.proofs.Slots.{sheet_same, sheet_at}
use Rattle.standing.specs.Standing.{stands}
use Rattle.standing.proofs.Least.{stands_operands}
use Rattle.reveal_laws.proofs.Puts.{Fit, put, put_before, put_length, put_sheet, result_of, result_in, step_fits, afterwards, stepped}

-- the slots before k are known by the bytes before it
pub sheets_before : (k : ℕ) (x y : List ℕ) → take (slot_at narrow k) x ≡ take (slot_at narrow k) y → (j : ℕ) → j < k → sheet_in narrow j x ≡ sheet_in narrow j y
sheets_before k x y e j h = sheet_same (slot_at narrow k) j x y e (omega arith)

-- j is k, or before it
last_or : (R : ℕ → Type 0) (k j : ℕ) → j < k + 1 → R k → (j < k → R j) → R j
last_or R k j h last before = go (eqb k j) refl
  where
    go : (t : Bool) → eqb k j ≡ t → R j
    go true e = subst R (eqb-true k j e) last
    go false e = let n = eqb-false k j e in before (omega arith)

module _ (p : List ℕ) (wanted : ℕ) where
  pub record Same (k : ℕ) (x y : List ℕ) : Type 0 where
    pub size : length x ≡ length y
    pub sheets : (j : ℕ) → j < k → stands p wanted j ≡ true → sheet_in narrow j x ≡ sheet_in narrow j y

  pub record Ready (k : ℕ) (x : List ℕ) : Type 0 where
    pub held : (j : ℕ) → j < k → stands p wanted j ≡ true → Held narrow (sheet_at j x)

  pub same_itself : (k : ℕ) (x : List ℕ) → Same k x x
  same_itself k x = record { size = refl; sheets = λ j h w. refl }

  -- ---- one more node

  module _ (k : ℕ) (vs : List ℕ) (f : Fit vs) where
    pub same_put : (x y : List ℕ) → slot_at narrow (k + 1) ≤ length x → Same k x y → Same (k + 1) (put k vs x) (put k vs y)
    same_put x y room s =
        let size = s.size in
        record {
          size = put_length k vs x ∙ size ∙ sym (put_length k vs y);
          sheets = λ j h w.
              last_or (λ j. sheet_in narrow j (put k vs x) ≡ sheet_in narrow j (put k vs y)) k j h (put_sheet k vs x f room ∙ sym (put_sheet k vs y f (omega arith)))
              (λ b.
              sheets_before k (put k vs x) x (put_before k vs x (omega arith)) j b
              ∙ s.sheets j b w
              ∙ sym (sheets_before k (put k vs y) y (put_before k vs y (omega arith)) j b));
        }

    pub ready_put : (x : List ℕ) → slot_at narrow (k + 1) ≤ length x → Ready k x → Ready (k + 1) (put k vs x)
    ready_put x room r = record {
      held = λ j h w.
          last_or (λ j. Held narrow (sheet_at j (put k vs x))) k j h (subst (λ (s : List ℕ). Held narrow (decode narrow s)) (sym (put_sheet k vs x f room)) f.held)
          (λ b.
          subst (λ (s : List ℕ). Held narrow (decode narrow s)) (sym (sheets_before k (put k vs x) x (put_before k vs x (omega arith)) j b)) (r.held j b w));
    }

  module _ (k : ℕ) (apart : stands p wanted k ≡ false) where
    -- then j is not k
    before : (j : ℕ) → j < k + 1 → stands p wanted j ≡ true → j < k
    before j h w = go (eqb k j) refl
      where
        go : (t : Bool) → eqb k j ≡ t → j < k
        go true e = absurd (subst T (sym w ∙ ap (stands p wanted) (sym (eqb-true k j e)) ∙ apart) tt)
        go false e = let n = eqb-false k j e in omega arith

    pub same_skip : {x y : List ℕ} → Same k x y → Same (k + 1) x y
    same_skip s = record { size = s.size; sheets = λ j h w. s.sheets j (before j h w) w }

    pub ready_skip : {x : List ℕ} → Ready k x → Ready (k + 1) x
    ready_skip r = record { held = λ j h w. r.held j (before j h w) w }

    -- whatever becomes of the slots from k on in the second
    pub same_past : {x y z : List ℕ} → length z ≡ length y → take (slot_at narrow k) z ≡ take (slot_at narrow k) y → Same k x y → Same (k + 1) x z
    same_past {x} {y} {z} size e s = record {
      size = s.size ∙ sym size;
      sheets = λ j h w. let b = before j h w in s.sheets j b w ∙ sym (sheets_before k z y e j b);
    }

  -- ---- a step on both

  -- a refusal, or a sheet that is put into the slot
  pub data Taken (k : ℕ) (x : List ℕ) : Type 0 where
    refuses : (n : ℕ) → 0 < n → ((y : List ℕ) → Same k x y → step_on narrow p k y ≡ outcome n 0 y) → Taken k x
    gives : (vs : List ℕ) → Fit vs → ((y : List ℕ) → Same k x y → step_on narrow p k y ≡ outcome 0 (length vs) (put k vs y)) → Taken k x

  module _ (formed : plan_fails p ≡ false) (within : wanted < node_count p) (k : ℕ) (later : leaf_count p ≤ k) (node : k < node_count p) (walked : stands p wanted k ≡ true)
      (x : List ℕ) (room : slot_at narrow (k + 1) ≤ length x) (ready : Ready k x) where
    early : (left_of p k < k) × (right_of p k < k)
    early = (planned p formed).earlier k later node

    standing : (stands p wanted (left_of p k) ≡ true) × (stands p wanted (right_of p k) ≡ true)
    standing = stands_operands p formed within walked later

    same_result : (y : List ℕ) → Same k x y → result_in p k x ≡ result_in p k y
    same_result y s =
        ap₂ (result_of (component_of (component_number p k)) k) (s.sheets (left_of p k) early.0 standing.0) (s.sheets (right_of p k) early.1 standing.1)

    fits : Gives Fit (result_in p k x)
    fits =
        let few = (planned p formed).nodes in
        step_fits p k x (omega arith) (ready.held (left_of p k) early.0 standing.0) (ready.held (right_of p k) early.1 standing.1)

    both : (y : List ℕ) → Same k x y → step_on narrow p k y ≡ afterwards p k (result_in p k x) y
    both y s =
        let size = s.size in
        let e = same_result y s in
        stepped p k y (subst (Gives Fit) e fits) (omega arith) ∙ ap (λ (g : Result (List ℕ)). afterwards p k g y) (sym e)

    by_answer : (g : Result (List ℕ)) → Gives Fit g → ((y : List ℕ) → Same k x y → step_on narrow p k y ≡ afterwards p k g y) → Taken k x
    by_answer (refused n) f e = refuses n f e
    by_answer (ok vs) f e = gives vs f e

    pub taken : Taken k x
    taken = by_answer (result_in p k x) fits both
