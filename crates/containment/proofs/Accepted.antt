-- The plan call that gives 0: every leaf passed 3 to 5 and stands as it was, and every step's slot holds the sheet derived of its operands' sheets, all as
-- the buffer has them at the end.
--     leaves_made                leaves that all passed
--     sheet_bytes_lem                a slot's sheet is bytes, where the buffer is
--     plan_made                  what an accepted call leaves in the buffer
--     sheet_leaf, sheet_after    the sheets there, as demand 3 reads them
-- Assumes nothing.
use mathlib.Core.Path.{◌≡◌, refl, sym, ap, ap₂, subst, ◌∙◌}
use mathlib.Core.Bool.{Bool, true, false, cond}
use mathlib.Core.List.{List}
use Prim.Native.Nat.{ℕ, zero, suc, ◌+◌, ◌≤◌, ◌<◌}
use native.Mathlib.Omega.{arith}
use lib.Dec.{eqb, ltb}
use lib.ListN.{length, take, drop, get_or, length-take, get_or-eq_default}
use lib.Seq.{take-take, get_or-take, get_or-drop}
use borrow.Author.Tests.{eqb-true, eqb-false, ltb-true, ltb-false, lt-ltb}
use Rattle.octets.proofs.Reread.{AllBytes}
use Rattle.numbers.specs.Result.{Result, ok, refused}
use Rattle.utilities.specs.Lists.{list_from}
use Rattle.base.specs.Form.{narrow, longest, length_called_for}
use Rattle.base.specs.Sheet.{Sheet}
use Rattle.base.specs.Decode.{decode}
use Rattle.base.specs.Checks.{read}
use Rattle.base.specs.declared.form.Form.TheVariants as Stored
use Rattle.base.proofs.Forms.{laid}
use Rattle.base.proofs.Passed.{Passed}
use Rattle.calls.specs.Derive.{derive}
use Rattle.calls.specs.Single.{Outcome, outcome}
use Rattle.derived.specs.Held.{Held}
use Rattle.derived.proofs.Gives.{Gives}
use Rattle.derived.proofs.Decoded.{decoded_held, read_gives}
use Rattle.plan_form.specs.Form.{node_limit, no_node, node_count, leaf_count, step_count, left_of, right_of, plan_fails}
use Rattle.calls.specs.Walk.{slot_at, slot, sheet_in, step_on, unless_refused, walk, leaf_then, leaves_then, leaf_nodes, step_nodes, plan}
use Rattle.plan_form.proofs.FormLaws.{Planned, planned}
use Rattle.containment.specs.Demand.{sheet_of}
use Rattle.containment.proofs.Slots.{sheet_same, sheet_at, Derives, Stepped, step_made}

-- ---- leaves

pub record Leaves (n i : ℕ) (work : List ℕ) (rest all : Outcome) : Type 0 where
  pub same : all ≡ rest
  pub passed : (j : ℕ) → i ≤ j → j < i + n → Passed narrow (sheet_in narrow j work)

leaf_made : (Q : Sheet → Type 0) (A : Type 0) (g : Result Sheet) (k : ℕ) (work : List ℕ) (rest : Outcome) → Gives (λ x. A × Q x) g
    → (leaf_then narrow g k work rest).code ≡ 0 → (leaf_then narrow g k work rest ≡ rest) × A
leaf_made Q A (ok s) k work rest h e = (refl, h.0)
leaf_made Q A (refused n) k work rest h e = absurd (omega arith)

-- i, or a number behind it
pub from_first : (P : ℕ → Type 0) (i j : ℕ) → i ≤ j → P i → (i + 1 ≤ j → P j) → P j
from_first P i j h p q = go (eqb i j) refl
  where
    go : (t : Bool) → eqb i j ≡ t → P j
    go true e = subst P (eqb-true i j e) p
    go false e = let n = eqb-false i j e in q (omega arith)

pub leaves_made : (work : List ℕ) (rest : Outcome) (n i : ℕ) → (leaves_then narrow (list_from n i (λ k. k)) work rest).code ≡ 0
    → Leaves n i work rest (leaves_then narrow (list_from n i (λ k. k)) work rest)
unfolding leaves_then list_from
leaves_made work rest zero i e = record { same = refl; passed = λ j a b. absurd (omega arith) }
leaves_made work rest (suc n) i e =
    let s = sheet_in narrow i work in
    let tail = leaves_then narrow (list_from n (i + 1) (λ k. k)) work rest in
    let h = leaf_made (λ x. x ≡ decode narrow s) (Passed narrow s) (read narrow s) i work tail (read_gives narrow s) e in
    let r = leaves_made work rest n (i + 1) (ap (λ (o : Outcome). o.code) (sym h.0) ∙ e) in
    record {
      same = h.0 ∙ r.same;
      passed = λ j a b. from_first (λ k. Passed narrow (sheet_in narrow k work)) i j a h.1 (λ c. r.passed j c (omega arith));
    }

-- ---- steps

unless_made : (o : Outcome) (k : ℕ) (rest : List ℕ → Outcome) (P : List ℕ → Type 0) → (o.code ≡ 0 → (rest o.bytes).code ≡ 0 → P (rest o.bytes).bytes)
    → (unless_refused narrow o k rest).code ≡ 0 → P (unless_refused narrow o k rest).bytes
unless_made o k rest P f e = go (eqb o.code 0) refl e
  where
    go : (t : Bool) → eqb o.code 0 ≡ t → (cond t (rest o.bytes) (outcome o.code k o.bytes)).code ≡ 0
        → P (cond t (rest o.bytes) (outcome o.code k o.bytes)).bytes
    go true h e = f (eqb-true o.code 0 h) e
    go false h e = absurd (eqb-false o.code 0 h e)

-- n steps from node k on, by the buffer before and after them
pub record Walked (p : List ℕ) (n k : ℕ) (work after : List ℕ) : Type 0 where
  pub before : take (slot_at narrow k) after ≡ take (slot_at narrow k) work
  pub derives : (i : ℕ) → k ≤ i → i < k + n → Derives p i after after

module _ (p : List ℕ) where
  -- sheets of nodes before k
  sheets_same : (k : ℕ) (x y : List ℕ) → take (slot_at narrow k) x ≡ take (slot_at narrow k) y → (j : ℕ) → j < k → sheet_at j x ≡ sheet_at j y
  sheets_same k x y e j h = ap (decode narrow) (sheet_same (slot_at narrow k) j x y e (omega arith))

  shorter : (k : ℕ) (x y : List ℕ) → take (slot_at narrow (k + 1)) x ≡ take (slot_at narrow (k + 1)) y → take (slot_at narrow k) x ≡ take (slot_at narrow k) y
  shorter k x y e =
      let m = slot_at narrow k in
      let n = slot_at narrow (k + 1) in
      let h : m ≤ n = omega arith in
      sym (take-take m n x h) ∙ ap (take m) e ∙ take-take m n y h

  -- a step, seen from the end
  later : (k : ℕ) (work next after : List ℕ) → (left_of p k < k) × (right_of p k < k) → Stepped p k work next
      → take (slot_at narrow (k + 1)) after ≡ take (slot_at narrow (k + 1)) next → Derives p k after after
  later k work next after o s e =
      let d = s.derives in
      let back : take (slot_at narrow k) after ≡ take (slot_at narrow k) work = shorter k after next e ∙ s.before in
      let l = sheets_same k after work back (left_of p k) o.0 in
      let r = sheets_same k after work back (right_of p k) o.1 in
      record {
        component = d.component;
        listed = d.listed;
        sheet = d.sheet;
        derived = ap₂ (λ (x y : Sheet). derive narrow d.component x y) l r ∙ d.derived;
        is = sheets_same (k + 1) after next e k (omega arith) ∙ d.is;
      }

  held_next : (k : ℕ) (work next : List ℕ) → ((j : ℕ) → j < k → Held narrow (sheet_at j work)) → Stepped p k work next → (j : ℕ) → j < k + 1 → Held narrow (sheet_at j next)
  held_next k work next held s j h = go (eqb j k) refl
    where
      go : (t : Bool) → eqb j k ≡ t → Held narrow (sheet_at j next)
      go true e = subst (λ (i : ℕ). Held narrow (sheet_at i next)) (sym (eqb-true j k e)) s.held
      go false e =
          let n = eqb-false j k e in
          let b : j < k = omega arith in
          subst (Held narrow) (sym (sheets_same k next work s.before j b)) (held j b)

  walk_made : (n k : ℕ) (work : List ℕ) → k + n ≤ node_limit → slot_at narrow (k + n) ≤ length work
      → ((i : ℕ) → k ≤ i → i < k + n → (left_of p i < i) × (right_of p i < i)) → ((j : ℕ) → j < k → Held narrow (sheet_at j work))
      → (walk narrow p (list_from n k (λ i. i)) work).code ≡ 0 → Walked p n k work (walk narrow p (list_from n k (λ i. i)) work).bytes
  unfolding walk list_from
  walk_made zero k work few room earlier held e = record { before = refl; derives = λ i a b. absurd (omega arith) }
  walk_made (suc n) k work few room earlier held e =
      let next = (step_on narrow p k work).bytes in
      let after = (walk narrow p (list_from n (k + 1) (λ i. i)) next).bytes in
      let o = earlier k (omega arith) (omega arith) in
      unless_made (step_on narrow p k work) k (walk narrow p (list_from n (k + 1) (λ i. i))) (Walked p (suc n) k work)
      (λ h e.
      let s = step_made p k work (omega arith) (omega arith) (held (left_of p k) o.0) (held (right_of p k) o.1) h in
      let size = s.size in
      let w = walk_made n (k + 1) next (omega arith) (omega arith) (λ i a b. earlier i (omega arith) (omega arith)) (held_next k work next held s) e in
      record {
        before = shorter k after next w.before ∙ s.before;
        derives = λ i a b. from_first (λ i. Derives p i after after) k i a (later k work next after o s w.before) (λ c. w.derives i c (omega arith));
      })
      e

-- ---- the call

pub record Accepted (p work after : List ℕ) : Type 0 where
  pub form : Planned p
  pub passed : (k : ℕ) → k < leaf_count p → Passed narrow (sheet_in narrow k work)
  pub same : (k : ℕ) → k < leaf_count p → sheet_at k after ≡ sheet_at k work
  pub derives : (k : ℕ) → leaf_count p ≤ k → k < node_count p → Derives p k after after

part_bytes : (s : List ℕ) → AllBytes s → (n : ℕ) → AllBytes (take n s)
part_bytes s h n i = go (ltb i n) refl
  where
    go : (t : Bool) → ltb i n ≡ t → get_or (take n s) i 0 < 256
    go true e = rw (get_or-take n s i 0 (ltb-true i n e)) (h i)
    go false e =
        let b = ltb-false i n e in
        let l = length-take n s in
        rw (get_or-eq_default (take n s) 0 {n = i} (omega arith)) (omega arith)

rest_bytes : (s : List ℕ) → AllBytes s → (n : ℕ) → AllBytes (drop n s)
rest_bytes s h n i = rw get_or-drop (h (n + i))

pub sheet_bytes_lem : (k : ℕ) (work : List ℕ) → AllBytes work → AllBytes (sheet_in narrow k work)
unfolding sheet_in
sheet_bytes_lem k work h =
    let s = slot narrow k work in
    part_bytes s (part_bytes (drop (slot_at narrow k) work) (rest_bytes work h (slot_at narrow k)) (longest narrow)) (length_called_for narrow s)

-- a refusal that did not come
passed_on : (t : Bool) (refusal o : Outcome) (P : List ℕ → Type 0) → 0 < refusal.code → (t ≡ false → o.code ≡ 0 → P o.bytes)
    → (cond t refusal o).code ≡ 0 → P (cond t refusal o).bytes
passed_on true refusal o P h f e = absurd (omega arith)
passed_on false refusal o P h f e = f refl e

module _ (p work : List ℕ) (small : AllBytes work) where
  accepted_walk : Planned p → slot_at narrow (node_count p) ≤ length work
      → (leaves_then narrow (leaf_nodes narrow p) work (walk narrow p (step_nodes narrow p) work)).code ≡ 0
      → Accepted p work (leaves_then narrow (leaf_nodes narrow p) work (walk narrow p (step_nodes narrow p) work)).bytes
  accepted_walk f room e =
      let rest = walk narrow p (step_nodes narrow p) work in
      let l = leaves_made work rest (leaf_count p) 0 e in
      let few = f.nodes in
      let some-leaves = f.leaves in
      let held : (j : ℕ) → j < leaf_count p → Held narrow (sheet_at j work) =
      λ j h.
      let d = l.passed j (omega arith) (omega arith) in
      decoded_held (laid Stored.Narrow) (sheet_in narrow j work) (sheet_bytes_lem j work small) (record { sizes = d.sizes; fields = d.fields }) in
      let w = walk_made p (step_count p) (leaf_count p) work (omega arith) (omega arith) (λ i a b. f.earlier i a (omega arith)) held
      (ap (λ (o : Outcome). o.code) (sym l.same) ∙ e) in
      subst (λ (o : Outcome). Accepted p work o.bytes) (sym l.same)
      (record {
        form = f;
        passed = λ k h. l.passed k (omega arith) (omega arith);
        same = λ k h. sheets_same p (leaf_count p) rest.bytes work w.before k h;
        derives = λ k a b. w.derives k a (omega arith);
      })

  pub plan_made : (plan narrow p work).code ≡ 0 → Accepted p work (plan narrow p work).bytes
  unfolding plan
  plan_made e =
      passed_on (plan_fails p) (outcome 1 no_node work) _ (Accepted p work) (omega arith)
      (λ h e.
      passed_on (ltb (length work) (slot_at narrow (node_count p))) (outcome 27 no_node work) _ (Accepted p work) (omega arith)
      (λ k e. accepted_walk (planned p h) (ltb-false (length work) (slot_at narrow (node_count p)) k) e) e)
      e

-- ---- as demand 3 reads them

module _ {p work after : List ℕ} (a : Accepted p work after) where
  pub sheet_leaf : (k : ℕ) → k < leaf_count p → sheet_of narrow p work after k ≡ sheet_at k work
  unfolding sheet_of
  sheet_leaf k h = ap (λ (t : Bool). sheet_at k (cond t work after)) (lt-ltb k (leaf_count p) h)

  pub sheet_after : (k : ℕ) → sheet_of narrow p work after k ≡ sheet_at k after
  unfolding sheet_of
  sheet_after k = go (ltb k (leaf_count p)) refl
    where
      go : (t : Bool) → ltb k (leaf_count p) ≡ t → sheet_at k (cond t work after) ≡ sheet_at k after
      go true e = sym (a.same k (ltb-true k (leaf_count p) e))
      go false e = refl
