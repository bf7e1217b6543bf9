-- Demand 3 for the plan call: whatever row is chosen, every column of every node of an accepted plan has an exact result that keeps to what its sheet
-- states.
--     contained    over the call's definition, for a work buffer of bytes
-- Assumes nothing.
use mathlib.Core.Path.{◌≡◌, refl, sym, ap, ap₂, subst, ◌∙◌}
use mathlib.Core.Bool.{Bool, true, false, cond}
use mathlib.Core.List.{List, [], ◌∷◌, ◌++◌}
use mathlib.Core.Option
use mathlib.Core.Option.{Option, some}
use Prim.Native.Nat.{ℕ, zero, suc, ◌≤◌, ◌<◌}
use native.Mathlib.Omega.{arith}
use lib.Dec.{eqb, ltb}
use lib.IntN.{ℤ}
use lib.ListN.{length, get_or, length-append, get_or-append}
use lib.Seq.{get_or_at}
use borrow.Author.Tests.{eqb-true, eqb-false, ltb-true, ltb-false}
use Rattle.numbers.specs.Result.{ok}
use Rattle.utilities.specs.Lists.{list_from}
use Rattle.base.specs.Form.{narrow}
use Rattle.base.specs.Sheet.{Sheet, Nature, absent, whole_range, float_range, whole_lists, bool_lists, float_lists, text_lists}
use Rattle.base.specs.Decode.{decode}
use Rattle.base.specs.Components.{component_of, family_of}
use Rattle.base.specs.declared.Component.{Component}
use Rattle.base.specs.declared.Family.{Family}
use Rattle.base.specs.declared.Family.TheVariants as Fam
use Rattle.std.specs.declared.option.Option as Rust
use Rattle.base.proofs.Passed.{Passed}
use Rattle.base.proofs.Permitted.{permitted, columns_within_lem}
use Rattle.shape.specs.Shape.{columns_of}
use Rattle.shape.specs.Fields.{with_node, numbered}
use Rattle.calls.specs.Derive.{derive}
use Rattle.octets.proofs.Reread.{AllBytes}
use Rattle.plan_form.specs.Form.{node_count, leaf_count, component_number, left_of, right_of}
use Rattle.calls.specs.Walk.{sheet_in, plan}
use Rattle.containment.specs.Exact.{Side, Row, Results, exact_of, column_of, leaf_results, step_results, node_results, results_of}
use Rattle.containment.specs.Demand.{WholeNature, Suits, Premises, Inside, Claim, sheet_of, Contained}
use Rattle.containment.specs.Good.{Fitting, Good, step_of}
use Rattle.containment.proofs.Nodes.{columns_are, good_made}
use Rattle.containment.proofs.Steps.{step_good}
use Rattle.containment.proofs.Accepted.{Accepted, plan_made, sheet_leaf, sheet_after}
use Rattle.containment.proofs.Counted.{leaf_whole}

-- ---- one node

leaf_one : (s : List ℕ) → Passed narrow s → {n : ℕ} → (decode narrow s).fields.columns ≡ some n → 1 ≤ n
unfolding decode
leaf_one s p e = (columns_within_lem narrow s (permitted narrow s p.fields) e).0

whole_fitting : (k : Nature) (n : ℕ) → WholeNature k n → Fitting k n
whole_fitting absent n h = tt
whole_fitting (whole_range rs) n h = h
whole_fitting (float_range rs) n h = h
whole_fitting (whole_lists ls) n h = h
whole_fitting (bool_lists ls) n h = h
whole_fitting (float_lists ls) n h = h
whole_fitting (text_lists ls) n h = h

-- a node number changes neither columns nor nature
good_node : (z : ℤ) (s : Sheet) (rs : Results) → Good s rs → Good (with_node z s) rs
good_node z s rs g = record { columns = g.columns; at_least_one = g.at_least_one; fits = g.fits; result = g.result }

good_numbered : (side : Side) (c : Component) (k : ℕ) (s : Sheet) (xs ys : Results) → Good s (step_of side c s xs ys)
    → Good (numbered (family_of c) k s) (step_of side c (numbered (family_of c) k s) xs ys)
unfolding numbered
good_numbered side c k s xs ys g = go (family_of c)
  where
    go : (f : Family) → Good (numbered f k s) (step_of side c (numbered f k s) xs ys)
    go Fam.Unary = g
    go Fam.Pair = good_node _ s _ g
    go Fam.Copy = g
    go Fam.Pool = good_node _ s _ g

-- ---- all nodes, in order

module _ (p : List ℕ) (sheet : ℕ → Sheet) (row : Row) where
  results_length : (n : ℕ) → length (results_of p sheet row n) ≡ n
  unfolding results_of
  results_length zero = refl
  results_length (suc n) =
      let h = results_length n in
      length-append (results_of p sheet row n) (node_results p sheet row (results_of p sheet row n) n ∷ []) ∙ omega arith

  -- a node's results, by its operands'
  abbrev step_with : ℕ → Results → Results → Results
  step_with k xs ys = list_from (columns_of (sheet k).fields) 0 (λ j. exact_of (row.side k) (component_of (component_number p k)) (column_of xs j) (column_of ys j))

  module _ (leaf : (k : ℕ) → k < leaf_count p → Good (sheet k) (leaf_results p sheet row k))
      (earlier : (k : ℕ) → leaf_count p ≤ k → k < node_count p → (left_of p k < k) × (right_of p k < k))
      (step : (k : ℕ) → leaf_count p ≤ k → k < node_count p → (xs ys : Results) → Good (sheet (left_of p k)) xs → Good (sheet (right_of p k)) ys
      → Good (sheet k) (step_with k xs ys)) where
    node_good : (n : ℕ) → n < node_count p → ((k : ℕ) → k < n → Good (sheet k) (get_or (results_of p sheet row n) k []))
        → Good (sheet n) (node_results p sheet row (results_of p sheet row n) n)
    node_good n h done = go (ltb n (leaf_count p)) refl
      where
        go : (t : Bool) → ltb n (leaf_count p) ≡ t
            → Good (sheet n) (cond t (leaf_results p sheet row n) (step_results p sheet row (results_of p sheet row n) n))
        go true e = leaf n (ltb-true n (leaf_count p) e)
        go false e =
            let a = ltb-false n (leaf_count p) e in
            let o = earlier n a h in
            step n a h _ _ (done (left_of p n) o.0) (done (right_of p n) o.1)

    nodes_good : (n : ℕ) → n ≤ node_count p → (k : ℕ) → k < n → Good (sheet k) (get_or (results_of p sheet row n) k [])
    unfolding results_of
    nodes_good zero h k i = absurd (omega arith)
    nodes_good (suc n) h k i =
        let all = nodes_good n (omega arith) in
        go (eqb k n) refl all (node_good n (omega arith) all)
      where
        go : (t : Bool) → eqb k n ≡ t → ((k : ℕ) → k < n → Good (sheet k) (get_or (results_of p sheet row n) k []))
            → Good (sheet n) (node_results p sheet row (results_of p sheet row n) n)
            → Good (sheet k) (get_or (results_of p sheet row n ++ (node_results p sheet row (results_of p sheet row n) n ∷ [])) k [])
        go true e all g =
            let done = results_of p sheet row n in
            let here = get_or_at done (node_results p sheet row done n) [] [] n (results_length n) in
            subst (λ (i : ℕ). Good (sheet i) (get_or (done ++ (node_results p sheet row done n ∷ [])) i [])) (sym (eqb-true k n e))
            (subst (Good (sheet n)) (sym here) g)
        go false e all g =
            let done = results_of p sheet row n in
            let m = results_length n in
            let b = eqb-false k n e in
            let j : k < n = omega arith in
            subst (Good (sheet k)) (sym (get_or-append done (node_results p sheet row done n ∷ []) [] k (omega arith))) (all k j)

    claim : Claim p sheet row
    claim = record {
      columns = λ k h. let g = nodes_good (node_count p) (omega arith) k h in (length (get_or (results_of p sheet row (node_count p)) k []), g.columns);
      result = λ k h j i. let g = nodes_good (node_count p) (omega arith) k h in g.result j (subst (λ (n : ℕ). j < n) (columns_are g) i);
    }

-- ---- an accepted plan

module _ (p work after : List ℕ) (a : Accepted p work after) where
  module _ (h : Premises p (sheet_of narrow p work after)) (row : Row) (i : Inside p (sheet_of narrow p work after) row) where
    leaf_good : (k : ℕ) → k < leaf_count p → Good (sheet_of narrow p work after k) (leaf_results p (sheet_of narrow p work after) row k)
    leaf_good k b =
        let s = sheet_of narrow p work after k in
        let c = h.leaf_columns k b in
        let n : columns_of s.fields ≡ c.0 = ap (λ (o : Option ℕ). Option.get_or o 0) c.1 in
        let w = leaf_one (sheet_in narrow k work) (a.passed k b) (ap (λ (s : Sheet). s.fields.columns) (sym (sheet_leaf a k b)) ∙ c.1) in
        good_made s c.0 (λ j. some (row.number k j)) c.1 w
        (whole_fitting s.nature c.0 (subst (WholeNature s.nature) n (leaf_whole a h k b)))
        (λ j l. (row.number k j, refl, i.leaf k b j (omega arith)))

    step_made : (k : ℕ) → leaf_count p ≤ k → k < node_count p → (xs ys : Results)
        → Good (sheet_of narrow p work after (left_of p k)) xs → Good (sheet_of narrow p work after (right_of p k)) ys
        → Good (sheet_of narrow p work after k) (step_with p (sheet_of narrow p work after) row k xs ys)
    step_made k b c xs ys g f =
        let d = a.derives k b c in
        let l = sheet_of narrow p work after (left_of p k) in
        let r = sheet_of narrow p work after (right_of p k) in
        let e : derive narrow d.component l r ≡ ok d.sheet =
        ap₂ (λ (x y : Sheet). derive narrow d.component x y) (sheet_after a (left_of p k)) (sheet_after a (right_of p k)) ∙ d.derived in
        let u = subst (λ (n : Rust.Option Component). Suits n l r) d.listed (h.components k b c) in
        let side = row.side k in
        let good = step_good side narrow d.component l r d.sheet xs ys e g f (h.operand_columns k b c) u in
        let is = sheet_after a k ∙ d.is in
        subst
        (λ (n : Rust.Option Component). Good (sheet_of narrow p work after k) (list_from (columns_of (sheet_of narrow p work after k).fields) 0 (λ j. exact_of side n (column_of xs j) (column_of ys j))))
        (sym d.listed)
        (subst (λ (t : Sheet). Good t (step_of side d.component t xs ys)) (sym is) (good_numbered side d.component k d.sheet xs ys good))

    accepted_claim : Claim p (sheet_of narrow p work after) row
    accepted_claim = claim p (sheet_of narrow p work after) row leaf_good a.form.earlier step_made

pub contained : (p work : List ℕ) → AllBytes work → (plan narrow p work).code ≡ 0 → Contained narrow p work (plan narrow p work).bytes
contained p work small e = λ h row i. accepted_claim p work (plan narrow p work).bytes (plan_made p work small e) h row i
