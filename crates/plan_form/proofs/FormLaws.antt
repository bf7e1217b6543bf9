-- Laws of the plan's form.
--     longest_is                          a slot, in bytes
--     permitted_unlisted, permitted_is    the test of a step, by what its number names
--     planned                             a plan that passed 1: its counts, its length and its steps
--     step_of, listed, earlier            a step of such a plan
-- Assumes nothing.
use mathlib.Core.Path.{◌≡◌, refl, sym, ap, subst, ◌∙◌}
use mathlib.Core.Bool.{Bool, true, false, not, ◌&&◌, ◌||◌}
use mathlib.Core.List.{List}
use Prim.Native.Nat.{ℕ, ◌+◌, ◌*◌, ◌≤◌, ◌<◌}
use native.Mathlib.Omega.{arith}
use lib.Dec.{T, eqb, ltb}
use lib.ListN.{length}
use borrow.Author.Tests.{eqb-true, eqb-false, ltb-true, ltb-false, not-false}
use Rattle.base.specs.Form.{narrow, longest}
use Rattle.base.specs.Checks.{holds_from}
use Rattle.base.specs.Components.{component_of, family_of, is_unary}
use Rattle.base.specs.declared.Component.{Component}
use Rattle.std.specs.declared.option.Option as Rust
use Rattle.std.specs.declared.option.Option.TheVariants as N
use Rattle.base.proofs.Flags.{or_no, and_both}
use Rattle.base.proofs.Holding.{holds_within}
use Rattle.plan_form.specs.Form.{node_limit, steps_at, node_count, leaf_count, step_count, component_number, left_of, right_of, step_permitted, plan_fails}
use Rattle.plan_form.specs.Code.{StepOf}

-- 02, S-2: "Slots and the longest sheet become 2,308 bytes"
pub longest_is : longest narrow ≡ 2308
longest_is = refl

-- whether node k is a permitted step
abbrev pub permitted : List ℕ → ℕ → Bool
permitted p k = step_permitted p (component_of (component_number p k)) k

-- ---- the test of a step, whose component's number is m

module _ (p : List ℕ) (k : ℕ) {m : ℕ} (e : m ≡ component_number p k) where
  pub permitted_unlisted : component_of m ≡ N.None → false ≡ permitted p k
  unfolding step_permitted
  permitted_unlisted u = sym (ap (λ (n : Rust.Option Component). step_permitted p n k) (ap component_of (sym e) ∙ u))

  pub permitted_is : {c : Component} {l r : ℕ} {unary : Bool} → component_of m ≡ N.Some c → l ≡ left_of p k → r ≡ right_of p k → unary ≡ is_unary (family_of c)
      → (ltb l k && ltb r k && (not unary || eqb l r)) ≡ permitted p k
  unfolding step_permitted
  permitted_is {c} {l} {r} {unary} i el er eu =
      rw (el, er, eu) (sym (ap (λ (n : Rust.Option Component). step_permitted p n k) (ap component_of (sym e) ∙ i)))

permitted_listed : (p : List ℕ) (n : Rust.Option Component) (k : ℕ) → step_permitted p n k ≡ true → (c : Component) × (n ≡ N.Some c)
unfolding step_permitted
permitted_listed p N.None k e = absurd (subst T (sym e) tt)
permitted_listed p (N.Some c) k e = (c, refl)

permitted_earlier : (p : List ℕ) (n : Rust.Option Component) (k : ℕ) → step_permitted p n k ≡ true → (left_of p k < k) × (right_of p k < k)
unfolding step_permitted
permitted_earlier p N.None k e = absurd (subst T (sym e) tt)
permitted_earlier p (N.Some c) k e =
    let a = ltb (left_of p k) k in
    let b = ltb (right_of p k) k in
    let z = and_both a b (and_both (a && b) (not (is_unary (family_of c)) || eqb (left_of p k) (right_of p k)) e).0 in
    (ltb-true (left_of p k) k z.0, ltb-true (right_of p k) k z.1)

-- ---- a plan that passed 1

pub record Planned (p : List ℕ) : Type 0 where
  pub sizes : steps_at ≤ length p
  pub nodes : node_count p ≤ node_limit
  pub some_leaf : 1 ≤ leaf_count p
  pub leaves : leaf_count p ≤ node_count p
  pub exact : length p ≡ steps_at + 8 * step_count p
  pub listed : (k : ℕ) → leaf_count p ≤ k → k < node_count p → (c : Component) × (component_of (component_number p k) ≡ N.Some c)
  pub earlier : (k : ℕ) → leaf_count p ≤ k → k < node_count p → (left_of p k < k) × (right_of p k < k)

pub planned : (p : List ℕ) → plan_fails p ≡ false → Planned p
unfolding plan_fails
planned p e =
    let a = ltb (length p) steps_at in
    let b = eqb (node_count p) 0 in
    let c = ltb node_limit (node_count p) in
    let d = eqb (leaf_count p) 0 in
    let f = ltb (node_count p) (leaf_count p) in
    let g = eqb (length p) (steps_at + 8 * step_count p) in
    let h = holds_from (step_count p) (leaf_count p) (permitted p) in
    let z = or_no (a || b || c || d || f || not g) (not h) e in
    let y = or_no (a || b || c || d || f) (not g) z.0 in
    let x = or_no (a || b || c || d) f y.0 in
    let w = or_no (a || b || c) d x.0 in
    let v = or_no (a || b) c w.0 in
    let some = eqb-false (leaf_count p) 0 w.1 in
    let many = ltb-false (node_count p) (leaf_count p) x.1 in
    let each : (k : ℕ) → leaf_count p ≤ k → k < node_count p → permitted p k ≡ true =
    λ k i j. holds_within (permitted p) (step_count p) (leaf_count p) k (not-false h z.1) i (omega arith) in
    record {
      sizes = ltb-false (length p) steps_at (or_no a b v.0).0;
      nodes = ltb-false node_limit (node_count p) v.1;
      some_leaf = omega arith;
      leaves = many;
      exact = eqb-true (length p) (steps_at + 8 * step_count p) (not-false g y.1);
      listed = λ k i j. permitted_listed p (component_of (component_number p k)) k (each k i j);
      earlier = λ k i j. permitted_earlier p (component_of (component_number p k)) k (each k i j);
    }

-- ---- a step of such a plan

module _ (p : List ℕ) (k : ℕ) (passed : plan_fails p ≡ false) (later : leaf_count p ≤ k) (within : k < node_count p) where
  pub step_of : StepOf p k
  step_of = record { exact = (planned p passed).exact; later = later; within = within }

  pub listed : (c : Component) × (component_of (component_number p k) ≡ N.Some c)
  listed = (planned p passed).listed k later within

  pub earlier : (left_of p k < k) × (right_of p k < k)
  earlier = (planned p passed).earlier k later within
