-- `plan_form::plan_fails` meets its contract: the tests in the order of the definition. Assumes nothing.
use mathlib.Core.Path.{◌≡◌, sym, ap, ap₂, ◌∙◌}
use mathlib.Core.Bool.{not}
use Prim.Native.Nat.{ℕ, ◌+◌, ◌-◌, ◌*◌, ◌≤◌, ◌<◌}
use native.Mathlib.Omega.{arith}
use lib.ListN.{length}
use borrow.Author.Tests.{lt-ltb, le-ltb, eq-eqb, ne_eqb}
use Rattle.plan_form.specs.Form.{node_limit, steps_at, node_count, leaf_count, step_count, plan_fails}
use Rattle.plan_form.proofs.plan_fails.Goals as goal

pub returns-then-plan-lt-STEPS_AT : goal.returns-then-plan-lt-STEPS_AT
unfolding plan_fails
returns-then-plan-lt-STEPS_AT c = rw (lt-ltb (length c.args.plan.now) steps_at c.if-plan-lt-STEPS_AT.true)

pub returns-then-n-eq0 : goal.returns-then-n-eq0
unfolding plan_fails
returns-then-n-eq0 c =
    let p = c.args.plan.now in
    let h : node_count p ≡ 0 = omega arith in
    rw (le-ltb (length p) steps_at c.if-plan-lt-STEPS_AT.false, eq-eqb (node_count p) 0 h)

pub returns-then-n-gt-NODE_LIMIT : goal.returns-then-n-gt-NODE_LIMIT
unfolding plan_fails
returns-then-n-gt-NODE_LIMIT c =
    let p = c.args.plan.now in
    let n0 : node_count p ≡ 0 → ⊥ = λ e. omega arith in
    let h : node_limit < node_count p = omega arith in
    rw (le-ltb (length p) steps_at c.if-plan-lt-STEPS_AT.false, ne_eqb (node_count p) 0 n0, lt-ltb node_limit (node_count p) h)

pub returns-then-leaves-eq0 : goal.returns-then-leaves-eq0
unfolding plan_fails
returns-then-leaves-eq0 c =
    let p = c.args.plan.now in
    let n0 : node_count p ≡ 0 → ⊥ = λ e. omega arith in
    let few : node_count p ≤ node_limit = omega arith in
    let h : leaf_count p ≡ 0 = omega arith in
    rw (
      le-ltb (length p) steps_at c.if-plan-lt-STEPS_AT.false,
      ne_eqb (node_count p) 0 n0,
      le-ltb node_limit (node_count p) few,
      eq-eqb (leaf_count p) 0 h,
    )

pub returns-then-n-leaves : goal.returns-then-n-leaves
unfolding plan_fails
returns-then-n-leaves c =
    let p = c.args.plan.now in
    let n0 : node_count p ≡ 0 → ⊥ = λ e. omega arith in
    let few : node_count p ≤ node_limit = omega arith in
    let l0 : leaf_count p ≡ 0 → ⊥ = λ e. omega arith in
    let h : node_count p < leaf_count p = omega arith in
    rw (
      le-ltb (length p) steps_at c.if-plan-lt-STEPS_AT.false,
      ne_eqb (node_count p) 0 n0,
      le-ltb node_limit (node_count p) few,
      ne_eqb (leaf_count p) 0 l0,
      lt-ltb (node_count p) (leaf_count p) h,
    )

pub returns-then-plan-n : goal.returns-then-plan-n
unfolding plan_fails
returns-then-plan-n c =
    let p = c.args.plan.now in
    let n0 : node_count p ≡ 0 → ⊥ = λ e. omega arith in
    let few : node_count p ≤ node_limit = omega arith in
    let l0 : leaf_count p ≡ 0 → ⊥ = λ e. omega arith in
    let many : leaf_count p ≤ node_count p = omega arith in
    let size = ap₂ (λ (n l : ℕ). steps_at + 8 * (n - l)) c.node_count-n.ensures c.leaf_count-leaves.ensures in
    let h : length p ≡ steps_at + 8 * step_count p → ⊥ = λ e. c.if-plan-n.true (e ∙ sym size) in
    rw (
      le-ltb (length p) steps_at c.if-plan-lt-STEPS_AT.false,
      ne_eqb (node_count p) 0 n0,
      le-ltb node_limit (node_count p) few,
      ne_eqb (leaf_count p) 0 l0,
      le-ltb (node_count p) (leaf_count p) many,
      ne_eqb (length p) (steps_at + 8 * step_count p) h,
    )

pub returns : goal.returns
unfolding plan_fails
returns c =
    let p = c.args.plan.now in
    let n0 : node_count p ≡ 0 → ⊥ = λ e. omega arith in
    let few : node_count p ≤ node_limit = omega arith in
    let l0 : leaf_count p ≡ 0 → ⊥ = λ e. omega arith in
    let many : leaf_count p ≤ node_count p = omega arith in
    let exact : length p ≡ steps_at + 8 * step_count p = omega arith in
    rw (
      le-ltb (length p) steps_at c.if-plan-lt-STEPS_AT.false,
      ne_eqb (node_count p) 0 n0,
      le-ltb node_limit (node_count p) few,
      ne_eqb (leaf_count p) 0 l0,
      le-ltb (node_count p) (leaf_count p) many,
      eq-eqb (length p) (steps_at + 8 * step_count p) exact,
    )
    (ap not c.steps_permitted.ensures)
