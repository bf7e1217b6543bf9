-- No rule reads a node number: operands that differ in it alone are refused alike, or derive sheets that differ in it alone. So a plan's part refuses with
-- the same number when its nodes are numbered anew.
--     numberless      of a derivation, operand by operand
--     derive_alike    the same, of operands that are alike; a chain of steps goes by it
--     step_alike      of a step on bytes, and of the call's own node number
-- Assumes nothing.
use mathlib.Core.Path.{◌≡◌, refl, sym, ap}
use mathlib.Core.Bool.{Bool, true, false, cond}
use mathlib.Core.List.{List, [], ◌∷◌}
use Prim.Native.Nat.{ℕ}
use lib.IntN.{ℤ, pos}
use Rattle.numbers.specs.Result.{Result, ok, refused, and_then, Check, checked}
use Rattle.numbers.proofs.Results.{never}
use Rattle.base.specs.Form.{Form}
use Rattle.base.specs.Sheet.{Sheet}
use Rattle.base.specs.Checks.{read}
use Rattle.base.specs.Code.{code_of}
use Rattle.base.specs.Encode.{encode}
use Rattle.base.specs.Components.{family_of, is_unary}
use Rattle.base.specs.declared.Component.{Component}
use Rattle.base.specs.declared.Component.TheVariants as C
use Rattle.base.specs.declared.Family.{Family}
use Rattle.base.specs.declared.Family.TheVariants as Fam
use Rattle.shape.specs.Shape.{columns_of, widest, rows_sum}
use Rattle.orders.specs.Orders.{unary_checks, pair_checks, bound_checks, copy_checks, last_checks, pool_checks}
use Rattle.shape.specs.Fields.{with_node, numbered}
use Rattle.category_lists.specs.Categories.{kept}
use Rattle.calls.specs.Natures.{unary_nature, binary_nature, pool_nature}
use Rattle.calls.specs.Derive.{derive_unary, derive_pair, derive_copy, derive_pool, derive_by, derive}
use Rattle.calls.specs.Single.{step_sheet, step}

-- what was derived, with n as its node number
abbrev pub renumbered : ℤ → Result Sheet → Result Sheet
renumbered n g = and_then g (λ s. ok (with_node n s))

-- the same refusal, or sheets that differ in their node number alone
pub record Alike (g h : Result Sheet) : Type 0 where
  pub but_node : (n : ℤ) → renumbered n g ≡ renumbered n h

pub alike_same : {g h : Result Sheet} → g ≡ h → Alike g h
alike_same e = record { but_node = λ n. ap (renumbered n) e }

-- ---- parts of a rule

cond_alike : (t : Bool) {g g' h h' : Result Sheet} → Alike g g' → Alike h h' → Alike (cond t g h) (cond t g' h')
cond_alike true p q = p
cond_alike false p q = q

pub checked_alike : (cs : List Check) {g h : Result Sheet} → Alike g h → Alike (checked cs g) (checked cs h)
unfolding checked
checked_alike [] p = p
checked_alike (c ∷ cs) p = cond_alike c.fails (alike_same refl) (checked_alike cs p)

then_alike : {X : Type 0} (g : Result X) (f h : X → Result Sheet) → ((x : X) → Alike (f x) (h x)) → Alike (and_then g f) (and_then g h)
then_alike (ok x) f h p = p x
then_alike (refused k) f h p = alike_same refl

sheet_alike : (g g' : Result Sheet) (f f' : Sheet → Result Sheet) → Alike g g'
    → ((l l' : Sheet) → Alike (ok l) (ok l') → Alike (f l) (f' l')) → Alike (and_then g f) (and_then g' f')
sheet_alike (ok l) (ok l') f f' e p = p l l' e
sheet_alike (ok l) (refused k) f f' e p = absurd (never (e.but_node (pos 0)))
sheet_alike (refused k) (ok l) f f' e p = absurd (never (sym (e.but_node (pos 0))))
sheet_alike (refused k) (refused m) f f' e p = record { but_node = λ n. e.but_node n }

-- ---- a derivation

-- 14 to 16 read types and natures
bounds_numberless : (c : Component) (a b : ℤ) (l r : Sheet) → bound_checks c (with_node a l) (with_node b r) ≡ bound_checks c l r
bounds_numberless C.Abs a b l r = refl
bounds_numberless C.Add a b l r = refl
bounds_numberless C.Subtract a b l r = refl
bounds_numberless C.Multiply a b l r = refl
bounds_numberless C.Divide a b l r = refl
bounds_numberless C.Modulo a b l r = refl
bounds_numberless C.Log a b l r = refl
bounds_numberless C.Power a b l r = refl
bounds_numberless C.Negative a b l r = refl
bounds_numberless C.Pool a b l r = refl

module _ (F : Form) (c : Component) (a b : ℤ) (l r : Sheet) where
  unary_numberless : Alike (derive_unary F c (with_node a l)) (derive_unary F c l)
  unfolding derive_unary
  unary_numberless =
      checked_alike (unary_checks l.fields)
      (then_alike (unary_nature F.category_limit c l.fields.data_type (columns_of l.fields) l.nature) _ _ (λ k. record { but_node = λ n. refl }))

  pair_numberless : Alike (derive_pair F c (with_node a l) (with_node b r)) (derive_pair F c l r)
  unfolding derive_pair
  pair_numberless =
      checked_alike (pair_checks l r)
      (then_alike (binary_nature F c l.fields.data_type (widest l.fields r.fields) l.nature r.nature) _ _ (λ k. record { but_node = λ n. refl }))

  copy_numberless : Alike (derive_copy F c (with_node a l) (with_node b r)) (derive_copy F c l r)
  unfolding derive_copy
  copy_numberless =
      rw (bounds_numberless c a b l r)
      (checked_alike (copy_checks c l r)
      (then_alike (binary_nature F c l.fields.data_type (columns_of l.fields) l.nature r.nature) _ _
      (λ k. checked_alike (last_checks l r) (record { but_node = λ n. refl }))))

  pool_numberless : Alike (derive_pool F c (with_node a l) (with_node b r)) (derive_pool F c l r)
  unfolding derive_pool
  pool_numberless =
      checked_alike (pool_checks l r)
      (then_alike (pool_nature c l.fields.data_type (widest l.fields r.fields) l.nature r.nature) _ _
      (λ k. then_alike (rows_sum l.fields.rows r.fields.rows) _ _ (λ rows. then_alike (kept F k) _ _ (λ k'. record { but_node = λ n. refl }))))

  by_family : (f : Family) → Alike (derive_by F c f (with_node a l) (with_node b r)) (derive_by F c f l r)
  by_family Fam.Unary = unary_numberless
  by_family Fam.Pair = pair_numberless
  by_family Fam.Copy = copy_numberless
  by_family Fam.Pool = pool_numberless

  pub numberless : Alike (derive F c (with_node a l) (with_node b r)) (derive F c l r)
  unfolding derive
  numberless = by_family (family_of c)

same_sheet : (l l' : Sheet) → Alike (ok l) (ok l') → l ≡ with_node l.node l'
same_sheet l l' e = let h : ◌≡◌ {A = Result Sheet} (ok l) (ok (with_node l.node l')) = e.but_node l.node in cc

pub derive_alike : (F : Form) (c : Component) (l l' r r' : Sheet) → Alike (ok l) (ok l') → Alike (ok r) (ok r')
    → Alike (derive F c l r) (derive F c l' r')
derive_alike F c l l' r r' p q =
    rw (same_sheet l l' p, same_sheet r r' q) (numberless F c l.node r.node l' r')

-- ---- a step on bytes

module _ (F : Form) (c : Component) (left left' right right' : List ℕ) (p : Alike (read F left) (read F left')) (q : Alike (read F right) (read F right')) where
  pub step_sheet_alike : Alike (step_sheet F c left right) (step_sheet F c left' right')
  unfolding step_sheet
  step_sheet_alike =
      sheet_alike (read F left) (read F left') _ _ p
      (λ l l' e.
      cond_alike (is_unary (family_of c)) (derive_alike F c l l' l l' e e)
      (sheet_alike (read F right) (read F right') _ _ q (λ r r' f. derive_alike F c l l' r r' e f)))

  -- a code of 0 is a step that derives; `node` and `node'` are the calls' own node numbers
  pub step_alike : (node node' : ℕ) → code_of (step F c node left right) ≡ code_of (step F c node' left' right')
  unfolding step
  step_alike node node' = go (step_sheet F c left right) (step_sheet F c left' right') step_sheet_alike
    where
      go : (g h : Result Sheet) → Alike g h
          → code_of (and_then g (λ s. ok (encode F (numbered (family_of c) node s)))) ≡ code_of (and_then h (λ s. ok (encode F (numbered (family_of c) node' s))))
      go (ok s) (ok t) e = refl
      go (ok s) (refused k) e = absurd (never (e.but_node (pos 0)))
      go (refused k) (ok t) e = absurd (never (sym (e.but_node (pos 0))))
      go (refused k) (refused m) e = let h = e.but_node (pos 0) in cc
