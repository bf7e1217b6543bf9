-- The lists of checks, part by part. Assumes nothing.
use mathlib.Core.Path.{◌≡◌, refl, sym}
use mathlib.Core.Bool.{Bool, true, false, cond, not, ◌&&◌}
use mathlib.Core.List.{List, [], ◌∷◌, ◌++◌}
use Prim.Native.Nat.{ℕ}
use lib.Dec.{eqb}
use Rattle.numbers.specs.Result.{Check, check, first_failing}
use Rattle.utilities.specs.Lists.{every}
use Rattle.base.specs.Form.{Form}
use Rattle.base.specs.Sheet.{Fields, Sheet}
use Rattle.base.specs.Decode.{groups_in, decode}
use Rattle.base.specs.Code.{head_fields}
use Rattle.base.specs.declared.Head.{Head}
use Rattle.base.specs.declared.Component.{Component}
use Rattle.base.specs.declared.Component.TheVariants as C
use Rattle.shape.specs.Shape.{both_private, same_groups, columns_absent}
use Rattle.orders.specs.Orders.{operand_checks, unary_checks, groups_clash, shape_checks, pair_checks, stack_checks, pool_checks, bound_checks, copy_checks, last_checks}
use Rattle.orders.specs.Parts.{Operand, first, next, operands_code, only}
use Rattle.orders.proofs.Refusals.{Numbered, next_nothing, first_append}

-- ---- no check has the number 0

pub operand_numbered : (x : Fields) → Numbered (operand_checks x)
unfolding every
operand_numbered x = record { all = refl }

pub unary_numbered : (x : Fields) → Numbered (unary_checks x)
unfolding every
unary_numbered x = record { all = refl }

join_numbered : (xs ys : List Check) → Numbered xs → Numbered ys → Numbered (xs ++ ys)
unfolding every
join_numbered [] ys x y = y
join_numbered (c ∷ cs) ys x y = record { all = go (not (eqb c.number 0)) x.all (λ h. (join_numbered cs ys (record { all = h }) y).all) }
  where
    go : (t : Bool) {r q : Bool} → cond t r false ≡ true → (r ≡ true → q ≡ true) → cond t q false ≡ true
    go true e f = f e
    go false e f = e

module _ (l r : Sheet) where
  pub pair_numbered : Numbered (pair_checks l r)
  unfolding every
  pair_numbered = record { all = refl }

  pub pool_numbered : Numbered (pool_checks l r)
  unfolding every
  pool_numbered = record { all = refl }

  pub last_numbered : Numbered (last_checks l r)
  unfolding every
  last_numbered = record { all = refl }

  -- they are 14 to 16, whatever is said of numbers
  pub bounds_every : (p : ℕ → Bool) → p 14 ≡ true → p 15 ≡ true → p 16 ≡ true → (c : Component) → every (λ k. p k.number) (bound_checks c l r) ≡ true
  unfolding every
  bounds_every p x y z C.Abs = refl
  bounds_every p x y z C.Add = refl
  bounds_every p x y z C.Subtract = refl
  bounds_every p x y z C.Multiply = refl
  bounds_every p x y z C.Divide = refl
  bounds_every p x y z C.Modulo = rw (x, y, z)
  bounds_every p x y z C.Log = rw (x, y, z)
  bounds_every p x y z C.Power = rw (x, y, z)
  bounds_every p x y z C.Negative = refl
  bounds_every p x y z C.Pool = refl

  bounds_numbered : (c : Component) → Numbered (bound_checks c l r)
  bounds_numbered c = record { all = bounds_every (λ k. not (eqb k 0)) refl refl refl c }

  columns_numbered : Numbered (check 11 (columns_absent l.fields) ∷ [])
  unfolding every
  columns_numbered = record { all = refl }

  pub copy_numbered : (c : Component) → Numbered (copy_checks c l r)
  copy_numbered c =
      let columns = check 11 (columns_absent l.fields) ∷ [] in
      let bounds = bound_checks c l r in
      join_numbered (operand_checks l.fields) (operand_checks r.fields ++ bounds ++ columns) (operand_numbered l.fields)
      (join_numbered (operand_checks r.fields) (bounds ++ columns) (operand_numbered r.fields)
      (join_numbered bounds columns (bounds_numbered c) columns_numbered))

-- ---- the code of a list, by its parts

-- 6 and 7 in front of other checks
operands_first : (x y : Fields) (cs : List Check) → next (operands_code x y 0) (first_failing cs) ≡ first_failing (operand_checks x ++ operand_checks y ++ cs)
operands_first x y cs =
    let us = operand_checks x in
    let vs = operand_checks y in
    rw (next_nothing (first_failing vs), ← first_append us vs (operand_numbered x))
    (sym (first_append (us ++ vs) cs (join_numbered us vs (operand_numbered x) (operand_numbered y))))

-- the heads are those of the operands' bytes
module _ {F : Form} {s t : List ℕ} {a b : Head} (p : Operand F s a) (q : Operand F t b) where
  pub last_is :
      first 8 (both_private (head_fields a) (head_fields b) && not (same_groups (groups_in F s) (groups_in F t))) 0 ≡ first_failing (last_checks (decode F s) (decode F t))
  unfolding first_failing decode
  last_is = rw (← p.head, ← q.head)

  -- k is what 6 and 7 say
  module _ {k : ℕ} (e : k ≡ operands_code (head_fields a) (head_fields b) 0) where
    -- 8 of the operands' groups, in front of checks that read the fields alone
    clash_first :
        (rest : Sheet → Sheet → List Check)
        → first_failing (rest (only (head_fields a)) (only (head_fields b))) ≡ first_failing (rest (decode F s) (decode F t))
        → next k
        (first 8 (both_private (head_fields a) (head_fields b) && not (same_groups (groups_in F s) (groups_in F t))) (first_failing (rest (only (head_fields a)) (only (head_fields b)))))
        ≡ first_failing (operand_checks (decode F s).fields ++ operand_checks (decode F t).fields ++ (check 8 (groups_clash (decode F s) (decode F t)) ∷ rest (decode F s) (decode F t)))
    unfolding first_failing decode
    clash_first rest same =
        let l = decode F s in
        let r = decode F t in
        rw (e, same, ← p.head, ← q.head) (rw (← p.head, ← q.head) at (operands_first l.fields r.fields (check 8 (groups_clash l r) ∷ rest l r)))

    pub pair_is :
        next k
        (first 8 (both_private (head_fields a) (head_fields b) && not (same_groups (groups_in F s) (groups_in F t)))
        (first_failing (shape_checks (only (head_fields a)) (only (head_fields b)))))
        ≡ first_failing (pair_checks (decode F s) (decode F t))
    unfolding first_failing decode
    pair_is = clash_first shape_checks (rw (← p.head, ← q.head))

    pub pool_is :
        next k
        (first 8 (both_private (head_fields a) (head_fields b) && not (same_groups (groups_in F s) (groups_in F t)))
        (first_failing (stack_checks (only (head_fields a)) (only (head_fields b)))))
        ≡ first_failing (pool_checks (decode F s) (decode F t))
    unfolding first_failing decode
    pool_is = clash_first stack_checks (rw (← p.head, ← q.head))

    -- and m what 14 to 16 say
    pub copy_is :
        (c : Component) {m : ℕ} → m ≡ first_failing (bound_checks c (decode F s) (decode F t))
        → next k (next m (first 11 (columns_absent (head_fields a)) 0)) ≡ first_failing (copy_checks c (decode F s) (decode F t))
    unfolding first_failing decode
    copy_is c h =
        let l = decode F s in
        let r = decode F t in
        let bounds = bound_checks c l r in
        let columns = check 11 (columns_absent (head_fields a)) ∷ [] in
        rw (e, h, ← first_append bounds columns (bounds_numbered l r c), ← p.head, ← q.head)
        (rw (← p.head, ← q.head) at (operands_first l.fields r.fields (bounds ++ columns)))
