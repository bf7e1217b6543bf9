-- From the code of the checks, the derived nature and the rows to what Pool's step answers.
--     pool_columns                          the output columns are within their limits
--     pool_refused                          a check refuses
--     rows_refused                          the rows leave 64 bits: 24, unless 17 to 21 or 29 refuse
--     pool_nature_refused, pool_written     they do not: the nature refuses, 26 and 28 included, or the sheet is written
-- Assumes nothing.
use mathlib.Core.Path.{◌≡◌, refl, sym, ap, subst, ◌∙◌}
use mathlib.Core.Bool.{Bool, true, false, cond}
use mathlib.Core.List.{List}
use mathlib.Core.Option.{Option}
use Prim.Native.Nat.{ℕ}
use native.Mathlib.Omega.{arith}
use lib.IntN.{ℤ, pos}
use lib.Dec.{ltb}
use Rattle.numbers.specs.Result.{Result, ok, refused, and_then, checked, first_failing}
use Rattle.numbers.proofs.Results.{never}
use Rattle.base.specs.Form.{Form}
use Rattle.base.specs.Sheet.{Nature, Fields, Sheet}
use Rattle.base.specs.Decode.{fields_in, nature_in, groups_in, decode}
use Rattle.base.specs.Encode.{encode, value_count, text_size}
use Rattle.base.specs.Checks.{fields_fail}
use Rattle.base.specs.Components.{family_of}
use Rattle.base.specs.declared.Component.{Component}
use Rattle.base.specs.declared.Family.TheVariants as Fam
use Rattle.base.specs.Refusals.{number_of, Answer}
use Rattle.base.specs.declared.refusals.Refusal.{Refusal}
use Rattle.base.proofs.Told.{above_none}
use Rattle.std.specs.declared.result.Result.TheVariants as D
use Rattle.writer.specs.Written.{Written, in_writing, derived_in, sheet_from}
use Rattle.category_lists.specs.Categories.{kept_to, text_kept, kept}
use Rattle.shape.specs.Shape.{widest, rows_sum}
use Rattle.shape.specs.Fields.{pool_fields, pool_sheet, with_node}
use Rattle.orders.specs.Orders.{pool_checks}
use Rattle.orders.proofs.Orders.{pool_numbered}
use Rattle.orders.proofs.Passing.{all_pass}
use Rattle.calls.specs.Natures.{pool_nature}
use Rattle.calls.specs.Derive.{derive_pool}
use Rattle.deliveries.proofs.Columns.{Limited, widest_limited}
use Rattle.deliveries.proofs.Answers.{check_refuses, checks_pass, nature_refuses, nature_given, sheet_bytes_lem}
use Rattle.pool_fields.specs.Code.{late, behind_rows}
use Rattle.pooling.proofs.Early.{Early, pool_early}
use Rattle.writer.specs.declared.Parts.{Parts}

pub pool_columns :
    (F : Form) (left right : List ℕ) → fields_fail F left ≡ false → fields_fail F right ≡ false → first_failing (pool_checks (decode F left) (decode F right)) ≡ 0
    → {x y : Fields} {columns : ℕ} → x ≡ fields_in F left → y ≡ fields_in F right → columns ≡ widest x y → Limited F columns
unfolding decode
pool_columns F left right h k e lh rh width =
    let l = decode F left in
    let r = decode F right in
    widest_limited F left right h k (all_pass (pool_checks l r) (pool_numbered l r) e).1.1.1.1.1.0 lh rh width

-- a nature that is not kept is refused by 26 or 28
over : (F : Form) (n : Nature) {k : ℕ} → refused k ≡ in_writing F (kept F n) → late k ≡ true
unfolding kept_to text_kept
over F n h = go (ltb F.category_limit (value_count n)) h
  where
    long : (t : Bool) {k : ℕ} → refused k ≡ in_writing F (cond t (refused 28) (ok n)) → late k ≡ true
    long true {k} h = let e : k ≡ 28 = cc in rw e
    long false h = absurd (never (sym h))

    go : (t : Bool) {k : ℕ} → refused k ≡ in_writing F (and_then (cond t (refused 26) (ok n)) (text_kept F.text_limit)) → late k ≡ true
    go true {k} h = let e : k ≡ 26 = cc in rw e
    go false h = long (ltb F.text_limit (text_size n)) h

module _ (F : Form) (c : Component) (node : ℕ) (left right : List ℕ) where
  abbrev l : Sheet
  l = decode F left

  abbrev r : Sheet
  r = decode F right

  abbrev bytes : Sheet → List ℕ
  bytes s = encode F (with_node (pos node) s)

  abbrev pool_answer : Result (List ℕ)
  pool_answer = and_then (derive_pool F c l r) (λ s. ok (bytes s))

  -- 17 to 21 and 29; the rows; what both leave
  abbrev nature : Result Nature
  nature = pool_nature c l.fields.data_type (widest l.fields r.fields) l.nature r.nature

  abbrev rows : Result (Option ℤ)
  rows = rows_sum l.fields.rows r.fields.rows

  abbrev stacked : Option ℤ → Nature → Result Sheet
  stacked n k = and_then (kept F k) (λ k. ok (pool_sheet n l r k))

  abbrev rest : Nature → Result Sheet
  rest k = and_then rows (λ n. stacked n k)

  pub pool_refused : (e : Refusal) → number_of e ≡ first_failing (pool_checks l r) → refused (number_of e) ≡ pool_answer
  unfolding derive_pool
  pool_refused e code = check_refuses F (pool_checks l r) nature rest bytes code (λ z. omega (arith, above_none e, z))

  module _ {x y : Fields} (lh : x ≡ fields_in F left) (rh : y ≡ fields_in F right) {columns : ℕ} (width : columns ≡ widest x y) (passes : 0 ≡ first_failing (pool_checks l r)) (pool : family_of c ≡ Fam.Pool) where
    -- what the code derives
    abbrev pool_given : Result Nature
    pool_given = and_then (pool_nature c x.data_type columns (nature_in F left) (nature_in F right)) (kept F)

    pool_given_lem : pool_given ≡ and_then nature (kept F)
    unfolding decode
    pool_given_lem = rw (width, lh, rh)

    pub rows_refused :
        (first second : List ℕ) (d : Answer Parts) → derived_in d first second ≡ in_writing F pool_given → refused 24 ≡ rows_sum x.rows y.rows
        → refused (behind_rows d) ≡ pool_answer
    unfolding decode derive_pool
    rows_refused first second d h e =
        let leave : refused 24 ≡ rows = rw (lh, rh) at e in
        go leave nature (pool_early c pool l.fields.data_type (widest l.fields r.fields) l.nature r.nature) d (h ∙ ap (in_writing F) pool_given_lem)
        ∙ checks_pass F (pool_checks l r) nature rest bytes (pool_numbered l r) (sym passes)
      where
        go :
            refused 24 ≡ rows → (g : Result Nature) → Early g → (d : Answer Parts) → derived_in d first second ≡ in_writing F (and_then g (kept F))
            → refused (behind_rows d) ≡ and_then (and_then g rest) (λ s. ok (bytes s))
        go e (ok n) p (D.Ok q) h = ap (λ (g : Result (Option ℤ)). and_then (and_then g (λ m. stacked m n)) (λ s. ok (bytes s))) e
        go e (ok n) p (D.Err m) h =
            ap (λ (b : Bool). refused (cond b 24 (number_of m))) (over F n h)
            ∙ ap (λ (g : Result (Option ℤ)). and_then (and_then g (λ m. stacked m n)) (λ s. ok (bytes s))) e
        go e (refused k) p (D.Ok q) h = absurd (never h)
        go e (refused k) p (D.Err m) h =
            let same : number_of m ≡ k = cc in
            ap (λ (b : Bool). refused (cond b 24 (number_of m))) (subst (λ (n : ℕ). late n ≡ false) (sym same) p) ∙ ap refused same

    module _ (n : Option ℤ) (sum : ok n ≡ rows_sum x.rows y.rows) where
      -- the rows known, 26 and 28 follow the nature
      in_turn : checked (pool_checks l r) (and_then (and_then nature (kept F)) (λ k. ok (pool_sheet n l r k))) ≡ derive_pool F c l r
      unfolding decode derive_pool
      in_turn = ap (λ (g : Result Sheet). checked (pool_checks l r) g) (go (rw (lh, rh) at sum) nature)
        where
          go : ok n ≡ rows → (g : Result Nature) → and_then (and_then g (kept F)) (λ k. ok (pool_sheet n l r k)) ≡ and_then g rest
          go e (ok k) = ap (λ (o : Result (Option ℤ)). and_then o (λ n. stacked n k)) e
          go e (refused m) = refl

      answered : {o : Result (List ℕ)} → o ≡ and_then (checked (pool_checks l r) (and_then (and_then nature (kept F)) (λ k. ok (pool_sheet n l r k)))) (λ s. ok (bytes s)) → o ≡ pool_answer
      answered e = e ∙ ap (λ (g : Result Sheet). and_then g (λ s. ok (bytes s))) in_turn

      pub pool_nature_refused : {m : ℕ} → refused m ≡ in_writing F pool_given → refused m ≡ pool_answer
      pool_nature_refused h =
          answered
          (nature_refuses F (pool_checks l r) (and_then nature (kept F)) (λ k. ok (pool_sheet n l r k)) bytes (pool_numbered l r)
          (sym passes) (h ∙ ap (in_writing F) pool_given_lem))

      pub pool_written :
          {w : Written} {vs : List ℕ} {h : Fields} → h ≡ pool_fields n x y → ok w ≡ in_writing F pool_given
          → vs ≡ sheet_from F h (pos node) (cond x.releasable (groups_in F right) (groups_in F left)) w → ok vs ≡ pool_answer
      unfolding decode
      pool_written fields g e =
          answered
          (nature_given F (pool_checks l r) (and_then nature (kept F)) (λ k. ok (pool_sheet n l r k)) bytes (pool_numbered l r)
          (sym passes) (g ∙ ap (in_writing F) pool_given_lem)
          (λ k same. sheet_bytes_lem F (with_node (pos node) (pool_sheet n l r k)) (rw (fields, lh, rh) at e) same))
