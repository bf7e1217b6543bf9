-- The sheet that a component derives, by its family: it states the output's columns, and what holds of the nature over these holds of the sheet
-- (`by_family`), and so what holds of it over any columns (`of_derived`). Assumes nothing.
use mathlib.Core.Path.{◌≡◌, refl, subst}
use mathlib.Core.Bool.{false, not}
use mathlib.Core.List.{List}
use mathlib.Core.Option.{Option, none, some, get_or}
use Prim.Native.Nat.{ℕ}
use lib.Dec.{T}
use Rattle.numbers.specs.Result.{Result, ok, Check}
use Rattle.base.specs.Form.{Form}
use Rattle.base.specs.Sheet.{Nature, Sheet}
use Rattle.base.specs.Bounds.{is_present}
use Rattle.base.specs.Components.{family_of}
use Rattle.base.specs.declared.Component.{Component}
use Rattle.base.specs.declared.Family.{Family}
use Rattle.base.specs.declared.Family.TheVariants as Fam
use Rattle.shape.specs.Shape.{columns_of, widest, rows_sum}
use Rattle.shape.specs.Fields.{pair_fields, copy_fields, pool_fields}
use Rattle.category_lists.specs.Categories.{kept}
use Rattle.orders.specs.Orders.{bound_checks, unary_checks, pair_checks, copy_checks, last_checks, pool_checks}
use Rattle.orders.proofs.Passing.{Passing, pass_parts}
use Rattle.calls.specs.Natures.{binary_nature, pool_nature, unary_nature}
use Rattle.calls.specs.Derive.{derive_unary, derive_pair, derive_copy, derive_pool, derive_by, derive}
use Rattle.derived.proofs.Values.{IfOk, value_is, value_then, value_passed, value_after}
use Rattle.derived.proofs.Natures.{kept_value}

-- a family's checks in front of the nature
abbrev pub checks_by : Component → Family → Sheet → Sheet → List Check
checks_by c Fam.Unary l r = unary_checks l.fields
checks_by c Fam.Pair l r = pair_checks l r
checks_by c Fam.Copy l r = copy_checks c l r
checks_by c Fam.Pool l r = pool_checks l r

-- the nature that it derives over the columns
abbrev pub nature_by : Form → Component → Family → ℕ → Sheet → Sheet → Result Nature
nature_by F c Fam.Unary columns l r = unary_nature F.category_limit c l.fields.data_type columns l.nature
nature_by F c Fam.Pair columns l r = binary_nature F c l.fields.data_type columns l.nature r.nature
nature_by F c Fam.Copy columns l r = binary_nature F c l.fields.data_type columns l.nature r.nature
nature_by F c Fam.Pool columns l r = pool_nature c l.fields.data_type columns l.nature r.nature

-- 11 has passed
stated : (o : Option ℕ) → not (is_present o) ≡ false → o ≡ some (get_or o 0)
stated none e = absurd (subst T e tt)
stated (some n) e = refl

-- a sheet that states its columns, and whose nature is P over them
abbrev pub OverColumns : (ℕ → Nature → Type 0) → Sheet → Type 0
OverColumns P s = (s.fields.columns ≡ some (columns_of s.fields)) × P (columns_of s.fields) s.nature

module _ (F : Form) (c : Component) (l r : Sheet) (P : ℕ → Nature → Type 0) where
  pub by_family : (f : Family) → ((columns : ℕ) → Passing (checks_by c f l r) → IfOk (P columns) (nature_by F c f columns l r)) → IfOk (OverColumns P) (derive_by F c f l r)
  unfolding derive_unary derive_pair derive_copy derive_pool pair_fields copy_fields pool_fields
  by_family Fam.Unary h =
      let columns = columns_of l.fields in
      value_passed (OverColumns P) (unary_checks l.fields) _
      (λ passing.
      value_then (P columns) (OverColumns P) (nature_by F c Fam.Unary columns l r) _ (h columns passing)
      (λ k p. (stated l.fields.columns passing.1.0, p)))
  by_family Fam.Pair h =
      let columns = widest l.fields r.fields in
      value_passed (OverColumns P) (pair_checks l r) _
      (λ passing. value_then (P columns) (OverColumns P) (nature_by F c Fam.Pair columns l r) _ (h columns passing) (λ k p. (refl, p)))
  by_family Fam.Copy h =
      let columns = columns_of l.fields in
      value_passed (OverColumns P) (copy_checks c l r) _
      (λ passing.
      value_then (P columns) (OverColumns P) (nature_by F c Fam.Copy columns l r) _ (h columns passing)
      (λ k p. value_passed (OverColumns P) (last_checks l r) _
      (λ last. (stated l.fields.columns (pass_parts (bound_checks c l r) _ passing.1.1.1.1).1.0, p))))
  by_family Fam.Pool h =
      let columns = widest l.fields r.fields in
      value_passed (OverColumns P) (pool_checks l r) _
      (λ passing.
      value_then (P columns) (OverColumns P) (nature_by F c Fam.Pool columns l r) _ (h columns passing)
      (λ k p. value_after (OverColumns P) (rows_sum l.fields.rows r.fields.rows) _
      (λ rows. value_then (P columns) (OverColumns P) (kept F k) _ (kept_value (P columns) F k p) (λ k' p'. (refl, p')))))

  pub of_derived : {s : Sheet} → ((columns : ℕ) → IfOk (P columns) (nature_by F c (family_of c) columns l r)) → derive F c l r ≡ ok s → OverColumns P s
  unfolding derive
  of_derived h e = value_is (OverColumns P) (derive F c l r) (by_family (family_of c) (λ columns passing. h columns)) e
