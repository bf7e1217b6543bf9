-- `propagate_property` on sheets: the checks of a component in their order, and the sheet that it derives. No rule reads a node number.
use Rattle.std.specs.Prelude.{ℕ}
use Rattle.numbers.specs.Result.{Result, ok, and_then, checked}
use Rattle.base.specs.Form.{Form}
use Rattle.base.specs.Sheet.{Sheet}
use Rattle.base.specs.Components.{family_of}
use Rattle.base.specs.declared.Component.{Component}
use Rattle.base.specs.declared.Family.{Family}
use Rattle.base.specs.declared.Family.TheVariants as Fam
use Rattle.shape.specs.Shape.{columns_of, widest, rows_sum}
use Rattle.category_lists.specs.Categories.{kept}
use Rattle.calls.specs.Natures.{unary_nature, binary_nature, pool_nature}
use Rattle.orders.specs.Orders.{unary_checks, pair_checks, copy_checks, last_checks, pool_checks}
use Rattle.shape.specs.Fields.{pair_sheet, copy_sheet, unary_sheet, pool_sheet}

-- of the form F: how many categories and how much text a result may hold
module _ (F : Form) (c : Component) where
  -- Abs and Negative: 6, 11, then 18 to 26, 29 behind 20
  unfoldable pub derive_unary : Sheet → Result Sheet
  derive_unary s =
      checked (unary_checks s.fields)
      (and_then (unary_nature F.category_limit c s.fields.data_type (columns_of s.fields) s.nature) (λ k. ok (unary_sheet s k)))

  -- Add, Subtract, Multiply, Divide: in list order, 29 behind 20 and 28 behind 26
  unfoldable pub derive_pair : Sheet → Sheet → Result Sheet
  derive_pair l r =
      checked (pair_checks l r)
      (and_then (binary_nature F c l.fields.data_type (widest l.fields r.fields) l.nature r.nature) (λ k. ok (pair_sheet c l r k)))

  -- Modulo, Log, Power: 6, 7, 14, 15, 16, 11, then 17 to 26, 29 behind 20, then 8
  unfoldable pub derive_copy : Sheet → Sheet → Result Sheet
  derive_copy l r =
      checked (copy_checks c l r)
      (and_then (binary_nature F c l.fields.data_type (columns_of l.fields) l.nature r.nature) (λ k. checked (last_checks l r) (ok (copy_sheet l r k))))

  -- Pool. 02, S-1: "It checks 6, 7, 8, 11, 12 .., 14 .., then 17 to 21, 24, 26"; S-2: 28 "directly after 26"; S-5: 29 "directly after 20"
  unfoldable pub derive_pool : Sheet → Sheet → Result Sheet
  derive_pool l r =
      checked (pool_checks l r)
      (and_then (pool_nature c l.fields.data_type (widest l.fields r.fields) l.nature r.nature)
      (λ k. and_then (rows_sum l.fields.rows r.fields.rows) (λ rows. and_then (kept F k) (λ k'. ok (pool_sheet rows l r k')))))

  abbrev pub derive_by : Family → Sheet → Sheet → Result Sheet
  derive_by Fam.Unary l r = derive_unary l
  derive_by Fam.Pair l r = derive_pair l r
  derive_by Fam.Copy l r = derive_copy l r
  derive_by Fam.Pool l r = derive_pool l r

  unfoldable pub derive : Sheet → Sheet → Result Sheet
  derive l r = derive_by (family_of c) l r
