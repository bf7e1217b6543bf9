-- What the theorems on categories that no rule reaches speak of (`categories_unreached`, `rules_unasked`, `float_power_refused`).
use Rattle.std.specs.Prelude.{◌≡◌, Bool, true, false, List, ℕ, eqb}
use Rattle.numbers.specs.Result.{Result, ok, refused, and_then, checked}
use Rattle.utilities.specs.Lists.{has}
use Rattle.base.specs.Form.{int_type}
use Rattle.base.specs.Sheet.{Sheet, Nature}
use Rattle.base.specs.declared.Component.{Component}
use Rattle.base.specs.declared.Component.TheVariants as C
use Rattle.shape.specs.Shape.{columns_of}
use Rattle.shape.specs.Fields.{copy_sheet}
use Rattle.orders.specs.Orders.{copy_checks, last_checks}
use Rattle.calls.specs.Natures.{two_natures}

-- a refusal by one of the listed numbers
pub record RefusedWith (listed : List ℕ) {X : Type 0} (g : Result X) : Type 0 where
  pub number : ℕ
  pub among : has eqb number listed ≡ true
  pub is : g ≡ refused number

-- 15: the component reads right's bounds, by left's type
abbrev pub reads_right : Component → ℕ → Bool
reads_right C.Abs type = false
reads_right C.Add type = false
reads_right C.Subtract type = false
reads_right C.Multiply type = false
reads_right C.Divide type = false
reads_right C.Modulo type = true
reads_right C.Log type = true
reads_right C.Power type = eqb type int_type
reads_right C.Negative type = false
reads_right C.Pool type = false

-- what Modulo, Log or Power would derive if two operands of categories made what `together` says (`derive_copy` is this with `lists_pair`)
abbrev pub copied_by : (Nature → Nature → Result Nature) → Component → Sheet → Sheet → Result Sheet
copied_by together c l r =
    checked (copy_checks c l r)
    (and_then (two_natures c l.fields.data_type (columns_of l.fields) together l.nature r.nature) (λ k. checked (last_checks l r) (ok (copy_sheet l r k))))
