-- The output columns of operands that passed 4 and 11.
--     columns_limited    one operand's
--     widest_limited     the wider of two
-- Assumes nothing.
use mathlib.Core.Path.{◌≡◌, refl, subst}
use mathlib.Core.Bool.{false, not, ◌||◌}
use mathlib.Core.List.{List}
use mathlib.Core.Option.{Option, none, some, get_or}
use Prim.Native.Nat.{ℕ, ◌≤◌, ◌<◌}
use native.Mathlib.Omega.{arith}
use lib.Dec.{T}
use Rattle.base.specs.Form.{Form}
use Rattle.base.specs.Sheet.{Fields}
use Rattle.base.specs.Decode.{fields_in}
use Rattle.base.specs.Checks.{fields_fail}
use Rattle.base.specs.Bounds.{is_present}
use Rattle.base.proofs.Flags.{or_no}
use Rattle.base.proofs.Permitted.{permitted, columns_within_lem}
use Rattle.shape.specs.Shape.{columns_of, columns_absent, widest}

abbrev pub Limited : Form → ℕ → Type 0
Limited F n = (0 < n) × (n ≤ F.column_limit)

-- 11 has kept an absent count out, and 4 any beyond the limit
pub columns_limited : (F : Form) (s : List ℕ) → fields_fail F s ≡ false → columns_absent (fields_in F s) ≡ false → Limited F (columns_of (fields_in F s))
columns_limited F s h e = go (fields_in F s).columns refl e
  where
    go : (o : Option ℕ) → (fields_in F s).columns ≡ o → not (is_present o) ≡ false → Limited F (get_or o 0)
    go none x y = absurd (subst T y tt)
    go (some c) x y = columns_within_lem F s (permitted F s h) x

pub widest_limited :
    (F : Form) (left right : List ℕ) → fields_fail F left ≡ false → fields_fail F right ≡ false → (columns_absent (fields_in F left) || columns_absent (fields_in F right)) ≡ false
    → {x y : Fields} {columns : ℕ} → x ≡ fields_in F left → y ≡ fields_in F right → columns ≡ widest x y → Limited F columns
widest_limited F left right h k e lh rh width =
    let q = or_no (columns_absent (fields_in F left)) (columns_absent (fields_in F right)) e in
    let a = columns_limited F left h q.0 in
    let b = columns_limited F right k q.1 in
    rw (width, lh, rh) (omega arith, omega arith)
