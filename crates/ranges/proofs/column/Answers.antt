-- `ranges::column` meets its contract: the choice by the component's number is the definition's. Assumes nothing.
use mathlib.Core.Path.{◌≡◌, refl}
use mathlib.Core.Bool.{Bool, true, false, cond, not, ◌&&◌}
use Prim.Native.Nat.{ℕ}
use lib.IntN.{ℤ}
use lib.Dec.{eqb}
use Rattle.numbers.specs.Result.{Result}
use Rattle.numbers.specs.Kind.{Span, whole}
use Rattle.base.specs.Form.{int_type}
use Rattle.base.specs.Components.{number_of}
use Rattle.base.specs.declared.Component.{Component}
use Rattle.base.specs.declared.Component.TheVariants as C
use Rattle.ends.specs.Ends.{end_rule, unknown}
use Rattle.ends.specs.Ranges.{whole_rule}
use Rattle.ranges.specs.Chained.{column_ends}
use Rattle.ranges.proofs.column.Goals as goal

-- the choice as the code makes it
by_number : (c : Component) (type : ℕ) (x y : Span ℤ) → whole_rule c type x y ≡ cond (eqb (number_of c) 6 && not (eqb type int_type)) unknown (end_rule whole c x y)
unfolding whole_rule
by_number C.Abs type x y = refl
by_number C.Add type x y = refl
by_number C.Subtract type x y = refl
by_number C.Multiply type x y = refl
by_number C.Divide type x y = refl
by_number C.Modulo type x y = other (eqb type int_type) (end_rule whole C.Modulo x y) unknown
  where
    other : (t : Bool) (p q : Result (Span ℤ)) → cond t p q ≡ cond (not t) q p
    other true p q = refl
    other false p q = refl
by_number C.Log type x y = refl
by_number C.Power type x y = refl
by_number C.Negative type x y = refl
by_number C.Pool type x y = refl

pub returns-then-float : goal.returns-then-float
unfolding column_ends
returns-then-float c = rw c.if-float.true c.float_end_rule.ensures

pub returns-then-number-data_type : goal.returns-then-number-data_type
unfolding column_ends
returns-then-number-data_type c =
    let modulo = rw c.number.ensures at c.if-number-data_type.true in
    rw (c.if-float.false, by_number, modulo) c.unknown.ensures

pub returns : goal.returns
unfolding column_ends
returns c =
    let other = rw c.number.ensures at c.if-number-data_type.false in
    rw (c.if-float.false, by_number, other) c.whole_end_rule.ensures
