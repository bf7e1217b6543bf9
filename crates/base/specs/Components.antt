-- The ten components by their numbers, and their four families.
use Rattle.std.specs.Prelude.{Bool, true, false, cond, ℕ, eqb}
use Rattle.base.specs.declared.Component.{Component}
use Rattle.base.specs.declared.Component.TheVariants as C
use Rattle.base.specs.declared.Family.{Family}
use Rattle.base.specs.declared.Family.TheVariants as Fam
use Rattle.std.specs.declared.option.Option as Rust
use Rattle.std.specs.declared.option.Option.TheVariants.{Some, None}

-- 01: "Components are numbered 1 Abs, 2 Add, 3 Subtract, 4 Multiply, 5 Divide, 6 Modulo, 7 Log, 8 Power, 9 Negative". 02, S-1: "Component 10, Pool"
abbrev pub number_of : Component → ℕ
number_of C.Abs = 1
number_of C.Add = 2
number_of C.Subtract = 3
number_of C.Multiply = 4
number_of C.Divide = 5
number_of C.Modulo = 6
number_of C.Log = 7
number_of C.Power = 8
number_of C.Negative = 9
number_of C.Pool = 10

unfoldable pub component_of : ℕ → Rust.Option Component
component_of k =
    cond (eqb k 1) (Some C.Abs)
    (cond (eqb k 2) (Some C.Add)
    (cond (eqb k 3) (Some C.Subtract)
    (cond (eqb k 4) (Some C.Multiply)
    (cond (eqb k 5) (Some C.Divide)
    (cond (eqb k 6) (Some C.Modulo)
    (cond (eqb k 7) (Some C.Log)
    (cond (eqb k 8) (Some C.Power)
    (cond (eqb k 9) (Some C.Negative)
    (cond (eqb k 10) (Some C.Pool)
    None)))))))))

-- The families, the only table by them. Unary, 01: "Abs and Negative don't read the right sheet", "copy left but for nature". Pair: "Components 2 to 5 check
-- in list order", and their fields are of both. Copy: "Modulo, Log and Power check 6, 7, 14, 15, 16, 11, ..", "6 to 8 copy left, but for nature, .."
-- Pool: 02, S-1, an order of checks and fields of its own
abbrev pub family_of : Component → Family
family_of C.Abs = Fam.Unary
family_of C.Add = Fam.Pair
family_of C.Subtract = Fam.Pair
family_of C.Multiply = Fam.Pair
family_of C.Divide = Fam.Pair
family_of C.Modulo = Fam.Copy
family_of C.Log = Fam.Copy
family_of C.Power = Fam.Copy
family_of C.Negative = Fam.Unary
family_of C.Pool = Fam.Pool

-- 01: "Abs and Negative don't read the right sheet"
abbrev pub is_unary : Family → Bool
is_unary Fam.Unary = true
is_unary Fam.Pair = false
is_unary Fam.Copy = false
is_unary Fam.Pool = false
