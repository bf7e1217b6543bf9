-- The names of the components.
use Rattle.std.specs.Prelude.{ℕ, List, if◌then◌else◌, ◌==◌, codes}

-- the name of component n; any other number is none
abbrev pub name_of : ℕ → List ℕ
name_of n =
    if n == 1 then codes "Abs" else (if n == 2 then codes "Add" else (if n == 3 then codes "Subtract" else (
    if n == 4 then codes "Multiply" else (if n == 5 then codes "Divide" else (if n == 6 then codes "Modulo" else (
    if n == 7 then codes "Log" else (if n == 8 then codes "Power" else (if n == 9 then codes "Negative" else (
    if n == 10 then codes "Pool" else codes "no component")))))))))
