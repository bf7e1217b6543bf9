-- A whole number between two others.
use Rattle.std.specs.Prelude.{ℤ, ◌≤ℤ◌}

-- x is one of a to c
pub record Within (a x c : ℤ) : Type 0 where
  pub low : a ≤ℤ x
  pub high : x ≤ℤ c
