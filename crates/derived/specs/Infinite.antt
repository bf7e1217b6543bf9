-- What is left for 5 to find in a float range that a component derives: an end that is infinite.
use Rattle.std.specs.Prelude.{◌≡◌, Bool, true, false, ◌||◌, List, Float}
use Rattle.std.proofs.Math.Option.{Option, none, some}
use Rattle.std.specs.Float.{nan, inf, fin}
use Rattle.numbers.specs.Kind.{Span, float}
use Rattle.utilities.specs.Lists.{any}
use Rattle.base.specs.Sheet.{float_range}
use Rattle.base.specs.Checks.{crossed, bounds_fail}
use Rattle.ends.specs.Signs.{Numbers}
use Rattle.round_trip.specs.WellFormed.{Each}

-- 5: "A float bound is infinite or NaN". The first of the two
abbrev pub infinite : Option Float → Bool
infinite none = false
infinite (some nan) = false
infinite (some (inf s)) = true
infinite (some (fin s m e)) = false

abbrev pub an_end_infinite : Span Float → Bool
an_end_infinite z = infinite z.lower || infinite z.upper

-- 5: "or a lower bound exceeds its upper"
abbrev pub InOrder : Span Float → Type 0
InOrder z = crossed float z.lower z.upper ≡ false

-- no end is a NaN, and no lower exceeds its upper: a range of these entries fails 5 exactly if an end is infinite
pub record FailsByInfinity (zs : List (Span Float)) : Type 0 where
  pub numbers : Each Numbers zs
  pub ordered : Each InOrder zs
  pub fails : bounds_fail (float_range zs) ≡ any an_end_infinite zs
