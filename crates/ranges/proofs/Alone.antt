-- Abs and Negative are pairs of a range with itself. Assumes nothing.
use mathlib.Core.Path.{◌≡◌, refl, ap}
use mathlib.Core.Bool.{Bool, true, false, cond, not}
use mathlib.Core.List.{List, [], ◌∷◌}
use Prim.Native.Nat.{ℕ}
use lib.ListN.{length}
use Rattle.numbers.specs.Result.{Result, ok, refused, and_then, checked}
use Rattle.numbers.specs.Kind.{Span}
use Rattle.utilities.specs.Lists.{repeated}
use Rattle.utilities.specs.Columns.{spreads, each, each_pair}
use Rattle.ends.specs.Ranges.{range_pair, range_alone}

pub each_itself : {X Y : Type 0} (rule : X → X → Result Y) (xs : List X) → each (λ x. rule x x) xs ≡ each_pair rule xs xs
unfolding each each_pair
each_itself rule [] = refl
each_itself {Y = Y} rule (x ∷ xs) =
    ap (λ (g : Result (List Y)). and_then (rule x x) (λ z. and_then g (λ zs. ok (z ∷ zs)))) (each_itself rule xs)

-- a check that stands twice is made once
twice : {X : Type 0} (b : Bool) (k : ℕ) (rest : Result X) → cond b (refused k) rest ≡ cond b (refused k) (cond b (refused k) rest)
twice true k rest = refl
twice false k rest = refl

pub alone_is : {E : Type 0} (rule : Span E → Span E → Result (Span E)) (columns : ℕ) (xs : List (Span E)) → range_alone rule columns xs ≡ range_pair rule columns xs xs
unfolding range_pair range_alone checked
alone_is rule columns xs = rw (each_itself rule (repeated columns xs)) (twice (not (spreads columns (length xs))) 18 (each_pair rule (repeated columns xs) (repeated columns xs)))
