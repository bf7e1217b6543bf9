-- Ranges over the columns: entry j of the answer holds the exact result of numbers in the operands' entries for column j. Assumes nothing.
use mathlib.Core.Path.{◌≡◌}
use mathlib.Core.List.{List}
use mathlib.Core.Option.{some}
use Prim.Native.Nat.{ℕ, ◌<◌}
use lib.IntN.{ℤ}
use lib.ListN.{length}
use Rattle.numbers.specs.Result.{ok}
use Rattle.numbers.specs.Kind.{Span, whole}
use Rattle.base.specs.declared.Component.{Component}
use Rattle.ends.specs.Ends.{end_rule}
use Rattle.ends.specs.Ranges.{whole_rule, range_pair, range_alone}
use Rattle.containment.specs.Exact.{Side, exact}
use Rattle.containment.specs.Demand.{entry_for, InSpan}
use Rattle.containment.specs.Asks.{Asks}
use Rattle.containment.proofs.Entries.{entry_keeps, whole_keeps}
use Rattle.containment.proofs.Columns.{column_keeps, range_columns, alone_columns}

module _ (side : Side) (c : Component) (columns : ℕ) (xs ys zs : List (Span ℤ)) where
  pub pair_many : (type : ℕ) → range_pair (whole_rule c type) columns xs ys ≡ ok zs → length zs ≡ columns
  pair_many type e = (range_columns (whole_rule c type) columns xs ys e).many

  pub pair_keeps : (type j : ℕ) (a b v : ℤ) → range_pair (whole_rule c type) columns xs ys ≡ ok zs → j < columns
      → Asks c (entry_for ys j) → InSpan (entry_for xs j) a → InSpan (entry_for ys j) b → exact side c a b ≡ some v → InSpan (entry_for zs j) v
  pair_keeps type j a b v e h k p q w =
      column_keeps (λ o. InSpan o a) (λ o. Asks c o × InSpan o b) (λ o. InSpan o v)
      (λ x y z e p q. whole_keeps side x y z a b v c type q.0 e p q.1 w)
      ((range_columns (whole_rule c type) columns xs ys e).at j h) p (k, q)

module _ (side : Side) (c : Component) (columns : ℕ) (xs zs : List (Span ℤ)) (e : range_alone (end_rule whole c) columns xs ≡ ok zs) where
  pub alone_many : length zs ≡ columns
  alone_many = (alone_columns (end_rule whole c) columns xs e).many

  pub alone_keeps : (j : ℕ) (a v : ℤ) → j < columns → Asks c (entry_for xs j) → InSpan (entry_for xs j) a → exact side c a a ≡ some v → InSpan (entry_for zs j) v
  alone_keeps j a v h k p w =
      column_keeps (λ o. InSpan o a) (λ o. Asks c o × InSpan o a) (λ o. InSpan o v)
      (λ x y z e p q. entry_keeps side x y z a a v c q.0 e p q.1 w)
      ((alone_columns (end_rule whole c) columns xs e).at j h) p (k, p)
