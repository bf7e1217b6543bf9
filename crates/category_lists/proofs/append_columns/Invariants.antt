-- The invariant of `category_lists::append_columns`: the columns from j up to i are added.
use Rattle.std.proofs.Common.{◌≡◌, List, ℕ, ◌+◌, ◌≤◌, ◌<◌, ℤ}
use Rattle.numbers.specs.Result.{Result, ok}
use Rattle.base.specs.Form.{form_of}
use Rattle.category_lists.specs.Answers.{Stored, Columns}
use Rattle.category_lists.proofs.append_columns.Given as goal

abbrev pub invariant-loop-i : goal.invariant-loop-i
invariant-loop-i l = record {
  bound : l.total ≤ (form_of l.f).category_limit + 1;
  columns : (each : ℕ → Result (List ℤ)) (n : ℕ) (xs : List ℤ) → Stored l.k l.store xs → l.end ≤ n → ((i : ℕ) → l.j ≤ i → i < l.end → each i ≡ ok xs)
      → Columns (form_of l.f) each n l.j l.t l.initial.numbers l.initial.values → Columns (form_of l.f) each n l.i l.total l.numbers l.values;
}
