-- What the step of Pool makes between its checks and its sheet.
use Rattle.std.specs.Prelude.{Bool, cond, ◌||◌, ℕ, ℤ, eqb}
use Rattle.std.proofs.Math.Option.{Option}
use Rattle.numbers.specs.Result.{Result, ok, refused}
use Rattle.base.specs.Code.{stated}
use Rattle.base.specs.Refusals.{number_of, Answer}
use Rattle.std.specs.declared.result.Result as Answered
use Rattle.std.specs.declared.result.Result.TheVariants as D
use Rattle.std.specs.declared.option.Option as Rust
use Rattle.std.specs.declared.option.Option.TheVariants.{Some, None}
use Rattle.writer.specs.declared.Parts.{Parts}

-- the rows' sum, or 24
abbrev pub rows_in : Rust.Option (Rust.Option ℤ) → Result (Option ℤ)
rows_in (Some n) = ok (stated n)
rows_in None = refused 24

-- the refusals of a nature that come behind 24 of the rows
abbrev pub late : ℕ → Bool
late k = eqb k 26 || eqb k 28

-- the refusal where the rows leave 64 bits: the nature's, unless it comes behind; by the number that a refusal has, and of the code's own refusals
abbrev pub behind_rows_by : {E : Type 0} → (E → ℕ) → Answered.Result Parts E → ℕ
behind_rows_by number (D.Ok p) = 24
behind_rows_by number (D.Err e) = cond (late (number e)) 24 (number e)

abbrev pub behind_rows : Answer Parts → ℕ
behind_rows = behind_rows_by number_of
