-- The refusals by their numbers, and how the code's answers stand for a value or a refusal.
use Rattle.std.specs.Prelude.{ℕ}
use Rattle.std.specs.declared.result.Result as Rust
use Rattle.std.specs.declared.result.Result.TheVariants.{Ok, Err}
use Rattle.numbers.specs.Result.{Result, ok, refused}
use Rattle.base.specs.declared.refusals.Refusal.{Refusal}
use Rattle.base.specs.declared.refusals.Refusal.TheVariants as R

-- 01 and 02: the number of each. 25 is missing: no call gives it
abbrev pub number_of : Refusal → ℕ
number_of R.Malformed = 1
number_of R.NoComponent = 2
number_of R.Sizes = 3
number_of R.Fields = 4
number_of R.Bounds = 5
number_of R.Aggregated = 6
number_of R.Sampled = 7
number_of R.Groups = 8
number_of R.Datasets = 9
number_of R.Stabilities = 10
number_of R.NoColumns = 11
number_of R.Columns = 12
number_of R.Rows = 13
number_of R.Types = 14
number_of R.BoundKinds = 15
number_of R.Condition = 16
number_of R.RangeKinds = 17
number_of R.UnevenList = 18
number_of R.FloatCategories = 19
number_of R.NoLists = 20
number_of R.CategoryKinds = 21
number_of R.NoRule = 22
number_of R.MayMeetZero = 23
number_of R.Leaves64Bits = 24
number_of R.OverTheLimit = 26
number_of R.NoRoom = 27
number_of R.TooMuchText = 28
number_of R.ListCount = 29
number_of R.NotSeen = 30

-- the code's answer: a value, or a refusal
abbrev pub Answer : Type 0 → Type 0
Answer X = Rust.Result X Refusal

-- what it stands for, by the number that a refusal has; and of the code's own refusals
abbrev pub told_by : {X E : Type 0} → (E → ℕ) → Rust.Result X E → Result X
told_by number (Ok x) = ok x
told_by number (Err e) = refused (number e)

abbrev pub told : {X : Type 0} → Answer X → Result X
told = told_by number_of

-- 0 where nothing is refused, else the refusal's number
abbrev pub code_in : {X : Type 0} → Answer X → ℕ
code_in (Ok x) = 0
code_in (Err e) = number_of e
