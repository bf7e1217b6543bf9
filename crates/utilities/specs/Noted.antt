-- What a call leaves in a list that its caller lends. Definitions only.
use Rattle.std.specs.Prelude.{◌≡◌, false, List, ℕ, ◌%◌, ℤ, length, take, drop, get_or}
use Rattle.std.specs.Int.{w64}
use Rattle.std.proofs.Common.{of_z}
use Rattle.numbers.specs.Kind.{eq_z}
use Rattle.utilities.specs.Lists.{has, noted}
use Rattle.std.specs.declared.option.Option as Rust
use Rattle.std.specs.declared.option.Option.TheVariants.{Some, None}

-- `values`, m of them, stand at the start; behind them nothing changed
pub record Begins (values : List ℤ) (m : ℕ) (before after : List ℤ) : Type 0 where
  pub count : m ≡ length values
  pub start : take m after ≡ values
  pub rest : drop m after ≡ drop m before

-- x is new, the list has no place for it, and nothing changed
pub record Lacks (n : ℕ) (x : ℤ) (before after : List ℤ) : Type 0 where
  pub new : has eq_z x (take n before) ≡ false
  pub full : n ≡ length before
  pub same : after ≡ before

-- `note_hinted`, by its reply
abbrev pub Notes : ℕ → ℤ → List ℤ → List ℤ → Rust.Option ℕ → Type 0
Notes n x before after (Some m) = Begins (noted eq_z (take n before) x) m before after
Notes n x before after None = Lacks n x before after

-- ---- hints

-- one hint for each low byte
abbrev pub hint_count : ℕ
hint_count = 256

-- where the hint of a value stands: at its low byte
abbrev pub hint_at : ℤ → ℕ
hint_at x = of_z w64 x % hint_count

-- a hint of 0 tells that none of the values has its low byte
pub record Hinting (hints : List ℕ) (values : List ℤ) : Type 0 where
  pub size : length hints ≡ hint_count
  pub new : (x : ℤ) → get_or hints (hint_at x) 0 ≡ 0 → has eq_z x values ≡ false

-- how many values there are after `note_hinted`
abbrev pub held : ℕ → Rust.Option ℕ → ℕ
held n (Some m) = m
held n None = n
