-- Where a window and a line stand in a buffer.
use Rattle.std.specs.Prelude.{ℕ, ◌≤◌, List, ◌++◌, take, drop}
use Rattle.lines.specs.declared.Window.{Window}
use Rattle.lines.specs.declared.Line.{Line}

-- a window of a buffer of n bytes
abbrev pub Open : Window → ℕ → Type 0
Open w n = (w.at ≤ w.end) × (w.end ≤ n)

-- a line, and the window behind it, in a buffer of n bytes
abbrev pub Inside : Line → ℕ → Type 0
Inside line n = (line.from ≤ line.to) × (line.to ≤ n) × Open line.rest n

-- the n bytes from `at` on, moved to the start, with the bytes behind them as they were
unfoldable pub slid : ℕ → ℕ → List ℕ → List ℕ
slid at n s = take n (drop at s) ++ drop n s
