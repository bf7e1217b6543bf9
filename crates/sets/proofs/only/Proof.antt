-- `sets::only` meets its contract. Assumes nothing.
use mathlib.Core.Path.{◌∙◌}
use Prim.Native.Nat.{◌^◌}
use native.Mathlib.Nat.{one-mul}
use native.Mathlib.Omega.{arith}
use lib.Dec.{lit<}
use lib.Pow.{shl_exact}
use borrow.Author.Rules.{rules}
use Rattle.sets.proofs.only.Statement.{statement}
use Rattle.sets.proofs.only.Tie as tie

returns : tie.Need-returns
returns c =
    let k = c.args.k in
    let small = c.requires in
    shl_exact 1 k 64 (lit< tt) (omega arith) ∙ one-mul (2 ^ k)

pub only_spec : {M : Type 1} → statement M
only_spec = tie.close (tie.spec (λ c. search rules) returns)
