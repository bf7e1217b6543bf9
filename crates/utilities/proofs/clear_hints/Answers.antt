-- `utilities::clear_hints` meets its contract. Assumes nothing.
use mathlib.Core.Path.{◌≡◌, ap, ◌∙◌}
use mathlib.Core.List.{List, [], ◌++◌, append-nil}
use Prim.Native.Nat.{ℕ, ◌<◌}
use native.Mathlib.Omega.{arith}
use lib.ListN.{length, drop, set, replicate, length-set, drop_of_length-le}
use borrow.Author.Fill.{fill_none, fill_more}
use Rattle.utilities.specs.Noted.{hint_count}
use Rattle.utilities.proofs.clear_hints.Goals as goal

pub loop-i-init : goal.loop-i-init
loop-i-init c = (c.requires, fill_none c.args.hints.now 0)

pub loop-i-preserved : goal.loop-i-preserved
loop-i-preserved c =
    let l = c.loop-i in
    let h = c.args.hints.now in
    let within : l.i < length h = omega arith in
    (simp length-set l.invariant.0, ap (λ (d : List ℕ). set d l.i 0) l.invariant.1 ∙ fill_more l.i 0 h within)

pub returns : goal.returns
returns c =
    let l = c.loop-i in
    let h = c.args.hints.now in
    let all : l.i ≡ hint_count = omega arith in
    let none : drop hint_count h ≡ [] = drop_of_length-le h {i = hint_count} (omega arith) in
    l.invariant.1 ∙ ap (λ (n : ℕ). replicate n 0 ++ drop n h) all ∙ ap (λ (d : List ℕ). replicate hint_count 0 ++ d) none ∙ append-nil (replicate hint_count 0)
