-- `utilities::has_hinted` meets its contract: a hint of 0 tells that x is new, and a hint that leads to x that it is known. Assumes nothing.
use mathlib.Core.Path.{◌≡◌, sym, ap, ◌∙◌}
use mathlib.Core.Bool.{false}
use Prim.Native.Nat.{ℕ, ◌-◌, ◌<◌}
use native.Mathlib.Omega.{arith}
use borrow.Author.Rules.{rules}
use lib.IntN.{ℤ, pos}
use lib.ListN.{take, get_or}
use mir.Facts.{to_z-of_z}
use Rattle.numbers.specs.Kind.{eq_z}
use Rattle.numbers.proofs.Bits.{bits_inj}
use Rattle.numbers.proofs.Choices.{eq_z_yes}
use Rattle.utilities.specs.Lists.{has}
use Rattle.utilities.proofs.Firsts.{has_here}
use Rattle.utilities.proofs.Hints.{hint_within}
use Rattle.utilities.proofs.has_hinted.Statement.{statement}
use Rattle.utilities.proofs.has_hinted.Tie as tie

shared-slice-read-wide : tie.Need-bounds-hints-at
shared-slice-read-wide c =
    omega (arith, c.requires.1.size, c.requires.2, hint_within c.args.x)

returns-3 : tie.Need-returns
returns-3 c =
    c.has.ensures ∙ ap (λ (z : ℤ). has eq_z z (take c.args.n c.args.s.now)) (to_z-of_z c.ranges.x)

pub has_hinted_spec : {M : Type 1} → statement M
has_hinted_spec =
    tie.close
    (tie.spec
    shared-slice-read-wide
    (λ c κs. search rules)
    (λ c.
    let new : c.wide-hint.result ≡ 0 → false ≡ has eq_z c.args.x (take c.args.n c.args.s.now) =
    λ unset. sym (c.requires.1.new c.args.x (ap (λ (k : ℕ). get_or c.args.hints.now k 0) (sym c.requires.2) ∙ sym c.wide-hint.ensures.0 ∙ unset))
    in
    search rules)
    (λ c. search rules)
    (λ c. search rules)
    (λ c. search rules)
    (λ c.
    let k = c.wide-hint.result - 1 in
    let s = c.args.s.now in
    let e = bits_inj (record { sfits = c.t13-1.given }) c.ranges.x c.if-s-hint.true in
    let below : k < c.args.n = omega arith in
    sym (has_here eq_z c.args.x s k c.args.n (pos 0) below c.requires.0 (eq_z_yes c.args.x (get_or s k (pos 0)) (sym e))))
    (λ c κs. search rules)
    returns-3)
