-- `base::view::bound_at` meets its contract. Assumes nothing.
use mathlib.Core.Path.{ap}
use lib.ListN.{get_or}
use mir.Syntax.{w64}
use mir.Facts.{to_z-of_z}
use borrow.Author.Tests.{eq-eqb, ne_eqb}
use borrow.Author.Rules.{rules}
use Rattle.base.specs.Decode.{option_at}
use Rattle.base.specs.Code.{bound_at}
use Rattle.base.specs.declared.Bound.TheVariants.{Absent, Whole, Float}
use Rattle.base.proofs.Flags.{either_way}
use Rattle.base.proofs.view.bound_at.Statement.{statement}
use Rattle.base.proofs.view.bound_at.Tie as tie

returns : tie.Need-returns-then-s-at-eq0
unfolding bound_at option_at
returns c =
    let a = c.args in
    rw (eq-eqb (get_or a.s.now a.at 0) 0 c.if-s-at-eq0.true) (either_way a.float Absent)

returns-2 : tie.Need-returns-then-float
unfolding bound_at option_at
returns-2 c =
    let a = c.args in
    rw (ne_eqb (get_or a.s.now a.at 0) 0 c.if-s-at-eq0.false, c.if-float.true) (ap Float c.f64_at.ensures)

returns-3 : tie.Need-returns-else-float
unfolding bound_at option_at
returns-3 c =
    let a = c.args in
    let back = to_z-of_z {w = w64} {z = c.i64_at.result} (record { sfits = c.i64_at.type_inv }) in
    rw (ne_eqb (get_or a.s.now a.at 0) 0 c.if-s-at-eq0.false, c.if-float.false, back) (ap Whole c.i64_at.ensures)

pub bound_at_spec : {M : Type 1} → statement M
bound_at_spec =
    tie.close
    (tie.spec
    (λ c. search rules)
    returns
    (λ c. search rules)
    (λ c κs. search rules)
    (λ c. search rules)
    (λ c κs. search rules)
    returns-2
    returns-3)
