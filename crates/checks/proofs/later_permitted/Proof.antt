-- `checks::later_permitted` meets its contract. Assumes nothing.
use mathlib.Core.Path.{sym, ◌∙◌}
use lib.ListN.{get_or}
use lib.Dec.{eqb}
use borrow.Author.Rules.{rules}
use Rattle.base.specs.Form.{form_of, place, later_at, later_count}
use Rattle.checks.proofs.Zeros.{zeros, holds_moved}
use Rattle.checks.proofs.later_permitted.Statement.{statement}
use Rattle.checks.proofs.later_permitted.Tie as tie

returns : tie.Need-returns
returns c =
    let a = c.args in
    let s = a.s.now in
    let F = form_of a.f in
    rw c.u32_in.ensures (zeros s later_count (place F later_at) ∙ sym (holds_moved (λ j. eqb (get_or s j 0) 0) F.shift later_count later_at))

pub later_permitted_spec : {M : Type 1} → statement M
later_permitted_spec = tie.close (tie.spec (λ c κs. search rules) returns)
