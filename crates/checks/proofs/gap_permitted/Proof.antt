-- `checks::gap_permitted` meets its contract: a form at a time. Assumes nothing.
use mathlib.Core.Path.{ap}
use borrow.Author.Rules.{rules}
use Rattle.base.specs.Form.{form_of, wide, place, fields_end}
use Rattle.base.specs.Checks.{holds_from}
use Rattle.base.specs.declared.form.Form.{Form}
use Rattle.checks.proofs.Zeros.{zeros}
use Rattle.checks.proofs.gap_permitted.Statement.{statement}
use Rattle.checks.proofs.gap_permitted.Tie as tie

u16-at-requires : tie.Need-u16_at-requires
u16-at-requires c κs =
    let w = ap (λ (f : Form). (form_of f).arrays_at) c.in-Wide.is in
    search rules

returns : tie.Need-returns-in-Narrow
unfolding holds_from
returns c = rw c.in-Narrow.is

returns-2 : tie.Need-returns-in-Wide
returns-2 c = rw (c.in-Wide.is, c.u16_at.ensures) (zeros c.args.s.now 2 (place wide fields_end))

pub gap_permitted_spec : {M : Type 1} → statement M
gap_permitted_spec = tie.close (tie.spec (λ c. search rules) (λ c. search rules) u16-at-requires returns returns-2)
