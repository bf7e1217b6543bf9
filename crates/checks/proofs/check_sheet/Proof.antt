-- `checks::check_sheet` meets its contract: the first check that fails gives the number. Assumes nothing.
use mathlib.Core.Path.{sym, ◌∙◌}
use borrow.Author.Rules.{rules}
use Rattle.numbers.specs.Result.{checked}
use Rattle.base.specs.Checks.{read}
use Rattle.checks.proofs.Heads.{fields_parts}
use Rattle.checks.proofs.check_sheet.Statement.{statement}
use Rattle.checks.proofs.check_sheet.Tie as tie

returns : tie.Need-returns-then-sizes_fail
unfolding read checked
returns c = rw (sym c.sizes_fail.ensures ∙ c.if-sizes_fail.true)

head-fails-requires : tie.Need-head_fails-requires
head-fails-requires c κs = sym c.sizes_fail.ensures ∙ c.if-sizes_fail.false

returns-2 : tie.Need-returns-then-head_fails
unfolding read checked
returns-2 c =
    rw (sym c.sizes_fail.ensures ∙ c.if-sizes_fail.false, fields_parts, sym c.head_fails.ensures ∙ c.if-head_fails.true)

nature-faults-requires : tie.Need-nature_faults-nature-requires
nature-faults-requires c κs = sym c.sizes_fail.ensures ∙ c.if-sizes_fail.false

returns-3 : tie.Need-returns-then-nature
unfolding read checked
returns-3 c =
    let h = c.before.before in
    rw (
      sym c.sizes_fail.ensures ∙ c.if-sizes_fail.false,
      fields_parts,
      sym c.head_fails.ensures ∙ c.if-head_fails.false,
      sym c.nature_faults-nature.ensures.fields ∙ c.if-nature.true,
    )

returns-4 : tie.Need-returns-then-nature-2
unfolding read checked
returns-4 c =
    let n = c.before in
    let h = n.before.before in
    rw (
      sym c.sizes_fail.ensures ∙ c.if-sizes_fail.false,
      fields_parts,
      sym c.head_fails.ensures ∙ c.if-head_fails.false,
      sym c.nature_faults-nature.ensures.fields ∙ c.if-nature.false,
      sym c.nature_faults-nature.ensures.bounds ∙ c.if-nature-2.true,
    )

returns-5 : tie.Need-returns
unfolding read checked
returns-5 c =
    let n = c.before in
    let h = n.before.before in
    rw (
      sym c.sizes_fail.ensures ∙ c.if-sizes_fail.false,
      fields_parts,
      sym c.head_fails.ensures ∙ c.if-head_fails.false,
      sym c.nature_faults-nature.ensures.fields ∙ c.if-nature.false,
      sym c.nature_faults-nature.ensures.bounds ∙ c.if-nature-2.false,
    )

pub check_sheet_spec : {M : Type 1} → statement M
check_sheet_spec =
    tie.close
    (tie.spec
    (λ c κs. search rules)
    returns
    head-fails-requires
    returns-2
    nature-faults-requires
    returns-3
    returns-4
    returns-5)
