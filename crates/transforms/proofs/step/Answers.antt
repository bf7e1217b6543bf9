-- `transforms::step` meets its contract: the checks of both sheets, then the family's step. Assumes nothing.
use mathlib.Core.Path.{sym, ap, ◌∙◌}
use Rattle.base.specs.Form.{form_of}
use Rattle.base.specs.Components.{family_of, is_unary}
use Rattle.base.proofs.Told.{handed_on}
use Rattle.lending.proofs.Lending.{lent_alone}
use Rattle.transforms.proofs.Stepped.{right_of, was_read, right_was_read, step_left_refused, step_right_refused, step_alone, step_paired, step_copied, step_pooled}
use Rattle.transforms.proofs.step.Goals as goal

pub returns-in_err-check_sheet : goal.returns-in_err-check_sheet
returns-in_err-check_sheet c =
    let a = c.args in
    let e = c.in_err-check_sheet.field-0.0 in
    rw (handed_on _ e c.from_residual.ensures.1) (step_left_refused (form_of a.f) a.c a.node a.left.now a.right.now e c.in_err-check_sheet.ensures, tt)

pub returns-in_err-right_code : goal.returns-in_err-right_code
returns-in_err-right_code c =
    let a = c.args in
    let e = c.in_err-right_code.field-0.0 in
    rw (handed_on _ e c.from_residual-in_err-right_code.ensures.1) (
      step_right_refused (form_of a.f) a.c a.node a.left.now a.right.now c.in_ok-check_sheet.ensures c.family-family.ensures e (c.in_err-right_code.ensures ∙ right_of (form_of c.args.f) c.family-family.result c.args.right.now),
      tt,
    )

pub step_unary-requires-clause-read : goal.step_unary-requires-clause-read
step_unary-requires-clause-read c =
    (was_read (form_of c.args.f) c.args.left.now c.in_ok-check_sheet.ensures, sym c.family-family.ensures ∙ c.in-Unary.is)

pub step_unary-requires-clause-buffers : goal.step_unary-requires-clause-buffers
step_unary-requires-clause-buffers c = lent_alone (family_of c.args.c) (sym c.family-family.ensures ∙ c.in-Unary.is) c.requires

pub step_pair-requires-clause-read : goal.step_pair-requires-clause-read
step_pair-requires-clause-read c =
    let a = c.args in (
      was_read (form_of a.f) a.left.now c.in_ok-check_sheet.ensures,
      right_was_read (form_of a.f) a.right.now c.family-family.result (c.in_ok-right_code.ensures ∙ right_of (form_of c.args.f) c.family-family.result c.args.right.now) (ap is_unary c.in-Pair.is),
      sym c.family-family.ensures ∙ c.in-Pair.is,
    )

pub step_copy-requires-clause-read : goal.step_copy-requires-clause-read
step_copy-requires-clause-read c =
    let a = c.args in (
      was_read (form_of a.f) a.left.now c.in_ok-check_sheet.ensures,
      right_was_read (form_of a.f) a.right.now c.family-family.result (c.in_ok-right_code.ensures ∙ right_of (form_of c.args.f) c.family-family.result c.args.right.now) (ap is_unary c.in-Copy.is),
      sym c.family-family.ensures ∙ c.in-Copy.is,
    )

pub step_pool-requires-clause-read : goal.step_pool-requires-clause-read
step_pool-requires-clause-read c =
    let a = c.args in (
      was_read (form_of a.f) a.left.now c.in_ok-check_sheet.ensures,
      right_was_read (form_of a.f) a.right.now c.family-family.result (c.in_ok-right_code.ensures ∙ right_of (form_of c.args.f) c.family-family.result c.args.right.now) (ap is_unary c.in-Pool.is),
      sym c.family-family.ensures ∙ c.in-Pool.is,
    )

pub returns-in-Unary : goal.returns-in-Unary
returns-in-Unary c =
    let a = c.args in
    (c.step_unary.ensures.0 ∙ step_alone (form_of a.f) a.c a.node a.left.now a.right.now c.in_ok-check_sheet.ensures c.family-family.ensures c.in-Unary.is, c.step_unary.ensures.1)

pub returns-in-Pair : goal.returns-in-Pair
returns-in-Pair c =
    let a = c.args in (
      c.step_pair.ensures.0
          ∙ step_paired (form_of a.f) a.c a.node a.left.now a.right.now c.in_ok-check_sheet.ensures c.family-family.ensures
          (c.in_ok-right_code.ensures ∙ right_of (form_of c.args.f) c.family-family.result c.args.right.now) c.in-Pair.is,
      c.step_pair.ensures.1,
    )

pub returns-in-Copy : goal.returns-in-Copy
returns-in-Copy c =
    let a = c.args in (
      c.step_copy.ensures.0
          ∙ step_copied (form_of a.f) a.c a.node a.left.now a.right.now c.in_ok-check_sheet.ensures c.family-family.ensures
          (c.in_ok-right_code.ensures ∙ right_of (form_of c.args.f) c.family-family.result c.args.right.now) c.in-Copy.is,
      c.step_copy.ensures.1,
    )

pub returns-in-Pool : goal.returns-in-Pool
returns-in-Pool c =
    let a = c.args in (
      c.step_pool.ensures.0
          ∙ step_pooled (form_of a.f) a.c a.node a.left.now a.right.now c.in_ok-check_sheet.ensures c.family-family.ensures
          (c.in_ok-right_code.ensures ∙ right_of (form_of c.args.f) c.family-family.result c.args.right.now) c.in-Pool.is,
      c.step_pool.ensures.1,
    )
