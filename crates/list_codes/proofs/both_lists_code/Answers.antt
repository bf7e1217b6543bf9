-- `list_codes::both_lists_code` meets its contract: left's 19, 20 and 29, then right's, then 21. Assumes nothing.
use mathlib.Core.Path.{sym, ◌∙◌}
use borrow.Author.Tests.{eq-eqb, ne_eqb}
use Rattle.base.specs.Form.{form_of}
use Rattle.base.proofs.Told.{numbered, passed_on}
use Rattle.lending.proofs.Lending.{stands}
use Rattle.list_codes.specs.Code.{both_lists_code_of}
use Rattle.list_codes.proofs.Numbers.{number_of}
use Rattle.list_codes.proofs.Codes.{both_code, code_is}
use Rattle.list_codes.proofs.both_lists_code.Goals as goal

pub nature_of-x-requires : goal.nature_of-x-requires
nature_of-x-requires c = stands c.requires.0.read

pub nature_of-y-requires : goal.nature_of-y-requires
nature_of-y-requires c = stands c.requires.1.read

pub sizes_at-l-requires : goal.sizes_at-l-requires
sizes_at-l-requires c = stands c.requires.0.read

pub sizes_at-r-requires : goal.sizes_at-r-requires
sizes_at-r-requires c = stands c.requires.1.read

pub returns-in_err-lists_code : goal.returns-in_err-lists_code
unfolding both_lists_code_of
returns-in_err-lists_code c =
    let e = c.in_err-lists_code.field-0.0 in
    let left = code_is c.requires.0 c.args.columns c.sizes_at-l.ensures.lists (rw c.nature_of-x.ensures at c.in_err-lists_code.ensures) in
    passed_on _ e c.from_residual.ensures.1 ∙ rw (both_code, ← left, numbered e)

pub returns-in_err-lists_code-2 : goal.returns-in_err-lists_code-2
unfolding both_lists_code_of
returns-in_err-lists_code-2 c =
    let e = c.in_err-lists_code-2.field-0.0 in
    let left = code_is c.requires.0 c.args.columns c.sizes_at-l.ensures.lists (rw c.nature_of-x.ensures at c.in_ok-lists_code.ensures) in
    let right = code_is c.requires.1 c.args.columns c.sizes_at-r.ensures.lists (rw c.nature_of-y.ensures at c.in_err-lists_code-2.ensures) in
    passed_on _ e c.from_residual-in_err-lists_code-2.ensures.1 ∙ rw (both_code, ← left, ← right, numbered e)

pub returns-then-x-y : goal.returns-then-x-y
unfolding both_lists_code_of
returns-then-x-y c =
    let left = code_is c.requires.0 c.args.columns c.sizes_at-l.ensures.lists (rw c.nature_of-x.ensures at c.in_ok-lists_code.ensures) in
    let right = code_is c.requires.1 c.args.columns c.sizes_at-r.ensures.lists (rw c.nature_of-y.ensures at c.in_ok-lists_code-2.ensures) in
    let l = number_of (form_of c.args.f) c.args.left.now c.requires.0.read ∙ sym c.nature_of-x.ensures in
    let r = number_of (form_of c.args.f) c.args.right.now c.requires.1.read ∙ sym c.nature_of-y.ensures in
    rw (both_code, ← left, ← right, l, r, ne_eqb c.nature_of-x.result c.nature_of-y.result c.if-x-y.true)

pub returns : goal.returns
unfolding both_lists_code_of
returns c =
    let left = code_is c.requires.0 c.args.columns c.sizes_at-l.ensures.lists (rw c.nature_of-x.ensures at c.in_ok-lists_code.ensures) in
    let right = code_is c.requires.1 c.args.columns c.sizes_at-r.ensures.lists (rw c.nature_of-y.ensures at c.in_ok-lists_code-2.ensures) in
    let l = number_of (form_of c.args.f) c.args.left.now c.requires.0.read ∙ sym c.nature_of-x.ensures in
    let r = number_of (form_of c.args.f) c.args.right.now c.requires.1.read ∙ sym c.nature_of-y.ensures in
    rw (both_code, ← left, ← right, l, r, eq-eqb c.nature_of-x.result c.nature_of-y.result c.if-x-y.false)
