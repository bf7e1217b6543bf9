-- `steps::step_unary` meets its contract: the checks, the nature, and the sheet that is written. Assumes nothing.
use mathlib.Core.Path.{◌≡◌, sym}
use native.Mathlib.Omega.{arith}
use mir.Syntax.{w64}
use mir.Val.{to_z, of_z}
use borrow.Author.Rules.{rules}
use Rattle.base.specs.Form.{form_of}
use Rattle.base.specs.Components.{family_of}
use Rattle.base.proofs.Forms.{laid}
use Rattle.base.proofs.Told.{handed_on}
use Rattle.lending.proofs.Lending.{stands, nature_room_lem}
use Rattle.steps.proofs.Passing.{unary_columns}
use Rattle.deliveries.proofs.Answers.{room, bounded}
use Rattle.steps.proofs.Delivered.{unary_refused, unary_nature_refused, unary_written}
use Rattle.steps.proofs.step_unary.Goals as goal

pub read_head-h-requires : goal.read_head-h-requires
read_head-h-requires c = stands c.requires.read.0

pub returns-in_err-unary_code : goal.returns-in_err-unary_code
returns-in_err-unary_code c =
    let e = c.in_err-unary_code.field-0.0 in
    rw (handed_on _ e c.from_residual.ensures.1) (unary_refused (form_of c.args.f) c.args.c c.args.left.now c.read_head-h.ensures e c.in_err-unary_code.ensures, tt)

pub propagate_unary_nature-requires-clause-read : goal.propagate_unary_nature-requires-clause-read
propagate_unary_nature-requires-clause-read c =
    let p = c.requires in
    let lent = p.buffers.0 in
    let limited = unary_columns (form_of c.args.f) c.args.left.now p.read.0.fields c.read_head-h.ensures c.columns_of-columns.ensures (sym c.in_ok-unary_code.ensures) in
    (p.read.0, record { some_column = limited.0; within = limited.1; first_room = lent.first_room; second_room = lent.second_room }, p.read.1)

pub returns-in_err-p : goal.returns-in_err-p
returns-in_err-p c =
    let a = c.args in
    rw (handed_on _ c.in_err-p.field-0.0 c.from_residual-in_err-p.ensures.1)
    (unary_nature_refused (form_of a.f) a.c a.left.now c.read_head-h.ensures c.columns_of-columns.ensures c.in_ok-unary_code.ensures c.in_err-p.ensures.0, tt)

pub node_at-requires : goal.node_at-requires
node_at-requires c = stands c.requires.read.0

pub put_sheet-requires : goal.put_sheet-requires
put_sheet-requires c =
    let a = c.args in
    let p = c.requires in
    let wide = nature_room_lem (laid a.f) (family_of a.c) a.left.now a.left.now in
    room c.in_ok-p.ensures.1 p.read.0.sizes (omega (arith, wide, p.buffers.0.sheet_room))

pub returns : goal.returns
returns c =
    let a = c.args in
    let p = c.requires in
    let wide = nature_room_lem (laid a.f) (family_of a.c) a.left.now a.left.now in
    let back : to_z w64 (of_z w64 c.node_at.result) ≡ c.node_at.result = search rules in (
      unary_written (form_of a.f) a.c a.left.now c.read_head-h.ensures c.columns_of-columns.ensures c.in_ok-unary_code.ensures
          c.in_ok-p.ensures.0
          (rw (back, c.node_at.ensures) at c.put_sheet.ensures.front),
      bounded a.left.now c.in_ok-p.ensures.1 p.read.0.sizes (omega (arith, wide, p.buffers.0.sheet_room)) c.put_sheet.ensures.next,
    )
