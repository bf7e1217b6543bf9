-- `steps::step_copy` meets its contract: the checks, the nature, the last checks, and the sheet that is written. Assumes nothing.
use mathlib.Core.Path.{◌≡◌, sym, ap}
use mir.Syntax.{w64}
use mir.Val.{to_z, of_z}
use borrow.Author.Rules.{rules}
use Rattle.base.specs.Form.{form_of}
use Rattle.base.specs.Components.{is_unary}
use Rattle.base.proofs.Told.{handed_on}
use Rattle.lending.proofs.Lending.{stands}
use Rattle.steps.proofs.Passing.{copy_columns, reached}
use Rattle.deliveries.proofs.Answers.{room}
use Rattle.steps.proofs.Delivered.{copy_refused, copy_nature_refused, copy_last_refused, copy_written}
use Rattle.steps.proofs.step_copy.Goals as goal

pub read_head-l-requires : goal.read_head-l-requires
read_head-l-requires c = stands c.requires.read.0

pub read_head-r-requires : goal.read_head-r-requires
read_head-r-requires c = stands c.requires.read.1

pub returns-in_err-copy_code : goal.returns-in_err-copy_code
returns-in_err-copy_code c =
    let a = c.args in
    let e = c.in_err-copy_code.field-0.0 in
    rw (handed_on _ e c.from_residual.ensures.1) (copy_refused (form_of a.f) a.c a.left.now a.right.now e c.in_err-copy_code.ensures, tt)

pub propagate_binary_nature-requires-clause-read : goal.propagate_binary_nature-requires-clause-read
propagate_binary_nature-requires-clause-read c =
    let a = c.args in
    let p = c.requires.read in
    let lent = c.requires.buffers.0 in
    let none = sym c.in_ok-copy_code.ensures in
    let limited = copy_columns (form_of a.f) a.left.now a.right.now a.c none p.0.fields c.read_head-l.ensures c.columns_of-columns.ensures in (
      p.0,
      p.1,
      record { some_column = limited.0; within = limited.1; first_room = lent.first_room; second_room = lent.second_room },
      reached (form_of a.f) a.left.now a.right.now a.c c.read_head-l.ensures none,
      ap is_unary p.2,
    )

pub returns-in_err-p : goal.returns-in_err-p
returns-in_err-p c =
    let a = c.args in
    rw (handed_on _ c.in_err-p.field-0.0 c.from_residual-in_err-p.ensures.1) (
      copy_nature_refused (form_of a.f) a.c a.left.now a.right.now
          c.read_head-l.ensures c.columns_of-columns.ensures c.in_ok-copy_code.ensures c.in_err-p.ensures.0,
      tt,
    )

pub returns-in_err-last_code : goal.returns-in_err-last_code
returns-in_err-last_code c =
    let a = c.args in
    let e = c.in_err-last_code.field-0.0 in
    rw (handed_on _ e c.from_residual-in_err-last_code.ensures.1) (
      copy_last_refused (form_of a.f) a.c a.left.now a.right.now
          c.read_head-l.ensures c.columns_of-columns.ensures c.in_ok-copy_code.ensures c.in_ok-p.ensures.0 e c.in_err-last_code.ensures,
      tt,
    )

pub node_at-node-requires : goal.node_at-node-requires
node_at-node-requires c = stands c.requires.read.0

pub put_pair-requires : goal.put_pair-requires
put_pair-requires c =
    let p = c.requires.read in
    let lent = c.requires.buffers.0 in
    (room c.in_ok-p.ensures.1 p.0.sizes lent.sheet_room, room c.in_ok-p.ensures.1 p.1.sizes lent.sheet_room)

pub returns : goal.returns
returns c =
    let a = c.args in
    let back : to_z w64 (of_z w64 c.node_at-node.result) ≡ c.node_at-node.result = search rules in (
      copy_written (form_of a.f) a.c a.left.now a.right.now
          c.read_head-l.ensures c.columns_of-columns.ensures c.in_ok-copy_code.ensures c.in_ok-p.ensures.0
          c.in_ok-last_code.ensures c.read_head-r.ensures c.copy_head-h.ensures
          (rw (back, c.node_at-node.ensures) at c.put_pair.ensures.1),
      c.put_pair.ensures.0,
    )
