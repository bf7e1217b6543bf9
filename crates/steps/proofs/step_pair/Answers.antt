-- `steps::step_pair` meets its contract: the checks, the nature, and the sheet that is written. Assumes nothing.
use mathlib.Core.Path.{◌≡◌, sym, ap}
use mathlib.Core.Logic.{inl}
use lib.IntN.{pos}
use mir.Syntax.{w64}
use mir.Val.{to_z, of_z}
use mir.Facts.{to_z-of_z}
use Rattle.base.specs.Form.{form_of}
use Rattle.base.specs.Components.{is_unary}
use Rattle.base.specs.declared.Family.{Family}
use Rattle.base.proofs.Told.{handed_on}
use Rattle.orders.specs.Parts.{is_int_copy}
use Rattle.lending.proofs.Lending.{stands}
use Rattle.steps.proofs.Passing.{pair_columns}
use Rattle.deliveries.proofs.Answers.{room, node_fits}
use Rattle.steps.proofs.Delivered.{pair_refused, pair_nature_refused, pair_written}
use Rattle.steps.proofs.step_pair.Goals as goal

pub read_head-l-requires : goal.read_head-l-requires
read_head-l-requires c = stands c.requires.read.0

pub read_head-r-requires : goal.read_head-r-requires
read_head-r-requires c = stands c.requires.read.1

pub returns-in_err-pair_code : goal.returns-in_err-pair_code
returns-in_err-pair_code c =
    let a = c.args in
    let e = c.in_err-pair_code.field-0.0 in
    rw (handed_on _ e c.from_residual.ensures.1) (pair_refused (form_of a.f) a.c a.node a.left.now a.right.now e c.in_err-pair_code.ensures, tt)

pub propagate_binary_nature-requires-clause-read : goal.propagate_binary_nature-requires-clause-read
propagate_binary_nature-requires-clause-read c =
    let a = c.args in
    let p = c.requires.read in
    let lent = c.requires.buffers.0 in
    let limited =
    pair_columns (form_of a.f) a.left.now a.right.now p.0.fields p.1.fields (sym c.in_ok-pair_code.ensures) c.read_head-l.ensures
    c.read_head-r.ensures c.widest-columns.ensures in (
      p.0,
      p.1,
      record { some_column = limited.0; within = limited.1; first_room = lent.first_room; second_room = lent.second_room },
      inl (ap (λ (f : Family). is_int_copy f c.read_head-l.result.data_type) p.2),
      ap is_unary p.2,
    )

pub returns-in_err-p : goal.returns-in_err-p
returns-in_err-p c =
    let a = c.args in
    rw (handed_on _ c.in_err-p.field-0.0 c.from_residual-in_err-p.ensures.1) (
      pair_nature_refused (form_of a.f) a.c a.node a.left.now a.right.now
          c.read_head-l.ensures c.read_head-r.ensures c.widest-columns.ensures c.in_ok-pair_code.ensures c.in_err-p.ensures.0,
      tt,
    )

pub adds_nullity-more-requires : goal.adds_nullity-more-requires
adds_nullity-more-requires c = (c.requires.read.1.sizes, c.requires.read.1.fields)

pub put_pair-requires : goal.put_pair-requires
put_pair-requires c =
    let p = c.requires.read in
    let lent = c.requires.buffers.0 in
    (room c.in_ok-p.ensures.1 p.0.sizes lent.sheet_room, room c.in_ok-p.ensures.1 p.1.sizes lent.sheet_room)

pub returns : goal.returns
returns c =
    let a = c.args in
    let back : to_z w64 (of_z w64 (pos a.node)) ≡ pos a.node = to_z-of_z {w = w64} (node_fits c.ranges.node) in (
      pair_written (form_of a.f) a.c a.node a.left.now a.right.now
          c.read_head-l.ensures c.read_head-r.ensures c.widest-columns.ensures c.in_ok-pair_code.ensures
          c.adds_nullity-more.ensures c.pair_head-h.ensures c.in_ok-p.ensures.0 (rw back at c.put_pair.ensures.1),
      c.put_pair.ensures.0,
    )
