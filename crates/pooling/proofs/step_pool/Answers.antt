-- `pooling::step_pool` meets its contract: the checks, the nature, the rows, and the sheet that is written. Assumes nothing.
use mathlib.Core.Path.{◌≡◌, sym}
use lib.IntN.{pos}
use mir.Syntax.{w64}
use mir.Val.{to_z, of_z}
use mir.Facts.{to_z-of_z}
use Rattle.base.specs.Form.{form_of}
use Rattle.base.proofs.Told.{handed_on}
use Rattle.lending.proofs.Lending.{stands}
use Rattle.deliveries.proofs.Answers.{room, node_fits}
use Rattle.pooling.proofs.Pooled.{pool_columns, pool_refused, rows_refused, pool_nature_refused, pool_written}
use Rattle.pooling.proofs.step_pool.Goals as goal

pub read_head-l-requires : goal.read_head-l-requires
read_head-l-requires c = stands c.requires.read.0

pub read_head-r-requires : goal.read_head-r-requires
read_head-r-requires c = stands c.requires.read.1

pub returns-in_err-pool_code : goal.returns-in_err-pool_code
returns-in_err-pool_code c =
    let a = c.args in
    let e = c.in_err-pool_code.field-0.0 in
    rw (handed_on _ e c.from_residual.ensures.1) (pool_refused (form_of a.f) a.c a.node a.left.now a.right.now e c.in_err-pool_code.ensures, tt)

pub pooled_nature-derived-requires-clause-read : goal.pooled_nature-derived-requires-clause-read
pooled_nature-derived-requires-clause-read c =
    let a = c.args in
    let p = c.requires.read in
    let lent = c.requires.buffers.0 in
    let limited =
    pool_columns (form_of a.f) a.left.now a.right.now p.0.fields p.1.fields (sym c.in_ok-pool_code.ensures) c.read_head-l.ensures
    c.read_head-r.ensures c.widest-columns.ensures in
    (p.0, p.1, record { some_column = limited.0; within = limited.1; first_room = lent.first_room; second_room = lent.second_room }, p.2)

pub returns-in_default : goal.returns-in_default
returns-in_default c =
    let a = c.args in
    rw c.behind_rows.ensures (
      rows_refused (form_of a.f) a.c a.node a.left.now a.right.now
          c.read_head-l.ensures c.read_head-r.ensures c.widest-columns.ensures c.in_ok-pool_code.ensures c.requires.read.2
          _ _ c.pooled_nature-derived.result c.pooled_nature-derived.ensures.0 (rw c.in_default.is at c.rows_sum.ensures),
      tt,
    )

pub returns-in_err-p : goal.returns-in_err-p
returns-in_err-p c =
    let a = c.args in
    rw (handed_on _ c.in_err-p.field-0.0 c.from_residual-in_err-p.ensures.1) (
      pool_nature_refused (form_of a.f) a.c a.node a.left.now a.right.now
          c.read_head-l.ensures c.read_head-r.ensures c.widest-columns.ensures c.in_ok-pool_code.ensures c.requires.read.2
          _ (rw c.in-Some.is at c.rows_sum.ensures) (rw c.in_err-p.was at c.pooled_nature-derived.ensures.0),
      tt,
    )

pub put_pair-requires : goal.put_pair-requires
put_pair-requires c =
    let p = c.requires.read in
    let lent = c.requires.buffers.0 in
    let placed = rw c.in_ok-p.was at c.pooled_nature-derived.ensures.1 in
    (room placed p.0.sizes lent.sheet_room, room placed p.1.sizes lent.sheet_room)

pub returns : goal.returns
returns c =
    let a = c.args in
    let back : to_z w64 (of_z w64 (pos a.node)) ≡ pos a.node = to_z-of_z {w = w64} (node_fits c.ranges.node) in (
      pool_written (form_of a.f) a.c a.node a.left.now a.right.now
          c.read_head-l.ensures c.read_head-r.ensures c.widest-columns.ensures c.in_ok-pool_code.ensures c.requires.read.2
          _ (rw c.in-Some.is at c.rows_sum.ensures) c.pool_head-h.ensures
          (rw c.in_ok-p.was at c.pooled_nature-derived.ensures.0)
          (rw back at c.put_pair.ensures.1),
      c.put_pair.ensures.0,
    )
