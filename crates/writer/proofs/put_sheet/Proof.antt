-- `writer::put_sheet` meets its contract: the appends of its parts; the groups are the bytes that `source` has. Assumes nothing.
use native.Mathlib.Omega.{arith}
use mir.Syntax.{w64}
use mir.Facts.{to_z-of_z}
use borrow.Author.Rules.{rules}
use Rattle.octets.proofs.Appends.{◌then◌, same_bytes}
use Rattle.base.specs.Code.{head_fields}
use Rattle.base.specs.Decode.{groups_in}
use Rattle.base.specs.Form.{form_of}
use Rattle.base.proofs.Passed.{passed, groups_fit, passing}
use Rattle.base.proofs.Groups.{groups_length, groups_copied}
use Rattle.writer.proofs.Copies.{same_size}
use Rattle.writer.proofs.Sheets.{sheet_parts}
use Rattle.writer.proofs.put_sheet.Statement.{statement}
use Rattle.writer.proofs.put_sheet.Tie as tie

put-front-requires : tie.Need-put_front-end-requires
put-front-requires c κs =
    let z = passed (form_of c.args.f) c.args.source.now c.requires.sized in
    search rules

put-bytes-requires : tie.Need-put_bytes-end-requires
put-bytes-requires c κs =
    let h = (groups_fit (passed (form_of c.args.f) c.args.source.now c.requires.sized)).room in
    search rules

returns : tie.Need-returns
returns c =
    let last = c.before.before in
    let first = last.before.before.before.before in
    let area = first.before.before.before.before in
    let front = area.before.before.before.before in
    let places = front.before.before in
    let read = places.before in
    let a = c.args in
    let F = form_of a.f in
    let source = a.source.now in
    let count = c.sizes_at-sizes.ensures.groups in
    let arrays = c.arrays_at-arrays.ensures.0 in
    let copied = groups_copied F source (λ i. (c.shared_slice_known-3-1.given i).fits) (groups_fit (passed F source c.requires.sized)).room in
    let back = to_z-of_z {w = w64} {z = a.node} c.ranges.node in
    let put = c.put_front-end.ensures then c.put_bytes-end.ensures then c.put_bytes-end-2.ensures then c.put_bytes.ensures in
    same_bytes (same_size put (omega arith))
    (rw (back, count, arrays)
    (sheet_parts F (head_fields a.head) a.node (groups_in F source) a.p a.first.now a.second.now (groups_length F source) copied))

pub put_sheet_spec : {M : Type 1} → statement M
put_sheet_spec =
    tie.close
    (tie.spec
    (λ c κs. search passing)
    (λ c κs. search rules)
    put-front-requires
    (λ c. search rules)
    put-bytes-requires
    (λ c κs. search rules)
    (λ c κs. search rules)
    (λ c. search rules)
    returns)
