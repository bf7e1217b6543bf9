-- `text_areas::put_join` meets its contract. Assumes nothing.
use Rattle.std.proofs.Common.{◌++◌, ap, ap₂, ◌∙◌, arith}
use Rattle.octets.proofs.Appends.{◌then◌, same_bytes}
use Rattle.writer.proofs.Copies.{same_size}
use Rattle.base.specs.Form.{form_of}
use Rattle.texts.specs.Joins.{part_start, part_length, left_part, right_part, join_in}
use Rattle.texts.proofs.Bytes.{join_size}
use Rattle.text_areas.proofs.Sizes.{part_read}
use Rattle.text_areas.proofs.put_join.Goals as goal

pub put_bytes-end-requires : goal.put_bytes-end-requires
put_bytes-end-requires c = let all = join_size (form_of c.args.f) c.requires.0 in (omega arith, omega arith)

pub put_bytes-requires : goal.put_bytes-requires
put_bytes-requires c = let all = join_size (form_of c.args.f) c.requires.0 in (omega arith, omega arith)

pub returns : goal.returns
unfolding join_in
returns c =
    let a = c.args in
    let F = form_of a.f in
    let left = c.part_length.ensures.0 ∙ ap part_length c.left_part-p.ensures.0 in
    let right = c.part_length-2.ensures.0 ∙ ap part_length c.right_part-q.ensures.0 in
    let all = join_size F c.requires.0 in
    let bytes =
    ap₂ ◌++◌
    (part_read F a.left.now (left_part a.c) left c.area_of.ensures (c.part_start.ensures.0 ∙ ap part_start c.left_part-p.ensures.0))
    (part_read F a.right.now (right_part a.c) right c.area_of-2.ensures (c.part_start-2.ensures.0 ∙ ap part_start c.right_part-q.ensures.0))
    in
    same_size (same_bytes (c.put_bytes-end.ensures then c.put_bytes.ensures) bytes) (omega (arith, all, left, right))
