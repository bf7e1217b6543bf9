-- `texts::join_byte` meets its contract. Assumes nothing.
use Rattle.std.proofs.Common.{◌≡◌, ℕ, ◌-◌, get_or, sym, ap, ◌∙◌, arith}
use Rattle.base.specs.Form.{form_of}
use Rattle.texts.specs.Joins.{part_length, left_part, part_in}
use Rattle.texts.proofs.Bytes.{join_left, join_right}
use Rattle.texts.proofs.join_byte.Goals as goal

pub returns-then-i-n : goal.returns-then-i-n
returns-then-i-n c =
    let a = c.args in
    let F = form_of a.f in
    let n : c.part_length-n.result ≡ part_length (left_part a.c) = c.part_length-n.ensures.0 ∙ ap part_length c.left_part-p.ensures.0 in
    c.part_byte.ensures ∙ ap (λ (p : ℕ). get_or (part_in F a.left.now p) a.i 0) c.left_part-p.ensures.0 ∙ sym (join_left F c.requires.0 a.i (omega (arith, n)))

pub returns : goal.returns
returns c =
    let a = c.args in
    let F = form_of a.f in
    let m = c.part_length-n.result in
    let n : m ≡ part_length (left_part a.c) = c.part_length-n.ensures.0 ∙ ap part_length c.left_part-p.ensures.0 in
    c.part_byte-2.ensures
    ∙ ap (λ (p : ℕ). get_or (part_in F a.right.now p) (a.i - m) 0) c.right_part.ensures.0
    ∙ sym (join_right F c.requires.0 a.i m n c.if-i-n.false)
