-- `texts::same_join` meets its contract. Assumes nothing.
use Rattle.std.proofs.Common.{sym, ◌∙◌}
use Rattle.base.specs.Form.{form_of}
use Rattle.texts.specs.Joins.{join_in}
use Rattle.texts.proofs.Bytes.{join_size, same_lengths, comparing_start, comparing_more, comparing_failed, comparing_done}
use Rattle.texts.proofs.same_join.Goals as goal

pub returns-then-n-join_length : goal.returns-then-n-join_length
returns-then-n-join_length c =
    let a = c.args in
    let F = form_of a.f in
    let first = c.join_length-n.ensures ∙ sym (join_size F c.requires.0) in
    let second = c.join_length.ensures ∙ sym (join_size F c.requires.1) in
    sym (same_lengths (join_in F a.left.now a.right.now a.a) (join_in F a.left.now a.right.now a.b) (λ e. c.if-n-join_length.true (first ∙ e ∙ sym second)))

pub loop-i-init : goal.loop-i-init
loop-i-init c =
    let F = form_of c.args.f in
    let n = c.join_length-n.ensures in
    comparing_start (join_size F c.requires.0 ∙ sym n) (join_size F c.requires.1 ∙ sym (c.if-n-join_length.false ∙ c.join_length.ensures))

pub loop-i-preserved : goal.loop-i-preserved
loop-i-preserved c = comparing_more c.loop-i.invariant c.loop-i-test.true c.join_byte.ensures c.join_byte-in-loop-i.ensures c.if-join_byte.false

pub returns-then-join_byte : goal.returns-then-join_byte
returns-then-join_byte c = comparing_failed c.loop-i.invariant c.loop-i-test.true c.join_byte.ensures c.join_byte-in-loop-i.ensures c.if-join_byte.true

pub returns : goal.returns
returns c = comparing_done c.loop-i.invariant c.loop-i-test.false
