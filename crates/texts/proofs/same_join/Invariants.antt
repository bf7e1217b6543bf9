-- The invariant of `texts::same_join`: the joins are as long as each other, and are the same if they are the same from byte i on.
use Rattle.base.specs.Form.{form_of}
use Rattle.category_lists.specs.Categories.{same_text}
use Rattle.texts.specs.Joins.{join_in}
use Rattle.texts.proofs.Bytes.{Comparing}
use Rattle.texts.proofs.same_join.Given as goal

abbrev pub invariant-loop-i : goal.invariant-loop-i
invariant-loop-i l =
    let x = join_in (form_of l.f) l.left l.right l.a in
    let y = join_in (form_of l.f) l.left l.right l.b in
    Comparing x y l.n l.i (same_text x y)
