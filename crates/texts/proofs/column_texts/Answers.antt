-- `texts::column_texts` meets its contract. Assumes nothing.
use Rattle.std.proofs.Common.{◌≡◌, length, sym, ◌∙◌}
use Rattle.base.specs.Form.{form_of}
use Rattle.base.specs.Decode.{lists}
use Rattle.category_lists.proofs.Operands.{listed_long, lists_length, pick_only, pick_own}
use Rattle.texts.specs.Joins.{as_part}
use Rattle.texts.proofs.column_texts.Goals as goal

pub sizes_at-sizes-requires : goal.sizes_at-sizes-requires
sizes_at-sizes-requires c = listed_long c.requires.0.listed

pub returns-then-sizes-eq1 : goal.returns-then-sizes-eq1
returns-then-sizes-eq1 c =
    let a = c.args in
    let all = lists (form_of a.f) a.s.now as_part in
    let one : length all ≡ 1 = lists_length (form_of a.f) a.s.now as_part ∙ sym c.sizes_at-sizes.ensures.lists ∙ c.if-sizes-eq1.true in
    rw (pick_only all a.j one) c.text_list.ensures

pub returns : goal.returns
returns c =
    let a = c.args in
    let all = lists (form_of a.f) a.s.now as_part in
    let own = pick_own all a.j (λ e. c.if-sizes-eq1.false (c.sizes_at-sizes.ensures.lists ∙ sym (lists_length (form_of a.f) a.s.now as_part) ∙ e)) in
    rw own c.text_list-2.ensures
