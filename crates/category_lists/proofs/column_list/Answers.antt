-- `category_lists::column_list` meets its contract. Assumes nothing.
use Rattle.std.proofs.Common.{◌≡◌, length, sym, ◌∙◌}
use Rattle.base.specs.Form.{form_of}
use Rattle.base.specs.Decode.{as_whole, lists}
use Rattle.category_lists.proofs.Operands.{listed_long, lists_length, pick_only, pick_own}
use Rattle.category_lists.proofs.column_list.Goals as goal

pub sizes_at-sizes-requires : goal.sizes_at-sizes-requires
sizes_at-sizes-requires c = listed_long c.requires.0

pub returns-then-sizes-eq1 : goal.returns-then-sizes-eq1
returns-then-sizes-eq1 c =
    let a = c.args in
    let all = lists (form_of a.f) a.s.now as_whole in
    let one : length all ≡ 1 = lists_length (form_of a.f) a.s.now as_whole ∙ sym c.sizes_at-sizes.ensures.lists ∙ c.if-sizes-eq1.true in
    rw (pick_only all a.j one) c.list_into.ensures

pub returns : goal.returns
returns c =
    let a = c.args in
    let all = lists (form_of a.f) a.s.now as_whole in
    let own = pick_own all a.j (λ e. c.if-sizes-eq1.false (c.sizes_at-sizes.ensures.lists ∙ sym (lists_length (form_of a.f) a.s.now as_whole) ∙ e)) in
    rw own c.list_into-2.ensures
