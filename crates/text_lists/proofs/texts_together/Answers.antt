-- `text_lists::texts_together` meets its contract. Assumes nothing.
use Rattle.std.proofs.Common.{List, ℕ, ◌≤◌, sym, ap, ◌∙◌, arith}
use Rattle.numbers.specs.Result.{Result, and_then}
use Rattle.base.specs.Form.{form_of, list_count}
use Rattle.base.specs.Sheet.{text_lists}
use Rattle.base.proofs.Forms.{laid}
use Rattle.writer.specs.Written.{in_writing}
use Rattle.category_lists.specs.Categories.{kept}
use Rattle.category_lists.proofs.Operands.{listed_long, listed_within}
use Rattle.category_lists.proofs.Columnwise.{columns_counted, columns_reached}
use Rattle.text_lists.proofs.Columns.{together_joined}
use Rattle.text_lists.proofs.texts_together.Goals as goal

pub sizes_at-l-requires : goal.sizes_at-l-requires
sizes_at-l-requires c = listed_long c.requires.joining.0.lefts.listed

pub sizes_at-r-requires : goal.sizes_at-r-requires
sizes_at-r-requires c = listed_long c.requires.joining.0.rights.listed

pub texts_into-requires : goal.texts_into-requires
texts_into-requires c =
    let p = c.requires.joining in
    let a = c.args in
    let F = form_of a.f in
    let l = list_count F a.left.now in
    let r = list_count F a.right.now in
    let count = columns_counted a.columns l r c.spread.ensures c.sizes_at-l.ensures.lists c.spread-2.ensures c.sizes_at-r.ensures.lists c.lesser-n.ensures in
    let few : a.columns ≤ F.list_limit = omega (arith, (laid a.f).columns_listed) in
    let w = columns_reached a.columns l r c.lesser-n.result count few (listed_within p.0.lefts.listed) (listed_within p.0.rights.listed) in
    record { joining = (p.0, w.0, w.1, w.2); text_stores = c.requires.text_stores }

pub returns : goal.returns
returns c =
    let p = c.requires.joining in
    let a = c.args in
    let F = form_of a.f in
    let l = list_count F a.left.now in
    let r = list_count F a.right.now in
    let n = c.lesser-n.result in
    let count = columns_counted a.columns l r c.spread.ensures c.sizes_at-l.ensures.lists c.spread-2.ensures c.sizes_at-r.ensures.lists c.lesser-n.ensures in
    let few : a.columns ≤ F.list_limit = omega (arith, (laid a.f).columns_listed) in
    let w = columns_reached a.columns l r n count few (listed_within p.0.lefts.listed) (listed_within p.0.rights.listed) in
    let e = together_joined (laid a.f) p.0 a.joins a.columns n count w.0 w.1 in
    (c.texts_into.ensures.0 ∙ ap (λ (g : Result (List (List (List ℕ)))). in_writing F (and_then g (λ ns. kept F (text_lists ns)))) (sym e), c.texts_into.ensures.1)
