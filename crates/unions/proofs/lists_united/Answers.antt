-- `unions::lists_united` meets its contract. Assumes nothing.
use Rattle.std.proofs.Common.{ℕ, ◌≤◌, ap, ◌∙◌, arith}
use Rattle.numbers.specs.Kind.{eq_z}
use Rattle.base.specs.Form.{form_of, list_count}
use Rattle.base.specs.Decode.{as_whole, lists}
use Rattle.base.proofs.Forms.{laid}
use Rattle.category_lists.specs.Columnwise.{each_from}
use Rattle.category_lists.specs.Answers.{lists_written}
use Rattle.category_lists.proofs.Operands.{listed_long, listed_within}
use Rattle.category_lists.proofs.Columnwise.{columns_counted, columns_reached}
use Rattle.unions.specs.Code.{union_of}
use Rattle.unions.proofs.United.{united_natures}
use Rattle.unions.proofs.lists_united.Goals as goal

pub sizes_at-l-requires : goal.sizes_at-l-requires
sizes_at-l-requires c = listed_long c.requires.uniting.0.left_listed

pub sizes_at-r-requires : goal.sizes_at-r-requires
sizes_at-r-requires c = listed_long c.requires.uniting.0.right_listed

pub nature_of-nature-requires : goal.nature_of-nature-requires
nature_of-nature-requires c = listed_long c.requires.uniting.0.left_listed

pub unions_into-requires : goal.unions_into-requires
unions_into-requires c =
    let p = c.requires.uniting in
    let a = c.args in
    let F = form_of a.f in
    let l = list_count F a.left.now in
    let r = list_count F a.right.now in
    let count = columns_counted a.columns l r c.spread.ensures c.sizes_at-l.ensures.lists c.spread-2.ensures c.sizes_at-r.ensures.lists c.lesser-n.ensures in
    let few : a.columns ≤ F.list_limit = omega (arith, (laid a.f).columns_listed) in
    let w = columns_reached a.columns l r c.lesser-n.result count few (listed_within p.0.left_listed) (listed_within p.0.right_listed) in
    record { listed = (p.0.left_listed, w.0); listed_2 = (p.0.right_listed, w.1); n_bound = w.2; stores = c.requires.stores }

pub returns : goal.returns
returns c =
    let a = c.args in
    let F = form_of a.f in
    let n = c.lesser-n.result in
    let count = columns_counted a.columns (list_count F a.left.now) (list_count F a.right.now) c.spread.ensures c.sizes_at-l.ensures.lists c.spread-2.ensures c.sizes_at-r.ensures.lists c.lesser-n.ensures in
    let columns = each_from (union_of eq_z (lists F a.left.now as_whole) (lists F a.right.now as_whole)) n 0 in
    (c.unions_into.ensures.0 ∙ ap (λ (nature : ℕ). lists_written F nature columns) c.nature_of-nature.ensures ∙ united_natures c.requires.uniting.0 a.columns n count, c.unions_into.ensures.1)
