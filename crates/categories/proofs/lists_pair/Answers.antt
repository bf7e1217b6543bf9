-- `categories::lists_pair` meets its contract. Assumes nothing.
use Rattle.std.proofs.Common.{List, ℕ, ◌≤◌, ℤ, sym, ap, ap₂, ◌∙◌, arith}
use Rattle.numbers.specs.Result.{Result}
use Rattle.numbers.specs.Kind.{eq_z}
use Rattle.base.specs.Form.{form_of, list_count}
use Rattle.base.specs.Decode.{as_whole, lists}
use Rattle.base.proofs.Forms.{laid}
use Rattle.writer.specs.Written.{in_writing}
use Rattle.category_lists.specs.Categories.{limited, rule_of}
use Rattle.category_lists.specs.Columnwise.{spread_of, lesser_of}
use Rattle.category_lists.proofs.Operands.{listed_long, listed_within, lists_length}
use Rattle.category_lists.proofs.Columnwise.{columns_counted, columns_reached, combined_is}
use Rattle.categories.proofs.lists_pair.Goals as goal

pub sizes_at-l-requires : goal.sizes_at-l-requires
sizes_at-l-requires c = listed_long c.requires.listed.0

pub sizes_at-r-requires : goal.sizes_at-r-requires
sizes_at-r-requires c = listed_long c.requires.listed.1

pub products_into-requires : goal.products_into-requires
products_into-requires c =
    let p = c.requires.listed in
    let a = c.args in
    let F = form_of a.f in
    let l = list_count F a.left.now in
    let r = list_count F a.right.now in
    let count = columns_counted a.columns l r c.spread.ensures c.sizes_at-l.ensures.lists c.spread-2.ensures c.sizes_at-r.ensures.lists c.lesser-n.ensures in
    let few : a.columns ≤ F.list_limit = omega (arith, (laid a.f).columns_listed) in
    let w = columns_reached a.columns l r c.lesser-n.result count few (listed_within p.0) (listed_within p.1) in
    record { listed = (p.0, w.0, p.4); listed_2 = (p.1, w.1); n_bound = w.2; stores = c.requires.stores }

pub returns : goal.returns
returns c =
    let a = c.args in
    let F = form_of a.f in
    let left = a.left.now in
    let right = a.right.now in
    let count = columns_counted a.columns (list_count F left) (list_count F right) c.spread.ensures c.sizes_at-l.ensures.lists c.spread-2.ensures c.sizes_at-r.ensures.lists c.lesser-n.ensures in
    let sizes = ap₂ (λ (l r : ℕ). lesser_of (spread_of a.columns l) (spread_of a.columns r)) (sym (lists_length F left as_whole)) (sym (lists_length F right as_whole)) in
    let e = combined_is eq_z (rule_of a.c) a.columns (lists F left as_whole) (lists F right as_whole) c.lesser-n.result (count ∙ sizes) in
    (c.products_into.ensures.0 ∙ ap (λ (g : Result (List (List ℤ))). in_writing F (limited F.category_limit g)) e, c.products_into.ensures.1)
