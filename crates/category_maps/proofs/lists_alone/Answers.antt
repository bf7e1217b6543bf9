-- `category_maps::lists_alone` meets its contract. Assumes nothing.
use Rattle.std.proofs.Common.{◌≡◌, List, ℤ, sym, ap, ◌∙◌, arith}
use Rattle.numbers.specs.Result.{Result}
use Rattle.numbers.specs.Kind.{eq_z}
use Rattle.base.specs.Form.{form_of, list_count}
use Rattle.base.specs.Decode.{as_whole, lists}
use Rattle.base.proofs.Forms.{laid}
use Rattle.writer.specs.Written.{in_writing}
use Rattle.category_lists.specs.Categories.{limited, rule_of}
use Rattle.category_lists.specs.Columnwise.{spread_of}
use Rattle.category_lists.proofs.Operands.{listed_long, listed_within, lists_length}
use Rattle.category_lists.proofs.Columnwise.{columns_within_lem, mapped_is}
use Rattle.category_maps.proofs.lists_alone.Goals as goal

pub sizes_at-sizes-requires : goal.sizes_at-sizes-requires
sizes_at-sizes-requires c = listed_long c.requires.listed.0

pub maps_into-requires : goal.maps_into-requires
maps_into-requires c =
    let p = c.requires.listed in
    let a = c.args in
    let l = list_count (form_of a.f) a.left.now in
    let e : c.spread-n.result ≡ spread_of a.columns l = c.spread-n.ensures ∙ ap (spread_of a.columns) c.sizes_at-sizes.ensures.lists in
    let w = columns_within_lem a.columns l c.spread-n.result (omega (arith, e)) (omega (arith, p.2, (laid a.f).columns_listed)) (listed_within p.0) in
    record { listed = (p.0, w.0, p.3); n_bound = w.1; stores = c.requires.stores }

pub returns : goal.returns
returns c =
    let a = c.args in
    let F = form_of a.f in
    let ls = lists F a.left.now as_whole in
    let size = c.spread-n.ensures ∙ ap (spread_of a.columns) (c.sizes_at-sizes.ensures.lists ∙ sym (lists_length F a.left.now as_whole)) in
    let e = mapped_is eq_z (rule_of a.c) a.columns ls ls c.spread-n.result size in
    (c.maps_into.ensures.0 ∙ ap (λ (g : Result (List (List ℤ))). in_writing F (limited F.category_limit g)) e, c.maps_into.ensures.1)
