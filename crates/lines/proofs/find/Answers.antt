-- `position` gives the first place, counted from `from`. Assumes nothing.
use Rattle.std.proofs.Common.{rules, tests, ◌==◌}
use Rattle.std.proofs.lemmas.Iterator.{YieldsList-from_slice}
use Rattle.std.proofs.lemmas.Iterator.Search.{position_from_yields_List}
use Rattle.std.proofs.lemmas.List.{take_rest}
use Rattle.lines.proofs.Places.{found_at}
use Rattle.lines.proofs.find.Goals as goal

pub returns : goal.returns
returns c =
    let place = position_from_yields_List (λ x. x == c.args.b) _ _ c.position.result c.position.ensures.ran (YieldsList-from_slice _ c.iter.ensures.rest) (λ x r q k. search (rules, tests)) in
    found_at _ c.requires (take_rest c.args.s.now c.args.from) place c.unwrap_or.ensures
