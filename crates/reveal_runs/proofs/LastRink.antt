-- A node of rink 63 is not shown to a reader who has every other rink (`last_rink_lem`). The count of ones of so large a number is taken by its law and not by
-- computation.
-- Assumes nothing.
use mathlib.Core.Path.{◌≡◌, refl, ap, ◌∙◌}
use mathlib.Core.Bool.{Bool, false, cond}
use mathlib.Core.List.{[], ◌∷◌}
use mathlib.Core.Option.{none}
use Prim.Native.Nat.{◌+◌, ◌-◌, ◌<◌}
use native.Mathlib.Omega.{arith}
use lib.Count.{ones, ones_cat}
use Rattle.base.specs.Form.{narrow}
use Rattle.plan_form.specs.Form.{plan_fails, step_permitted}
use Rattle.step_laws.specs.Computing.{computing}
use Rattle.step_laws.specs.Examples.{slots_of}
use Rattle.standing.specs.Standing.{turns}
use Rattle.rights.specs.Rights.{fewest_shown, seen}
use Rattle.rights.specs.Reveal.{revealed, call_fails, shown_of, walked_to, reveal}
use Rattle.rights.proofs.Rules.{few_owners}
use Rattle.reveal_runs.specs.Runs.{first, sets_of, out_with, single, last_rink}

small : ones 1 + ones 0 ≡ 1
unfolding ones
small = refl

one_rink : ones last_rink ≡ 1
one_rink = ones_cat 63 1 0 (omega arith) ∙ small

few : ones last_rink < fewest_shown
few = omega (arith, one_rink)

unseen : seen last_rink (last_rink - 1) ≡ false
unseen = few_owners last_rink (last_rink - 1) refl few

pub last_rink_lem :
    reveal narrow single (sets_of (last_rink ∷ [])) (last_rink - 1) 0 (slots_of (first ∷ [])) (out_with 120 none)
    ≡ revealed 30 0 (slots_of (first ∷ [])) (out_with 120 none)
unfolding reveal call_fails plan_fails step_permitted single sets_of slots_of out_with turns computing
last_rink_lem =
    let work = slots_of (first ∷ []) in
    let lent = out_with 120 none in
    let walked = walked_to narrow single 0 work in
    ap (λ (t : Bool). cond t (shown_of narrow 0 walked lent) (revealed 30 0 work lent)) unseen
