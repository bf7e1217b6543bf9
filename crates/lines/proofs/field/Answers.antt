-- The parts that the closure cuts are those of the definition, and `nth` gives the k-th. Assumes nothing.
use Rattle.std.proofs.Common.{rules, tests, ◌≡◌, ◌==◌, refl, sym, ap, ◌∙◌, ℕ, List, [], Option, Some, None, Bor}
use Rattle.std.specs.Prelude.{unwrap_or, option_map}
use Rattle.std.proofs.lemmas.Iterator.Consumers.{nth_from_yields_List}
use Rattle.std.proofs.lemmas.Iterator.Splits.{YieldsList-from_slice_split}
use Rattle.std.proofs.lemmas.Option.{unwrap_or-slice_get}
use Rattle.lines.specs.Fields.{field_of, parts}
use Rattle.lines.proofs.field.Goals as goal

-- the bytes of what is there, or none
abbrev bytes_of : Option (Bor (List ℕ)) → List ℕ
bytes_of o = unwrap_or (option_map (λ x. x.now) o) []

pub returns-in_default : goal.returns-in_default
unfolding field_of
returns-in_default c =
    let s = c.args.s.now in
    let item = nth_from_yields_List c.nth.result c.nth.new.self c.args.k c.nth.ensures.ran (YieldsList-from_slice_split _ (λ b. b == 32) s c.split.ensures.rest c.split.ensures.done c.split.ensures.closure (λ x r q k. search (rules, tests))) in
    sym (ap bytes_of c.in_default.is) ∙ ap (λ (o : Option (List ℕ)). unwrap_or o []) item ∙ unwrap_or-slice_get (parts 32 s) c.args.k []

pub returns : goal.returns
unfolding field_of
returns c =
    let s = c.args.s.now in
    let item = nth_from_yields_List c.nth.result c.nth.new.self c.args.k c.nth.ensures.ran (YieldsList-from_slice_split _ (λ b. b == 32) s c.split.ensures.rest c.split.ensures.done c.split.ensures.closure (λ x r q k. search (rules, tests))) in
    sym (ap bytes_of c.in-Some.is) ∙ ap (λ (o : Option (List ℕ)). unwrap_or o []) item ∙ unwrap_or-slice_get (parts 32 s) c.args.k []
