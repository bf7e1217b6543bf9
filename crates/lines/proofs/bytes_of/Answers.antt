-- No field and the field of no bytes are told apart here, the others by `pairs`. Assumes nothing.
use Rattle.std.proofs.Common.{ℕ, List, [], refl, subst, rules}
use Rattle.std.proofs.Math.Option.{Option}
use Rattle.std.proofs.lemmas.Slice.Eq.{slice_eq-Decides}
use Rattle.std.proofs.lemmas.Bool.Decides.{Decides-eqb, not_from_Decides}
use Rattle.lines.specs.Bytes.{Puts}
use Rattle.lines.proofs.Texts.{none_of, field_none, field_dash, field_pairs}
use Rattle.lines.proofs.bytes_of.Goals as goal

pub returns-then-is_empty-clause-puts : goal.returns-then-is_empty-clause-puts
returns-then-is_empty-clause-puts c = none_of (field_none c.args.s.now (search rules))

pub returns-then-eq-clause-puts : goal.returns-then-eq-clause-puts
returns-then-eq-clause-puts c = ([], field_dash c.args.s.now ((slice_eq-Decides Decides-eqb _ _ _ c.eq.ensures).0 c.if-eq.true), refl, refl)

pub returns-clause-puts : goal.returns-clause-puts
returns-clause-puts c =
    let same = field_pairs c.args.s.now (search rules) (not_from_Decides _ (slice_eq-Decides Decides-eqb _ _ _ c.eq.ensures) c.if-eq.false) in
    subst (λ (o : Option (List ℕ)). Puts c.pairs.result o c.args.out.now c.pairs.new.out) same c.pairs.ensures.puts
