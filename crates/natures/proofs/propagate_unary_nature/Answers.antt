-- `natures::propagate_unary_nature`: nothing is stated, or the range is mapped, or the lists are. Assumes nothing.
use mathlib.Core.Path.{sym, ap, ◌∙◌}
use borrow.Author.Tests.{ne_eqb}
use Rattle.base.specs.Form.{form_of, is_range_nature}
use Rattle.base.specs.Components.{family_of}
use Rattle.base.specs.Decode.{nature_in}
use Rattle.base.proofs.Forms.{laid}
use Rattle.writer.specs.Written.{in_writing}
use Rattle.list_codes.specs.Code.{has_rule}
use Rattle.lending.specs.Code.{arrays_room}
use Rattle.lending.proofs.Lending.{stands, range_room, ends_room_lem, wider}
use Rattle.list_codes.proofs.Numbers.{number_of}
use Rattle.natures.proofs.Sorted.{alone_absent, alone_range, alone_lists}
use Rattle.natures.proofs.propagate_unary_nature.Goals as goal

pub nature_of-x-requires : goal.nature_of-x-requires
nature_of-x-requires c = stands c.requires.read.0

pub returns-then-x-eq-ABSENT_NATURE : goal.returns-then-x-eq-ABSENT_NATURE
returns-then-x-eq-ABSENT_NATURE c =
    let a = c.args in
    let F = form_of a.f in
    let s = a.s.now in
    let e = alone_absent F.category_limit a.c a.data_type a.columns (nature_in F s) (number_of F s c.requires.read.0 ∙ sym c.nature_of-x.ensures ∙ c.if-x-eq-ABSENT_NATURE.true) in
    let n = c.nothing_stated.ensures (arrays_room (family_of a.c) F a.s.now a.s.now) a.first.now a.second.now in
    (n.0 ∙ ap (in_writing F) (sym e), n.1)

pub range_pair-requires : goal.range_pair-requires
range_pair-requires c =
    let p = c.requires.read in
    let range = rw c.nature_of-x.ensures at (sym c.is_range.ensures ∙ c.if-is_range.true) in
    let room = range_room p.1 (laid c.args.f) in
    (p.0.sizes, range, p.0.sizes, range, p.1.within, room.0, room.1)

pub returns-then-is_range : goal.returns-then-is_range
returns-then-is_range c =
    let a = c.args in
    let F = form_of a.f in
    let k = c.nature_of-x.ensures in
    let range = rw k at (sym c.is_range.ensures ∙ c.if-is_range.true) in
    let e = alone_range F.category_limit a.c a.data_type a.columns (ap has_rule c.requires.read.2) F a.s.now range in
    ((rw k at c.range_pair.ensures.0) ∙ ap (in_writing F) (sym e), wider F _ _ (ends_room_lem (laid a.f) (family_of a.c) a.s.now a.s.now) c.range_pair.result c.range_pair.ensures.1)

-- neither absent nor a range
pub propagate_unary_categorical_nature-requires-clause-lists : goal.propagate_unary_categorical_nature-requires-clause-lists
propagate_unary_categorical_nature-requires-clause-lists c =
    let p = c.requires.read in (
      record {
        read = p.0;
        present = rw c.nature_of-x.ensures at (ne_eqb c.nature_of-x.result 0 c.if-x-eq-ABSENT_NATURE.false);
        no_range = rw c.nature_of-x.ensures at (sym c.is_range.ensures ∙ c.if-is_range.false);
      },
      p.1,
      p.2,
    )

pub returns : goal.returns
returns c =
    let a = c.args in
    let F = form_of a.f in
    let s = a.s.now in
    let p = number_of F s c.requires.read.0 in
    let no_range = rw c.nature_of-x.ensures at (sym c.is_range.ensures ∙ c.if-is_range.false) in
    let e = alone_lists F.category_limit a.c a.data_type a.columns (nature_in F s) (λ z. c.if-x-eq-ABSENT_NATURE.false (c.nature_of-x.ensures ∙ sym p ∙ z)) (ap is_range_nature p ∙ no_range) in
    (c.propagate_unary_categorical_nature.ensures.0 ∙ ap (in_writing F) (sym e), c.propagate_unary_categorical_nature.ensures.1)
