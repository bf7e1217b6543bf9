-- `natures::propagate_binary_nature`: nothing is stated, or the lists are combined, or 17 refuses, or the ranges are. Assumes nothing.
use mathlib.Core.Path.{◌≡◌, sym, ap, ◌∙◌}
use native.Mathlib.Omega.{arith}
use Rattle.numbers.specs.Result.{ok}
use Rattle.base.specs.Form.{form_of, is_range_nature}
use Rattle.base.specs.Sheet.{absent}
use Rattle.base.specs.Components.{family_of}
use Rattle.base.specs.Decode.{nature_in}
use Rattle.base.proofs.Forms.{laid}
use Rattle.writer.specs.Written.{in_writing}
use Rattle.calls.specs.Natures.{lists_pair, binary_nature}
use Rattle.lending.specs.Code.{nature_room}
use Rattle.lending.proofs.Lending.{stands, ends_room_lem, nature_room_lem, wider}
use Rattle.list_codes.proofs.Numbers.{number_of}
use Rattle.natures.proofs.Sorted.{both_sorts, absent_left, absent_right, ranges_apart, unequal_ranges, both_ranges, both_lists}
use Rattle.natures.proofs.propagate_binary_nature.Goals.{then-x-eq-ABSENT_NATURE-via-then-x-eq-ABSENT_NATURE, then-x-eq-ABSENT_NATURE-via-else-x-eq-ABSENT_NATURE+then-y-eq-ABSENT_NATURE, then-x-eq-ABSENT_NATURE-via-else-x-eq-ABSENT_NATURE+else-y-eq-ABSENT_NATURE+then-is_range}
use Rattle.natures.proofs.propagate_binary_nature.Goals as goal

pub nature_of-x-requires : goal.nature_of-x-requires
nature_of-x-requires c = stands c.requires.read.0

pub nature_of-y-requires : goal.nature_of-y-requires
nature_of-y-requires c = stands c.requires.read.1

pub returns-then-x-eq-ABSENT_NATURE : goal.returns-then-x-eq-ABSENT_NATURE
returns-then-x-eq-ABSENT_NATURE c =
    let a = c.args in
    let F = form_of a.f in
    let l = number_of F a.left.now c.requires.read.0 ∙ sym c.nature_of-x.ensures in
    let r = number_of F a.right.now c.requires.read.1 ∙ sym c.nature_of-y.ensures in
    let n = c.nothing_stated.ensures (nature_room (family_of a.c) F a.left.now a.right.now) a.first.now a.second.now in
    let e : binary_nature F a.c a.data_type a.columns (nature_in F a.left.now) (nature_in F a.right.now) ≡ ok absent =
    elim c.then-x-eq-ABSENT_NATURE.branch [
      | then-x-eq-ABSENT_NATURE-via-then-x-eq-ABSENT_NATURE w ↦ absent_left _ _ _ _ _ _ (l ∙ w.if-x-eq-ABSENT_NATURE.true)
      | then-x-eq-ABSENT_NATURE-via-else-x-eq-ABSENT_NATURE+then-y-eq-ABSENT_NATURE w ↦ absent_right _ _ _ _ _ _ (r ∙ w.if-y-eq-ABSENT_NATURE.true)
      | then-x-eq-ABSENT_NATURE-via-else-x-eq-ABSENT_NATURE+else-y-eq-ABSENT_NATURE+then-is_range w ↦
          ranges_apart _ _ _ _ _ _ _ _ (ap is_range_nature l ∙ sym w.is_range.ensures) (ap is_range_nature r ∙ sym w.is_range-else-y-eq-ABSENT_NATURE.ensures) w.if-is_range.true
    ] in
    (n.0 ∙ ap (in_writing F) (sym e), n.1)

pub returns-then-not-is_range : goal.returns-then-not-is_range
returns-then-not-is_range c =
    let a = c.args in
    let F = form_of a.f in
    let l = number_of F a.left.now c.requires.read.0 ∙ sym c.nature_of-x.ensures in
    let r = number_of F a.right.now c.requires.read.1 ∙ sym c.nature_of-y.ensures in
    let x = sym c.is_range-2.ensures ∙ c.if-not-is_range.true in
    let y = sym c.is_range-else-y-eq-ABSENT_NATURE.ensures ∙ both_sorts _ _ c.if-is_range.false ∙ c.is_range.ensures ∙ x in
    let e = both_lists a.c a.data_type a.columns (lists_pair F a.c a.data_type a.columns) _ _ (λ z. c.if-x-eq-ABSENT_NATURE.false (sym l ∙ z)) (ap is_range_nature l ∙ x)
    (λ z. c.if-y-eq-ABSENT_NATURE.false (sym r ∙ z)) (ap is_range_nature r ∙ y) in
    (c.propagate_binary_categorical_nature.ensures.0 ∙ ap (in_writing F) (sym e), c.propagate_binary_categorical_nature.ensures.1)

pub returns-then-x-y : goal.returns-then-x-y
returns-then-x-y c =
    let a = c.args in
    let F = form_of a.f in
    let l = number_of F a.left.now c.requires.read.0 ∙ sym c.nature_of-x.ensures in
    let r = number_of F a.right.now c.requires.read.1 ∙ sym c.nature_of-y.ensures in
    let x = sym c.is_range-2.ensures ∙ c.if-not-is_range.false in
    let y = sym c.is_range-else-y-eq-ABSENT_NATURE.ensures ∙ both_sorts _ _ c.if-is_range.false ∙ c.is_range.ensures ∙ x in
    let e = unequal_ranges a.c a.data_type a.columns (lists_pair F a.c a.data_type a.columns) _ _ (ap is_range_nature l ∙ x) (ap is_range_nature r ∙ y) (λ same. c.if-x-y.true (sym l ∙ same ∙ r)) in
    (ap (in_writing F) (sym e), tt)

pub returns : goal.returns
returns c =
    let a = c.args in
    let F = form_of a.f in
    let x = c.nature_of-x.ensures in
    let range = rw x at (sym c.is_range-2.ensures ∙ c.if-not-is_range.false) in
    let e = both_ranges a.c a.data_type a.columns (lists_pair F a.c a.data_type a.columns) F a.left.now a.right.now range (sym x ∙ c.if-x-y.false ∙ c.nature_of-y.ensures) in
    ((rw x at c.range_pair.ensures.0) ∙ ap (in_writing F) (sym e), wider F _ _ (omega (arith, ends_room_lem (laid a.f) (family_of a.c) a.left.now a.right.now, nature_room_lem (laid a.f) (family_of a.c) a.left.now a.right.now)) c.range_pair.result c.range_pair.ensures.1)
