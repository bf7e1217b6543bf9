-- `category_maps::maps_into` meets its contract. Assumes nothing.
use mathlib.Core.Path.{◌≡◌, sym, ap, ◌∙◌}
use mathlib.Core.Bool.{true}
use Prim.Native.Nat.{◌+◌}
use native.Mathlib.Omega.{arith}
use lib.IntN.{ℤ, pos}
use lib.ListN.{take, get_or}
use mir.Syntax.{w64}
use mir.Val.{to_z, of_z}
use borrow.Author.Rules.{rules}
use Rattle.numbers.specs.Result.{Result, ok, refused}
use Rattle.numbers.specs.Kind.{fitting, eq_z}
use Rattle.utilities.proofs.Hints.{hinting_none}
use Rattle.base.specs.Form.{form_of, whole_lists_nature}
use Rattle.category_lists.specs.Categories.{image, rule_of}
use Rattle.category_lists.specs.Columnwise.{column_of}
use Rattle.category_lists.proofs.Columnwise.{column_in, column_alike}
use Rattle.category_lists.proofs.Gathering.{said, going_start, going_more, going_done, going_within, going_failed, ended_refused, ended_gathered}
use Rattle.category_lists.proofs.Noting.{image_is, notes_end, notes_ok, notes_bad, making_start, making_more, making_refused, making_done}
use Rattle.category_maps.proofs.maps_into.Invariants.{rest_of}
use Rattle.category_maps.proofs.maps_into.Goals as goal
use Rattle.category_maps.proofs.maps_into.Goals.{else-product-test, then-product-test+then-loop-a-test+in_default}
use Rattle.base.proofs.Told.{above_none}

pub product-init : goal.product-init
product-init c =
    let a = c.args in
    let left = a.left.now in
    going_start (form_of a.f) (column_in true a.c (form_of a.f) left left) a.n a.numbers.now a.values.now

-- ---- the values of column j

pub loop-a-init : goal.loop-a-init
unfolding column_of
loop-a-init c =
    let rule = rule_of c.args.c in
    let us = take c.column_list-l.result c.column_list-l.new.out in
    let column = sym (ap (image eq_z rule) c.column_list-l.ensures.start) ∙ image_is eq_z rule us in record {
      fine = c.product.invariant.fine;
      bound = omega arith;
      hinted = hinting_none c.clear_hints.ensures;
      making = making_start c.product.store (rest_of c.args.c us 0) column;
    }

pub loop-a-preserved : goal.loop-a-preserved
loop-a-preserved c =
    let noting = c.note_result-k in
    let l = c.loop-a in
    let component = c.args.c in
    let rule : ℤ → Result ℤ = λ z. rule_of component z z in
    let us = take c.column_list-l.result c.column_list-l.new.out in
    let x = get_or us l.a-index (pos 0) in
    let read : to_z w64 (of_z w64 x) ≡ x = search rules in
    let v = c.in-Some.v in
    let back : to_z w64 (of_z w64 v) ≡ v = search rules in
    let e : rule x ≡ ok v = rw read at (sym c.mapping.ensures ∙ ap fitting c.in-Some.is) in record {
      fine = l.invariant.fine;
      bound = omega (arith, noting.ensures.0, noting.auto.store);
      hinted = noting.ensures.1;
      making = making_more l.invariant.making (rest_of component us (l.a-index + 1)) back (λ seen. notes_ok eq_z rule us l.a-index seen (pos 0) c.loop-a-test.true e) noting.ensures.2;
    }

-- ---- the column is written

pub product-preserved : goal.product-preserved
product-preserved c =
    let add = c.append_columns-t in
    let l = c.loop-a in
    let a = c.args in
    let left = a.left.now in
    let us = take c.column_list-l.result c.column_list-l.new.out in
    let made = making_done l.invariant.making (λ seen. notes_end eq_z (λ z. rule_of a.c z z) us l.a-index seen c.loop-a-test.false) in
    let each = column_in true a.c (form_of a.f) left left in
    let alike = column_alike true a.c (form_of a.f) left left c.product.j c.column_end-end.result c.column_end-end.ensures.2 made.1 in
    going_more c.product.invariant l.invariant.fine c.column_end-end.ensures.1 made.2 alike (add.ensures each a.n made.0) add.auto.numbers add.auto.values

-- ---- how the loops are left

-- nothing was refused, so that all columns are written
pub returns : goal.returns
returns c =
    let o = c.product in
    let within = going_within o.invariant whole_lists_nature c.requires.n_bound c.requires.stores.1 c.gather.ensures in
    elim c.product-test.branch [
      | else-product-test w ↦ (ended_gathered (going_done o.invariant (ap said w.refused-is) w.product-test.false) (ap said c.in_default-refused.is) c.gather.ensures, within)
      | then-product-test+then-loop-a-test+in_default w ↦ absurd (omega (arith, ap said w.refused-is, ap said c.in_default-refused.is))
    ]

-- a value was refused, and so is the whole: there is no other way out with a refusal
pub returns-in-Some-refused : goal.returns-in-Some-refused
returns-in-Some-refused c =
    let number = ap said c.in-Some-refused.is in
    let some = above_none c.in-Some-refused.refusal in
    let o = c.product in
    let component = c.args.c in
    let rule : ℤ → Result ℤ = λ z. rule_of component z z in
    elim c.product-test.branch [
      | else-product-test w ↦ absurd (omega (arith, number, some, ap said w.refused-is))
      | then-product-test+then-loop-a-test+in_default w ↦
          let l = w.loop-a in
          let us = take w.column_list-l.result w.column_list-l.new.out in
          let x = get_or us l.a-index (pos 0) in
          let read : to_z w64 (of_z w64 x) ≡ x = search rules in
          let e : rule x ≡ refused 24 = rw read at (sym w.mapping.ensures ∙ ap fitting w.in_default.is) in
          let bad = making_refused l.invariant.making (λ seen. notes_bad eq_z rule us l.a-index seen (pos 0) w.loop-a-test.true e) in
          (ap refused (sym number) ∙ ended_refused (going_failed o.invariant (ap said w.refused-is) w.product-test.true bad) (λ z. omega (arith, number, some, z)), tt)
    ]
