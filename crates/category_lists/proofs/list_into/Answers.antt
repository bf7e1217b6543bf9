-- `category_lists::list_into` meets its contract. Assumes nothing.
use Rattle.std.proofs.Common.{◌≡◌, ℕ, w64, to_z, of_z, take, sym, ap, ◌∙◌, rules, arith, length-take-le}
use Rattle.octets.specs.Le.{le_at}
use Rattle.numbers.specs.Kind.{eq_z}
use Rattle.utilities.specs.Lists.{firsts}
use Rattle.utilities.proofs.Firsts.{noted_length}
use Rattle.utilities.proofs.Begins.{begins_room, notes_at}
use Rattle.utilities.proofs.Hints.{hinting_none, hinting_at}
use Rattle.base.specs.Form.{form_of}
use Rattle.base.specs.Decode.{as_whole}
use Rattle.category_lists.proofs.Operands.{listed_long, listed_fits, lists_from, list_has, list_skips, list_end, taking_start, taking_same, taking_note, taking_done}
use Rattle.category_lists.proofs.list_into.Goals.{then-list_number-j+in-Some, else-list_number-j}
use Rattle.category_lists.proofs.list_into.Goals as goal

pub sizes_at-sizes-requires : goal.sizes_at-sizes-requires
sizes_at-sizes-requires c = listed_long c.requires.0

pub loop-i-init : goal.loop-i-init
loop-i-init c =
    let a = c.args in
    let fits = listed_fits c.requires.0 c.sizes_at-sizes.ensures in record {
      fits = fits;
      few = omega arith;
      hinted = hinting_none c.clear_hints.ensures;
      taking = taking_start a.out.now (ap (firsts eq_z) (lists_from (form_of a.f) a.s.now as_whole a.j fits c.requires.1));
    }

pub loop-i-preserved : goal.loop-i-preserved
loop-i-preserved c =
    let l = c.loop-i in
    let a = c.args in
    let F = form_of a.f in
    let s = a.s.now in
    let g = c.sizes_at-sizes.result.groups in
    let t = c.sizes_at-sizes.result.categories in
    elim c.if-list_number-j.branch [
      | then-list_number-j+in-Some w ↦
          let v = w.i64_at-v.result in
          let back : to_z w64 (of_z w64 v) ≡ v = search rules in
          let read = w.i64_at-v.ensures ∙ ap (λ (k : ℕ). as_whole (le_at 8 k s)) w.value_at.ensures in
          let begins = notes_at l.n v l.out w.note_hinted.new.out w.in-Some.is (rw back at w.note_hinted.ensures.0) in
          let has = list_has F s as_whole g t a.j l.i c.loop-i-test.true (sym c.list_number.ensures ∙ w.if-list_number-j.true) in
          rw (w.n-is, w.out-is, w.hints-is) (record {
            fits = l.invariant.fits;
            few = omega (arith, begins.count, noted_length eq_z (take l.n l.out) v, length-take-le l.n l.out (begins_room l.invariant.taking.begins), l.invariant.few);
            hinted = hinting_at l.n w.note_hinted.new.out w.in-Some.is w.note_hinted.ensures.1;
            taking = taking_note l.invariant.taking has read begins;
          })
      | else-list_number-j w ↦
          let skips = list_skips F s as_whole g t a.j l.i c.loop-i-test.true (λ e. w.if-list_number-j.false (c.list_number.ensures ∙ e)) in
          rw (w.n-is, w.out-is, w.hints-is) (record { fits = l.invariant.fits; few = omega arith; hinted = l.invariant.hinted; taking = taking_same l.invariant.taking skips })
    ]

pub returns : goal.returns
returns c =
    let l = c.loop-i in
    let a = c.args in
    taking_done l.invariant.taking (list_end (form_of a.f) a.s.now as_whole c.sizes_at-sizes.result.groups c.sizes_at-sizes.result.categories a.j l.i c.loop-i-test.false)
