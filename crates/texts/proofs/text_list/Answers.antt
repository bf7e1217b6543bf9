-- `texts::text_list` meets its contract. Assumes nothing.
use Rattle.std.proofs.Common.{◌≡◌, ℕ, ◌<◌, w64, to_z, of_z, length, take, sym, ap, ◌∙◌, rules, arith, length-take-le}
use Rattle.octets.specs.Le.{le_at}
use Rattle.utilities.specs.Lists.{firsts}
use Rattle.utilities.proofs.Firsts.{noted_length}
use Rattle.base.specs.Form.{form_of}
use Rattle.base.specs.Decode.{as_whole}
use Rattle.base.proofs.Forms.{laid, small}
use Rattle.category_lists.proofs.Operands.{listed_long, listed_fits, lists_from, list_has, list_skips, list_end}
use Rattle.texts.specs.Joins.{as_part, same_join}
use Rattle.texts.proofs.Lying.{read_small, read_lies, empty_lies, lies_alone}
use Rattle.texts.proofs.Noting.{taking_start, taking_same, taking_noted, taking_note, taking_done}
use Rattle.texts.proofs.text_list.Goals.{then-list_number-j, else-list_number-j}
use Rattle.texts.proofs.text_list.Goals as goal

pub sizes_at-sizes-requires : goal.sizes_at-sizes-requires
sizes_at-sizes-requires c = listed_long c.requires.0.listed

pub loop-i-init : goal.loop-i-init
loop-i-init c =
    let a = c.args in
    let F = form_of a.f in
    let s = a.s.now in
    let same = same_join F s s in
    let fits = listed_fits c.requires.0.listed c.sizes_at-sizes.ensures in record {
      fits = fits;
      few = omega arith;
      lies = λ i h. absurd (omega arith);
      taking = taking_start same a.out.now (ap (firsts same) (lists_from F s as_part a.j fits c.requires.1));
    }

pub part-p-requires : goal.part-p-requires
part-p-requires c =
    let l = c.loop-i in
    let read = c.u64_at.ensures ∙ ap (λ (k : ℕ). le_at 8 k c.args.s.now) c.value_at.ensures in
    rw read (read_small (laid c.args.f) c.requires.0 l.invariant.fits l.i c.loop-i-test.true)

pub note_join-n-requires : goal.note_join-n-requires
note_join-n-requires c =
    let l = c.loop-i in
    let a = c.args in
    let read = c.u64_at.ensures ∙ ap (λ (k : ℕ). le_at 8 k a.s.now) c.value_at.ensures in
    let back : to_z w64 (of_z w64 c.signed.result) ≡ c.signed.result = search rules in
    let named = back ∙ c.signed.ensures ∙ ap as_whole c.part-p.ensures.0 ∙ ap as_part read in
    let lies = read_lies (laid a.f) c.requires.0 l.invariant.fits l.i c.loop-i-test.true in
    (omega (arith, l.invariant.taking.room), omega (arith, c.requires.2, (small a.f).categories), l.invariant.lies, rw named (lies_alone lies (empty_lies c.requires.0.listed)))

pub loop-i-preserved : goal.loop-i-preserved
loop-i-preserved c =
    let l = c.loop-i in
    let a = c.args in
    let F = form_of a.f in
    let s = a.s.now in
    let g = c.sizes_at-sizes.result.groups in
    let t = c.sizes_at-sizes.result.categories in
    elim c.if-list_number-j.branch [
      | then-list_number-j w ↦
          let x = to_z w64 (of_z w64 w.signed.result) in
          let back : x ≡ w.signed.result = search rules in
          let read = w.u64_at.ensures ∙ ap (λ (k : ℕ). le_at 8 k s) w.value_at.ensures in
          let named = back ∙ w.signed.ensures ∙ ap as_whole w.part-p.ensures.0 ∙ ap as_part read in
          let own = sym c.list_number.ensures ∙ w.if-list_number-j.true in
          let has = rw (← named) at (list_has F s as_part g t a.j l.i c.loop-i-test.true own) in
          let free : l.n < length l.out = omega (arith, l.invariant.fits.categories_within, c.requires.2) in
          let noted = taking_noted l.invariant.taking x free w.note_join-n.auto.store w.note_join-n.ensures.2 in
          rw (w.n-is, w.out-is) (record {
            fits = l.invariant.fits;
            few = omega (arith, noted.count, noted_length (same_join F s s) (take l.n l.out) x, length-take-le l.n l.out l.invariant.taking.room, l.invariant.few);
            lies = w.note_join-n.ensures.1;
            taking = taking_note l.invariant.taking has noted;
          })
      | else-list_number-j w ↦
          let skips = list_skips F s as_part g t a.j l.i c.loop-i-test.true (λ e. w.if-list_number-j.false (c.list_number.ensures ∙ e)) in
          rw (w.n-is, w.out-is) (record { fits = l.invariant.fits; few = omega arith; lies = l.invariant.lies; taking = taking_same l.invariant.taking skips })
    ]

pub returns : goal.returns
returns c =
    let l = c.loop-i in
    let a = c.args in
    taking_done l.invariant.taking (list_end (form_of a.f) a.s.now as_part c.sizes_at-sizes.result.groups c.sizes_at-sizes.result.categories a.j l.i c.loop-i-test.false)
