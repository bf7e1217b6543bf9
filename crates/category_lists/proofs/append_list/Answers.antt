-- `category_lists::append_list` meets its contract. Assumes nothing.
use Rattle.std.proofs.Common.{◌≡◌, List, ◌+◌, ◌*◌, ◌≤◌, ◌<◌, ℤ, pos, w64, to_z, of_z, length, take, get_or, sym, subst, arith, rules, length-take-le}
use Rattle.octets.proofs.Appends.{pending_more, pending_end}
use Rattle.base.specs.Form.{form_of}
use Rattle.category_lists.specs.Answers.{Grown}
use Rattle.category_lists.proofs.Gathering.{number_more_lem, list_more, number_none, list_none}
use Rattle.category_lists.proofs.append_list.Goals as goal

pub loop-v-preserved : goal.loop-v-preserved
loop-v-preserved c =
    let l = c.loop-v in
    let a = c.args in
    let xs = take a.k a.store.now in
    let next : l.v-index < length xs = c.loop-v-test.true in
    let v = get_or xs l.v-index (pos 0) in
    let read : to_z w64 (of_z w64 v) ≡ v = search rules in record {
      at = omega (arith, c.put_number-at.ensures.next, l.invariant.at);
      place = omega (arith, c.put_i64-place.ensures.next, l.invariant.place);
      first = pending_more l.invariant.first c.put_number-at.ensures (number_more_lem xs l.v-index (form_of a.f) a.j next);
      second = pending_more l.invariant.second (rw read at c.put_i64-place.ensures) (list_more xs l.v-index next);
    }

pub returns : goal.returns
returns c =
    let l = c.loop-v in
    let a = c.args in
    let F = form_of a.f in
    let r = a.t + a.k in
    let store = a.store.now in
    let xs = take a.k store in
    let within : r ≤ F.category_limit = omega arith in
    let room : a.k ≤ length store = omega arith in
    let size = length-take-le a.k store room in
    let all : l.v-index ≡ a.k = omega arith in
    let end : length xs ≤ l.v-index = omega arith in
    let at : F.number_width * r ≡ l.at = rw (← all) (sym l.invariant.at) in
    let place : 8 * r ≡ l.place = omega arith in
    let grown : Grown F xs a.j a.t a.numbers.now a.values.now r l.numbers l.values =
    record {
      bound = omega arith;
      over = λ h. absurd (omega arith);
      count = λ h. omega arith;
      first = λ h. rw at (pending_end l.invariant.first (number_none xs l.v-index F a.j end));
      second = λ h. rw place (pending_end l.invariant.second (list_none xs l.v-index end));
    }
    in
    (omega arith, λ ys h. subst (λ (zs : List ℤ). Grown F zs a.j a.t a.numbers.now a.values.now r l.numbers l.values) (h.holds room) grown)
