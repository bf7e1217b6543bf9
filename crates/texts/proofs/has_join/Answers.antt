-- `texts::has_join` meets its contract. Assumes nothing.
use Rattle.std.proofs.Common.{◌≡◌, true, false, pos, w64, to_z, of_z, length, take, get_or, refl, sym, ◌∙◌, rules, arith}
use Rattle.std.proofs.lemmas.List.{take_all}
use Rattle.utilities.specs.Lists.{has}
use Rattle.utilities.proofs.Firsts.{has_here, has_missing}
use Rattle.base.specs.Form.{form_of}
use Rattle.base.specs.Encode.{whole_bits}
use Rattle.texts.specs.Joins.{same_join}
use Rattle.texts.proofs.has_join.Goals as goal

pub loop-v-init : goal.loop-v-init
unfolding has
loop-v-init c = refl

pub returns-then-same_join : goal.returns-then-same_join
returns-then-same_join c =
    let a = c.args in
    let i = c.loop-v.v-index in
    let items = take a.k a.store.now in
    let v = get_or items i (pos 0) in
    let same = same_join (form_of a.f) a.left.now a.right.now in
    let sought : c.complement-c.result ≡ whole_bits a.z = search rules in
    let part : c.complement.result ≡ whole_bits v = search rules in
    let found : same a.z v ≡ true = rw (← sought, ← part) (sym c.same_join.ensures ∙ c.if-same_join.true) in
    let here = has_here same a.z items i (length items) (pos 0) c.loop-v-test.true (omega arith) found in
    sym (rw (take_all (length items) items (omega arith)) at here)

pub loop-v-preserved : goal.loop-v-preserved
loop-v-preserved c =
    let a = c.args in
    let i = c.loop-v.v-index in
    let items = take a.k a.store.now in
    let v = get_or items i (pos 0) in
    let same = same_join (form_of a.f) a.left.now a.right.now in
    let read : to_z w64 (of_z w64 a.z) ≡ a.z = search rules in
    let sought : c.complement-c.result ≡ whole_bits a.z = search rules in
    let part : c.complement.result ≡ whole_bits v = search rules in
    let other : same a.z v ≡ false = rw (← sought, ← part) (sym c.same_join.ensures ∙ c.if-same_join.false) in
    rw read (has_missing same a.z items i (pos 0) c.loop-v-test.true (rw read at c.loop-v.invariant) other)
