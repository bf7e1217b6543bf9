-- `category_lists::note_result` meets its contract. Assumes nothing.
use mathlib.Core.Path.{◌≡◌, sym, ap, subst, ◌∙◌}
use mathlib.Core.List.{List}
use Prim.Native.Nat.{ℕ, ◌+◌, ◌≤◌, ◌<◌}
use native.Mathlib.Omega.{arith}
use lib.IntN.{ℤ}
use lib.ListN.{length, take}
use lib.Seq.{take_all}
use mir.Syntax.{w64}
use mir.Val.{to_z, of_z}
use borrow.Author.Rules.{rules}
use Rattle.numbers.specs.Kind.{eq_z}
use Rattle.utilities.specs.Noted.{Hinting}
use Rattle.utilities.proofs.Begins.{begins_room, notes_at, notes_full}
use Rattle.utilities.proofs.Hints.{hinting_at, hinting_full}
use Rattle.category_lists.proofs.Gathering.{stored_over, stored_noted, stored_full}
use Rattle.category_lists.proofs.note_result.Statement.{statement}
use Rattle.category_lists.proofs.note_result.Tie as tie

-- of a full store there is no more to take
all_taken : {hints : List ℕ} (store : List ℤ) (k r : ℕ) → length store ≤ k → length store ≤ r → Hinting hints (take k store) → Hinting hints (take r store)
all_taken {hints} store k r h e w = subst (Hinting hints) (take_all k store h ∙ sym (take_all r store e)) w

returns : tie.Need-returns-then-store-k
returns c = (
  omega (arith, c.requires.0),
  all_taken c.args.store.now c.args.k _ (omega (arith, c.if-store-k.true)) (omega (arith, c.if-store-k.true)) c.requires.2,
  λ seen h. let over : length c.args.store.now < c.args.k = omega (arith, c.if-store-k.true) in stored_over eq_z h _ _ over (omega (arith, over)),
)

returns-2 : tie.Need-returns-in_default
returns-2 c =
    let n = c.before.before.before.before.before in
    let a = c.args in
    let store = a.store.now in
    let room : a.k ≤ length store = c.if-store-k.false in
    let after = c.note_hinted.new.out in
    let read : to_z w64 (of_z w64 a.v) ≡ a.v = search rules in
    let lacks = notes_full a.k _ store after c.in_default.is c.note_hinted.ensures.0 in
    let size = ap length lacks.same in
    let above : length store < a.k + 1 = omega (arith, lacks.full) in (
      omega (arith, room),
      all_taken after a.k (a.k + 1) (omega (arith, size, lacks.full)) (omega (arith, size, above)) (hinting_full a.k after c.in_default.is c.note_hinted.ensures.1),
      λ seen h. stored_full eq_z h read room (a.k + 1) above lacks.new (omega (arith, lacks.full)) lacks.same,
    )

returns-3 : tie.Need-returns
returns-3 c =
    let n = c.before.before.before.before.before.before in
    let a = c.args in
    let store = a.store.now in
    let room : a.k ≤ length store = c.if-store-k.false in
    let after = c.note_hinted.new.out in
    let read : to_z w64 (of_z w64 a.v) ≡ a.v = search rules in
    let begins = notes_at a.k _ store after c.in-Some.is c.note_hinted.ensures.0 in (
      omega (arith, begins_room begins, c.note_hinted.auto.out),
      hinting_at a.k after c.in-Some.is c.note_hinted.ensures.1,
      λ seen h. stored_noted eq_z h read room begins.start (begins_room begins),
    )

pub note_result_spec : {M : Type 1} → statement M
note_result_spec =
    tie.close
    (tie.spec
    returns
    (λ c κs. search rules)
    (λ c. search rules)
    (λ c. search rules)
    (λ c. search rules)
    (λ c. search rules)
    (λ c. search rules)
    returns-2
    (λ c. search rules)
    (λ c. search rules)
    returns-3)
