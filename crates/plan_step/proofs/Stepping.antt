-- One step of a plan.
--     step_unlisted, step_taken       what it answers
--     step_lent                       what it is lent: the category stores, or it does not use them
-- Assumes nothing.
use mathlib.Core.Path.{◌≡◌, refl, sym, ap, subst, ◌∙◌}
use mathlib.Core.Bool.{Bool, true, false, cond, ◌&&◌}
use mathlib.Core.List.{List, ◌++◌}
use Prim.Native.Nat.{ℕ, ◌+◌, ◌≤◌}
use native.Mathlib.Omega.{arith}
use lib.IntN.{ℤ}
use lib.ListN.{length, take, drop, take-append-drop}
use lib.Dec.{T, eqb, leb}
use borrow.Author.Tests.{le-leb, eqb-true}
use Rattle.base.specs.Refusals.{Answer}
use Rattle.std.specs.declared.result.Result.TheVariants as U
use Rattle.base.specs.Form.{Form, narrow, byte_at, nature_at, whole_lists_nature, text_lists_nature, entries_at, longest}
use Rattle.base.specs.Components.{component_of}
use Rattle.base.specs.declared.Component.{Component}
use Rattle.base.specs.declared.Family.{Family}
use Rattle.std.specs.declared.option.Option.TheVariants as N
use Rattle.writer.specs.Written.{ends_room, lists_room, texts_room}
use Rattle.calls.specs.Single.{Outcome, outcome, step, delivery, single_of}
use Rattle.deliveries.specs.Code.{given}
use Rattle.lending.specs.Code.{holds_categories, holds_texts, joins_lists, joins_texts, Lent, Buffers}
use Rattle.lending.proofs.Lending.{none_held, no_texts}
use Rattle.plan_form.specs.Form.{component_number, left_of, right_of}
use Rattle.calls.specs.Walk.{slot_at, sheet_in, step_on}
use Rattle.plan_step.specs.Code.{Rooms, ListsLent, TextsLent, Large}

-- the same answer, with bytes in front
pub given_behind : (r : Answer ℕ) (front w : List ℕ) {o : Outcome} → given r w ≡ o → given r (front ++ w) ≡ outcome o.code o.value (front ++ o.bytes)
given_behind (U.Ok n) front w e = ap (λ (o : Outcome). outcome o.code o.value (front ++ o.bytes)) e
given_behind (U.Err k) front w e = ap (λ (o : Outcome). outcome o.code o.value (front ++ o.bytes)) e

module _ (p : List ℕ) (k : ℕ) (work : List ℕ) where
  pub step_unlisted : component_of (component_number p k) ≡ N.None → outcome 2 0 work ≡ step_on narrow p k work
  unfolding step_on single_of
  step_unlisted e = rw (e, take-append-drop)

  pub step_taken : {c : Component} → component_of (component_number p k) ≡ N.Some c → (r : Answer ℕ) (w : List ℕ)
      → given r w ≡ delivery (step narrow c k (sheet_in narrow (left_of p k) work) (sheet_in narrow (right_of p k) work)) (drop (slot_at narrow k) work)
      → given r (take (slot_at narrow k) work ++ w) ≡ step_on narrow p k work
  unfolding step_on single_of
  step_taken e r w h = rw e (given_behind r (take (slot_at narrow k) work) w h)

-- the scratch has room for the sheet of a range, where categories meet for one of categories, and where texts do for any
sheet_fits :
    (F : Form) (a b : Bool) {size : ℕ} → entries_at F F.group_limit + ends_room F ≤ size → (b ≡ true → entries_at F F.group_limit + lists_room F ≤ size) → (a ≡ true → longest F ≤ size)
    → entries_at F F.group_limit + cond a (texts_room F) (cond b (lists_room F) (ends_room F)) ≤ size
sheet_fits F true b h l t = let any = t refl in omega arith
sheet_fits F false true h l t = l refl
sheet_fits F false false h l t = h

-- left alone decides where it holds no categories
left_joins : (m : Family) (F : Form) (left right : List ℕ) → joins_lists m F left right ≡ true → holds_categories F left ≡ true
left_joins m F left right e = go (holds_categories F left) refl
  where
    go : (b : Bool) → holds_categories F left ≡ b → holds_categories F left ≡ true
    go true h = h
    go false h = absurd (subst T (sym (none_held m F left right h ∙ e)) tt)

-- texts are categories
text_held : (a : Bool) (k : ℕ) → (a && eqb k text_lists_nature) ≡ true → (a && leb whole_lists_nature k) ≡ true
text_held false k e = e
text_held true k e = le-leb whole_lists_nature k (omega (arith, eqb-true k text_lists_nature e))

left_texts : (m : Family) (F : Form) (left right : List ℕ) → joins_texts m F left right ≡ true → holds_categories F left ≡ true
left_texts m F left right e = go (holds_texts F left) refl
  where
    go : (b : Bool) → holds_texts F left ≡ b → holds_categories F left ≡ true
    go true h = text_held (leb F.arrays_at (length left)) (byte_at F nature_at left) h
    go false h = absurd (subst T (sym (no_texts m F left right h ∙ e)) tt)

-- left's sheet decides what may be used
module _ {m : Family} {F : Form} {left right sheet hints first second scratch : List ℕ} {us bs store : List ℤ} where
  pub step_lent : Rooms F first second scratch → left ≡ sheet → (holds_categories F sheet ≡ true → Large F us bs store hints first second scratch)
      → Buffers m F left right first second scratch × Lent m F left right us bs store hints first second
  step_lent rooms is large =
      let held = subst (λ (l : List ℕ). holds_categories F l ≡ true → Large F us bs store hints first second scratch) (sym is) large in
      let lists : joins_lists m F left right ≡ true → ListsLent F us bs store hints first second scratch = λ e. (held (left_joins m F left right e)).lists in
      let texts : joins_texts m F left right ≡ true → TextsLent F us bs store first second scratch = λ e. (held (left_texts m F left right e)).texts in (
        record {
          first_room = rooms.first_room;
          second_room = rooms.second_room;
          sheet_room = sheet_fits F (joins_texts m F left right) (joins_lists m F left right) rooms.sheet_room (λ e. (lists e).sheet_room) (λ e. (texts e).sheet_room);
        },
        record { stores = λ e. (lists e).stores; arrays = λ e. (lists e).arrays; texts = λ e. (texts e).stores },
      )
