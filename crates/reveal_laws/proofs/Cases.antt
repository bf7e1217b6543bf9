-- The call by its tests, in their order.
--     formed, within                            a call that passed 1
--     which                                     the four cases
--     shown_refused, shown_fits, shown_short    what was walked, and whether it is shown
-- Assumes nothing.
use mathlib.Core.Path.{◌≡◌, refl}
use mathlib.Core.Bool.{Bool, true, false, cond, not, ◌||◌}
use mathlib.Core.List.{List}
use Prim.Native.Nat.{ℕ, ◌*◌, ◌≤◌, ◌<◌}
use lib.Dec.{eqb, leb, ltb}
use lib.ListN.{length}
use borrow.Author.Tests.{leb-false, ltb-true, ltb-false, lt-ltb, le-ltb, le-leb, lt-leb, eq-eqb, ne_eqb}
use Rattle.octets.specs.Deliver.{delivered}
use Rattle.base.specs.Form.{narrow}
use Rattle.plan_form.specs.Form.{node_count, leaf_count, plan_fails, no_node}
use Rattle.calls.specs.Single.{Outcome}
use Rattle.calls.specs.Walk.{slot_at, sheet_in}
use Rattle.rights.specs.Rights.{owner_bytes, owners_of, seen}
use Rattle.rights.specs.Reveal.{revealed, call_fails, showing, shown_of}
use Rattle.rights.proofs.Admitting.{call_passed}

-- a call that passed 1
module _ (p owners : List ℕ) (wanted : ℕ) (passed : call_fails p owners wanted ≡ false) where
  pub formed : plan_fails p ≡ false
  formed = (call_passed p owners wanted passed).0.formed

  pub within : wanted < node_count p
  within = (call_passed p owners wanted passed).0.within

module _ (p owners : List ℕ) (reader wanted : ℕ) where
  abbrev pub may_show : Bool
  may_show = seen (owners_of p owners wanted) reader

  pub data Case (work : List ℕ) : Type 0 where
    fails : call_fails p owners wanted ≡ true → Case work
    short : call_fails p owners wanted ≡ false → length work < slot_at narrow (node_count p) → Case work
    unseen : call_fails p owners wanted ≡ false → slot_at narrow (node_count p) ≤ length work → may_show ≡ false → Case work
    shows : call_fails p owners wanted ≡ false → slot_at narrow (node_count p) ≤ length work → may_show ≡ true → Case work

  pub which : (work : List ℕ) → Case work
  which work = go (call_fails p owners wanted) (ltb (length work) (slot_at narrow (node_count p))) may_show refl refl refl
    where
      go : (a b c : Bool) → call_fails p owners wanted ≡ a → ltb (length work) (slot_at narrow (node_count p)) ≡ b → may_show ≡ c → Case work
      go true b c e f g = fails e
      go false true c e f g = short e (ltb-true (length work) (slot_at narrow (node_count p)) f)
      go false false false e f g = unseen e (ltb-false (length work) (slot_at narrow (node_count p)) f) g
      go false false true e f g = shows e (ltb-false (length work) (slot_at narrow (node_count p)) f) g

-- ---- what was walked

module _ (wanted : ℕ) (o : Outcome) (out : List ℕ) where
  pub shown_refused : (o.code ≡ 0 → ⊥) → shown_of narrow wanted o out ≡ revealed o.code o.value o.bytes out
  unfolding shown_of
  shown_refused h = rw (ne_eqb o.code 0 h)

  abbrev sheet : List ℕ
  sheet = sheet_in narrow wanted o.bytes

  pub shown_fits : o.code ≡ 0 → length sheet ≤ length out → shown_of narrow wanted o out ≡ revealed 0 (length sheet) o.bytes (delivered out sheet)
  unfolding shown_of showing
  shown_fits e h = rw (eq-eqb o.code 0 e, le-leb (length sheet) (length out) h)

  pub shown_short : o.code ≡ 0 → length out < length sheet → shown_of narrow wanted o out ≡ revealed 27 no_node o.bytes out
  unfolding shown_of showing
  shown_short e h = rw (eq-eqb o.code 0 e, lt-leb (length sheet) (length out) h)
