-- A sheet shown in a lent output.
--     sheet_long, sheet_lent      the part of the work buffer that is the sheet
--     shown_whole, shown_short    it fits, or 27
-- Assumes nothing.
use mathlib.Core.Path.{◌≡◌, sym, ap, ◌∙◌}
use mathlib.Core.Bool.{true, false}
use mathlib.Core.List.{List}
use Prim.Native.Nat.{ℕ, ◌-◌}
use native.Mathlib.Omega.{arith}
use lib.Dec.{leb}
use lib.ListN.{length, take, drop, length-drop}
use lib.Seq.{take_all, length-take-le}
use Rattle.octets.specs.Deliver.{delivered}
use Rattle.base.specs.Form.{narrow}
use Rattle.plan_form.specs.Form.{no_node}
use Rattle.calls.specs.Single.{outcome}
use Rattle.calls.specs.Walk.{slot_at, sheet_in}
use Rattle.plan_leaves.specs.Code.{SlotIn, EndsAt}
use Rattle.rights.specs.Reveal.{showing}

module _ (work : List ℕ) (k end : ℕ) (room : SlotIn work k) (e : EndsAt work k end) where
  abbrev size : ℕ
  size = end - slot_at narrow k

  abbrev part : List ℕ
  part = take size (drop (slot_at narrow k) work)

  part_long : length part ≡ size
  part_long =
      let b = e.behind in
      let w = e.within in
      length-take-le size (drop (slot_at narrow k) work) (omega (arith, length-drop (slot_at narrow k) work))

  pub sheet_long : size ≡ length (sheet_in narrow k work)
  sheet_long = sym part_long ∙ ap length e.bytes

  pub sheet_lent : take size part ≡ sheet_in narrow k work
  sheet_lent = take_all size part (omega (arith, part_long)) ∙ e.bytes

module _ (s out : List ℕ) {out' : List ℕ} {n : ℕ} (size : n ≡ length s) (after : out' ≡ delivered out s) where
  pub shown_whole : leb n (length out) ≡ true → outcome 0 n out' ≡ showing s out
  unfolding showing
  shown_whole h = rw (ap (λ (m : ℕ). leb m (length out)) (sym size) ∙ h, size, after)

  pub shown_short : leb n (length out) ≡ false → outcome 27 no_node out' ≡ showing s out
  unfolding showing delivered
  shown_short h = let over = ap (λ (m : ℕ). leb m (length out)) (sym size) ∙ h in rw (after, over)
