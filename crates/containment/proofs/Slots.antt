-- One step on the work buffer: its own slot holds the derived sheet afterwards, and the slots before it are as they were.
--     sheet_same      a slot is known by the bytes up to its end
--     sheet_stands    a sheet at its slot's start is the slot's sheet, whatever follows
--     step_made       a step that gives 0
-- Assumes nothing.
use mathlib.Core.Path.{◌≡◌, refl, sym, ap, subst, ◌∙◌}
use mathlib.Core.Bool.{Bool, true, false, cond}
use mathlib.Core.List.{List, [], ◌∷◌, ◌++◌, append-nil}
use Prim.Native.Nat.{ℕ, zero, suc, ◌+◌, ◌-◌, ◌^◌, ◌≤◌, ◌<◌}
use native.Mathlib.Nat.{zero-add, suc-add}
use native.Mathlib.Omega.{arith}
use lib.Dec.{leb}
use lib.ListN.{length, take, drop, length-append, length-drop}
use lib.Seq.{take-nil, take-take, take_at, drop_at, take-append-add, length-take-le}
use borrow.Author.Tests.{leb-true}
use Rattle.octets.specs.Deliver.{delivered}
use Rattle.numbers.specs.Result.{Result, ok, refused}
use Rattle.base.specs.Form.{Laid, narrow, longest}
use Rattle.base.specs.Sheet.{Sheet}
use Rattle.base.specs.Decode.{decode}
use Rattle.base.specs.Encode.{encode}
use Rattle.base.specs.Components.{component_of, family_of}
use Rattle.base.specs.declared.Component.{Component}
use Rattle.std.specs.declared.option.Option as Rust
use Rattle.std.specs.declared.option.Option.TheVariants as N
use Rattle.base.specs.declared.form.Form.TheVariants as Stored
use Rattle.base.proofs.Forms.{laid}
use Rattle.shape.specs.Fields.{numbered}
use Rattle.calls.specs.Derive.{derive}
use Rattle.calls.specs.Single.{step, outcome, delivery, single_of}
use Rattle.round_trip.proofs.Back.{sheet_back, sheet_bytes_back}
use Rattle.derived.specs.Held.{Held, Sound}
use Rattle.derived.proofs.Gives.{Gives}
use Rattle.derived.proofs.Derived.{sound_formed, sound_length}
use Rattle.derived.proofs.Written.{Written, step_gives}
use Rattle.plan_form.specs.Form.{component_number, left_of, right_of}
use Rattle.calls.specs.Walk.{slot_at, slot, sheet_bytes, sheet_in, step_on}

narrow_laid : Laid narrow
narrow_laid = laid Stored.Narrow

-- ---- what a call delivers

record Delivered (Q : List ℕ → Type 0) (out after : List ℕ) : Type 0 where
  bytes : List ℕ
  made : Q bytes
  fits : length bytes ≤ length out
  stand : after ≡ bytes ++ drop (length bytes) out

delivery_made : (Q : List ℕ → Type 0) (g : Result (List ℕ)) (out : List ℕ) → Gives Q g → (delivery g out).code ≡ 0 → Delivered Q out (delivery g out).bytes
unfolding delivery delivered
delivery_made Q (refused k) out q e = absurd (omega arith)
delivery_made Q (ok vs) out q e = go (leb (length vs) (length out)) refl e
  where
    go : (t : Bool) → leb (length vs) (length out) ≡ t
        → (cond t (outcome 0 (length vs) (cond t (vs ++ drop (length vs) out) out)) (outcome 27 0 out)).code ≡ 0
        → Delivered Q out (cond t (outcome 0 (length vs) (cond t (vs ++ drop (length vs) out) out)) (outcome 27 0 out)).bytes
    go true h e = record { bytes = vs; made = q; fits = leb-true (length vs) (length out) h; stand = refl }
    go false h e = absurd (omega arith)

-- ---- slots

drop_take : (m k : ℕ) (l : List ℕ) → drop m (take (m + k) l) ≡ take k (drop m l)
drop_take zero k l = rw zero-add
drop_take (suc m) k [] = rw suc-add (sym (take-nil k))
drop_take (suc m) k (x ∷ l) = rw suc-add (drop_take m k l)

-- the slot that ends before n is known by the first n bytes
slot_same : (n j : ℕ) (x y : List ℕ) → take n x ≡ take n y → slot_at narrow j + longest narrow ≤ n → slot narrow j x ≡ slot narrow j y
slot_same n j x y e h =
    let m = slot_at narrow j in
    let i = m + longest narrow in
    sym (drop_take m (longest narrow) x) ∙ ap (drop m) (sym (take-take i n x h) ∙ ap (take i) e ∙ take-take i n y h) ∙ drop_take m (longest narrow) y

pub sheet_same : (n j : ℕ) (x y : List ℕ) → take n x ≡ take n y → slot_at narrow j + longest narrow ≤ n → sheet_in narrow j x ≡ sheet_in narrow j y
unfolding sheet_in
sheet_same n j x y e h = ap (sheet_bytes narrow) (slot_same n j x y e h)

-- a sheet that stands at its slot's start is the slot's
pub sheet_stands : (k : ℕ) (s : Sheet) (front rest : List ℕ) → Sound narrow s → length front ≡ slot_at narrow k
    → decode narrow (sheet_in narrow k (front ++ (encode narrow s ++ rest))) ≡ s
unfolding sheet_in
sheet_stands k s front rest p l =
    let vs = encode narrow s in
    let f = sound_formed narrow_laid s p in
    let n = longest narrow - length vs in
    let size : longest narrow ≡ length vs + n = omega (arith, sound_length narrow_laid s p) in
    let cut : slot narrow k (front ++ (vs ++ rest)) ≡ vs ++ take n rest =
    ap (take (longest narrow)) (drop_at front (vs ++ rest) (slot_at narrow k) l) ∙ ap (λ (m : ℕ). take m (vs ++ rest)) size ∙ take-append-add vs rest n in
    ap (λ (t : List ℕ). decode narrow (sheet_bytes narrow t)) cut
    ∙ ap (decode narrow) (sheet_bytes_back narrow_laid f (take n rest))
    ∙ ap (decode narrow) (sym (append-nil vs))
    ∙ sheet_back narrow_laid f []

-- ---- a step

-- the sheet of node k in a buffer
abbrev pub sheet_at : ℕ → List ℕ → Sheet
sheet_at k work = decode narrow (sheet_in narrow k work)

-- node k's sheet in y is the one derived of its operands' sheets in x
pub record Derives (p : List ℕ) (k : ℕ) (x y : List ℕ) : Type 0 where
  pub component : Component
  pub listed : component_of (component_number p k) ≡ N.Some component
  pub sheet : Sheet
  pub derived : derive narrow component (sheet_at (left_of p k) x) (sheet_at (right_of p k) x) ≡ ok sheet
  pub is : sheet_at k y ≡ numbered (family_of component) k sheet

pub record Stepped (p : List ℕ) (k : ℕ) (work after : List ℕ) : Type 0 where
  pub derives : Derives p k work after
  pub held : Held narrow (sheet_at k after)
  pub before : take (slot_at narrow k) after ≡ take (slot_at narrow k) work
  pub size : length after ≡ length work

module _ (p : List ℕ) (k : ℕ) (work : List ℕ) (small : k < 2 ^ 32) (room : slot_at narrow k ≤ length work)
    (l : Held narrow (sheet_at (left_of p k) work)) (r : Held narrow (sheet_at (right_of p k) work)) where
  abbrev left : List ℕ
  left = sheet_in narrow (left_of p k) work

  abbrev right : List ℕ
  right = sheet_in narrow (right_of p k) work

  abbrev front : List ℕ
  front = take (slot_at narrow k) work

  abbrev out : List ℕ
  out = drop (slot_at narrow k) work

  single_stepped : (c : Component) → component_of (component_number p k) ≡ N.Some c → (bytes : List ℕ) → Delivered (Written narrow_laid c left right k) out bytes
      → Stepped p k work (front ++ bytes)
  single_stepped c e bytes d =
      let w = d.made in
      let rest = drop (length d.bytes) out in
      let n = length-take-le (slot_at narrow k) work room in
      let is : bytes ≡ encode narrow (numbered (family_of c) k w.sheet) ++ rest = d.stand ∙ ap (λ (v : List ℕ). v ++ rest) w.bytes in
      let here : sheet_at k (front ++ bytes) ≡ numbered (family_of c) k w.sheet =
      ap (λ (b : List ℕ). sheet_at k (front ++ b)) is ∙ sheet_stands k (numbered (family_of c) k w.sheet) front rest w.sound n in
      let long = ap length d.stand ∙ length-append d.bytes rest in
      record {
        derives = record { component = c; listed = e; sheet = w.sheet; derived = w.derived; is = here };
        held = subst (Held narrow) (sym here) w.sound.held;
        before = take_at front bytes (slot_at narrow k) n;
        size = omega (arith, d.fits, length-append front bytes, length-drop (length d.bytes) out, length-drop (slot_at narrow k) work);
      }

  by_component : (n : Rust.Option Component) → component_of (component_number p k) ≡ n → (single_of narrow n k left right out).code ≡ 0
      → Stepped p k work (front ++ (single_of narrow n k left right out).bytes)
  unfolding single_of
  by_component N.None h e = absurd (omega arith)
  by_component (N.Some c) h e =
      single_stepped c h _ (delivery_made (Written narrow_laid c left right k) (step narrow c k left right) out (step_gives narrow_laid c left right (λ z. l) (λ z. r) k small) e)

  pub step_made : (step_on narrow p k work).code ≡ 0 → Stepped p k work (step_on narrow p k work).bytes
  unfolding step_on
  step_made e = by_component (component_of (component_number p k)) refl e
