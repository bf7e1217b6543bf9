-- A sheet that is put into its slot.
--     Fit                                  bytes that call for their own length, which is no more than the longest
--     put_before, put_length, put_sheet    the slots before it, the buffer's length, the slot itself
--     delivered_length                     a delivery keeps the buffer's length
--     step_fits, stepped                   what a step gives is fit, and how it is put into the step's slot
--     step_before, step_length             of any step: the slots before it, and the buffer's length
-- Assumes nothing.
use mathlib.Core.Path.{◌≡◌, refl, sym, ap, subst, ◌∙◌}
use mathlib.Core.Bool.{Bool, true, false, cond}
use mathlib.Core.List.{List, [], ◌++◌, append-nil}
use Prim.Native.Nat.{ℕ, ◌+◌, ◌-◌, ◌^◌, ◌≤◌, ◌<◌}
use native.Mathlib.Omega.{arith}
use lib.Dec.{leb}
use lib.ListN.{length, take, drop, length-append, length-drop, take-append-drop}
use lib.Seq.{take_at, drop_at, take-append-add, length-take-le, length_front}
use borrow.Author.Tests.{leb-true, le-leb}
use Rattle.octets.specs.Deliver.{delivered}
use Rattle.numbers.specs.Result.{Result, ok, refused}
use Rattle.base.specs.Form.{Laid, narrow, longest}
use Rattle.base.specs.Sheet.{Sheet}
use Rattle.base.specs.Decode.{decode}
use Rattle.base.specs.Encode.{encode}
use Rattle.base.specs.Components.{component_of, family_of}
use Rattle.std.specs.declared.option.Option as Rust
use Rattle.std.specs.declared.option.Option.TheVariants as N
use Rattle.base.specs.declared.form.Form.TheVariants as Stored
use Rattle.base.proofs.Forms.{laid}
use Rattle.shape.specs.Fields.{numbered}
use Rattle.calls.specs.Single.{Outcome, outcome, step, delivery, single_of}
use Rattle.calls.specs.Walk.{slot_at, sheet_bytes, sheet_in, step_on}
use Rattle.plan_form.specs.Form.{component_number, left_of, right_of}
use Rattle.round_trip.proofs.Back.{sheet_back, sheet_bytes_back}
use Rattle.derived.specs.Held.{Held, Sound}
use Rattle.derived.proofs.Gives.{Gives, gives_more}
use Rattle.derived.proofs.Derived.{sound_formed, sound_length}
use Rattle.derived.proofs.Written.{Written, step_gives}
use Rattle.base.specs.declared.Component.{Component}

narrow_laid : Laid narrow
narrow_laid = laid Stored.Narrow

-- ---- bytes that are a sheet's, whatever follows

pub record Fit (vs : List ℕ) : Type 0 where
  pub short : length vs ≤ longest narrow
  pub stands : (rest : List ℕ) → sheet_bytes narrow (vs ++ rest) ≡ vs
  pub held : Held narrow (decode narrow vs)

sound_fit : (s : Sheet) → Sound narrow s → Fit (encode narrow s)
sound_fit s p =
    let f = sound_formed narrow_laid s p in
    let back : decode narrow (encode narrow s) ≡ s = ap (decode narrow) (sym (append-nil (encode narrow s))) ∙ sheet_back narrow_laid f [] in
    record { short = sound_length narrow_laid s p; stands = sheet_bytes_back narrow_laid f; held = subst (Held narrow) (sym back) p.held }

-- ---- into a slot

abbrev pub put : ℕ → List ℕ → List ℕ → List ℕ
put k vs x = take (slot_at narrow k) x ++ delivered (drop (slot_at narrow k) x) vs

pub delivered_length : (x vs : List ℕ) → length (delivered x vs) ≡ length x
unfolding delivered
delivered_length x vs = go (leb (length vs) (length x)) refl
  where
    go : (t : Bool) → leb (length vs) (length x) ≡ t → length (cond t (vs ++ drop (length vs) x) x) ≡ length x
    go true e = let h = leb-true (length vs) (length x) e in length_front x vs (length vs) (sym (length-take-le (length vs) x h))
    go false e = refl

-- what stands behind the first n bytes is replaced by as many
module _ (n : ℕ) (x bytes : List ℕ) where
  behind_before : n ≤ length x → take n (take n x ++ bytes) ≡ take n x
  behind_before h = take_at (take n x) bytes n (length-take-le n x h)

  behind_length : length bytes ≡ length (drop n x) → length (take n x ++ bytes) ≡ length x
  behind_length e = length-append (take n x) bytes ∙ ap (λ (m : ℕ). length (take n x) + m) e ∙ sym (length-append (take n x) (drop n x)) ∙ ap length (take-append-drop n x)

module _ (k : ℕ) (vs x : List ℕ) where
  pub put_before : slot_at narrow k ≤ length x → take (slot_at narrow k) (put k vs x) ≡ take (slot_at narrow k) x
  put_before h = behind_before (slot_at narrow k) x _ h

  pub put_length : length (put k vs x) ≡ length x
  put_length = behind_length (slot_at narrow k) x _ (delivered_length (drop (slot_at narrow k) x) vs)

  pub put_sheet : Fit vs → slot_at narrow (k + 1) ≤ length x → sheet_in narrow k (put k vs x) ≡ vs
  unfolding sheet_in delivered
  put_sheet f room =
      let m = slot_at narrow k in
      let short = f.short in
      let left = length-drop m x in
      let n = longest narrow - length vs in
      let rest = drop (length vs) (drop m x) in
      let fits : leb (length vs) (length (drop m x)) ≡ true = le-leb (length vs) (length (drop m x)) (omega arith) in
      let size : longest narrow ≡ length vs + n = omega arith in
      let cut : drop m (put k vs x) ≡ vs ++ rest =
      drop_at (take m x) _ m (length-take-le m x (omega arith)) ∙ ap (λ (t : Bool). cond t (vs ++ rest) (drop m x)) fits in
      ap (λ (y : List ℕ). sheet_bytes narrow (take (longest narrow) y)) cut
      ∙ ap (λ (i : ℕ). sheet_bytes narrow (take i (vs ++ rest))) size
      ∙ ap (sheet_bytes narrow) (take-append-add vs rest n)
      ∙ f.stands (take n rest)

-- ---- a step

-- what a component's number gives of the operands' sheets
abbrev pub result_of : Rust.Option Component → ℕ → List ℕ → List ℕ → Result (List ℕ)
result_of N.None k l r = refused 2
result_of (N.Some c) k l r = step narrow c k l r

result_fits : (n : Rust.Option Component) (k : ℕ) (l r : List ℕ) → k < 2 ^ 32 → Held narrow (decode narrow l) → Held narrow (decode narrow r) → Gives Fit (result_of n k l r)
result_fits N.None k l r h p q = omega arith
result_fits (N.Some c) k l r h p q =
    gives_more (Written narrow_laid c l r k) Fit (step narrow c k l r) (step_gives narrow_laid c l r (λ z. p) (λ z. q) k h)
    (λ vs e w. subst Fit (sym w.bytes) (sound_fit (numbered (family_of c) k w.sheet) w.sound))

single_result : (n : Rust.Option Component) (k : ℕ) (l r out : List ℕ) → single_of narrow n k l r out ≡ delivery (result_of n k l r) out
unfolding single_of delivery
single_result N.None k l r out = refl
single_result (N.Some c) k l r out = refl

module _ (p : List ℕ) (k : ℕ) where
  -- of node k, from a buffer
  abbrev pub result_in : List ℕ → Result (List ℕ)
  result_in x = result_of (component_of (component_number p k)) k (sheet_in narrow (left_of p k) x) (sheet_in narrow (right_of p k) x)

  pub step_fits : (x : List ℕ) → k < 2 ^ 32 → Held narrow (decode narrow (sheet_in narrow (left_of p k) x)) → Held narrow (decode narrow (sheet_in narrow (right_of p k) x))
      → Gives Fit (result_in x)
  step_fits x h l r = result_fits (component_of (component_number p k)) k _ _ h l r

  -- by the result: nothing is written, or the sheet is put into the slot
  abbrev pub afterwards : Result (List ℕ) → List ℕ → Outcome
  afterwards (refused n) x = outcome n 0 x
  afterwards (ok vs) x = outcome 0 (length vs) (put k vs x)

  placed : (g : Result (List ℕ)) (x : List ℕ) → Gives Fit g → slot_at narrow (k + 1) ≤ length x
      → (let o = delivery g (drop (slot_at narrow k) x) in outcome o.code o.value (take (slot_at narrow k) x ++ o.bytes)) ≡ afterwards g x
  unfolding delivery
  placed (refused n) x f room = ap (outcome n 0) (take-append-drop (slot_at narrow k) x)
  placed (ok vs) x f room =
      let short = f.short in
      let left = length-drop (slot_at narrow k) x in
      rw (le-leb (length vs) (length (drop (slot_at narrow k) x)) (omega arith))

  pub stepped : (x : List ℕ) → Gives Fit (result_in x) → slot_at narrow (k + 1) ≤ length x → step_on narrow p k x ≡ afterwards (result_in x) x
  unfolding step_on
  stepped x f room =
      ap (λ (o : Outcome). outcome o.code o.value (take (slot_at narrow k) x ++ o.bytes))
      (single_result (component_of (component_number p k)) k _ _ (drop (slot_at narrow k) x))
      ∙ placed (result_in x) x f room

-- ---- any step

chosen_length : (t : Bool) (a b : Outcome) (n : ℕ) → length a.bytes ≡ n → length b.bytes ≡ n → length (cond t a b).bytes ≡ n
chosen_length true a b n e f = e
chosen_length false a b n e f = f

delivery_length : (g : Result (List ℕ)) (out : List ℕ) → length (delivery g out).bytes ≡ length out
unfolding delivery
delivery_length (refused n) out = refl
delivery_length (ok vs) out = chosen_length (leb (length vs) (length out)) _ _ (length out) (delivered_length out vs) refl

module _ (p : List ℕ) (k : ℕ) (x : List ℕ) where
  abbrev answer : Outcome
  answer = single_of narrow (component_of (component_number p k)) k (sheet_in narrow (left_of p k) x) (sheet_in narrow (right_of p k) x) (drop (slot_at narrow k) x)

  pub step_before : slot_at narrow k ≤ length x → take (slot_at narrow k) (step_on narrow p k x).bytes ≡ take (slot_at narrow k) x
  unfolding step_on
  step_before h = behind_before (slot_at narrow k) x answer.bytes h

  pub step_length : length (step_on narrow p k x).bytes ≡ length x
  unfolding step_on
  step_length =
      let out = drop (slot_at narrow k) x in
      behind_length (slot_at narrow k) x answer.bytes
      (ap (λ (o : Outcome). length o.bytes) (single_result (component_of (component_number p k)) k _ _ out) ∙ delivery_length (result_in p k x) out)
