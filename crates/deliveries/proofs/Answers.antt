-- From checks, a derived nature and a sheet's bytes to what a step answers.
--     room, bounded                  a derived nature fits the sheet's buffer
--     node_fits                      the call's node number fits its place
--     check_refuses, checks_pass     the checks come first
--     nature_refuses, nature_given   and then the nature
--     sheet_bytes_lem                    a sheet that is written is a sheet that is encoded
-- Assumes nothing.
use mathlib.Core.Path.{◌≡◌, sym, ap, ◌∙◌}
use mathlib.Core.Bool.{false}
use mathlib.Core.List.{List}
use Prim.Native.Nat.{ℕ, ◌+◌, ◌≤◌}
use native.Mathlib.Omega.{arith}
use lib.IntN.{pos}
use lib.ListN.{length}
use mir.Syntax.{w32, w64}
use mir.Val.{Fits, SFits}
use borrow.Author.Tests.{ne_eqb}
use Rattle.numbers.specs.Result.{Result, ok, refused, and_then, Check, checked, first_failing}
use Rattle.numbers.proofs.Results.{never, then_refused}
use Rattle.base.specs.Form.{Form, group_count, entries_at}
use Rattle.base.specs.Sheet.{Nature, Sheet}
use Rattle.base.specs.Encode.{encode}
use Rattle.base.specs.Checks.{sizes_fail}
use Rattle.base.proofs.Passed.{passed}
use Rattle.writer.specs.declared.Parts.{Parts}
use Rattle.writer.specs.Room.{Room}
use Rattle.writer.specs.Written.{Written, written_of, in_writing, sheet_from, Placed}
use Rattle.writer.proofs.Sheets.{sheet_written}
use Rattle.orders.proofs.Refusals.{Numbered, checked_passes, checked_refuses}

-- a buffer with room for the most groups and for a nature's arrays has room for the sheet
pub room :
    {F : Form} {n : ℕ} {p : Parts} {first second source buf : List ℕ} → Placed F n first second p → sizes_fail F source ≡ false → entries_at F F.group_limit + n ≤ length buf
    → Room F p first second source buf
room {F} {source = source} z e b =
    let g = (passed F source e).groups_within in
    record { sized = e; first_held = z.first_held; second_held = z.second_held; entries_fit = z.entries; values_fit = z.values; text_fits = z.text; sheet_fits = omega arith }

-- and the sheet that is written ends within it
pub bounded :
    {F : Form} {n : ℕ} (source : List ℕ) {p : Parts} {first second : List ℕ} {r b : ℕ} → Placed F n first second p → sizes_fail F source ≡ false → entries_at F F.group_limit + n ≤ b
    → r ≡ 0 + (entries_at F (group_count F source) + p.first + p.second) → r ≤ b
bounded {F} source z e h n = let g = (passed F source e).groups_within in omega arith

-- the call's node number has 32 bits, its place 64 signed ones
pub node_fits : {n : ℕ} → Fits w32 n → SFits w64 (pos n)
node_fits f = let h = f.fits in record { sfits = omega arith }

module _ (F : Form) where
  -- ---- checks, then a nature, then what becomes of it

  module _ (cs : List Check) (g : Result Nature) (rest : Nature → Result Sheet) (bytes : Sheet → List ℕ) where
    abbrev pub answer : Result (List ℕ)
    answer = and_then (checked cs (and_then g rest)) (λ s. ok (bytes s))

    pub check_refuses : {k : ℕ} → k ≡ first_failing cs → (k ≡ 0 → ⊥) → refused k ≡ answer
    check_refuses {k} e h = sym (then_refused (λ s. ok (bytes s)) (checked_refuses (and_then g rest) cs (sym e) (ne_eqb k 0 h)))

    module _ (z : Numbered cs) (e : first_failing cs ≡ 0) where
      pub checks_pass : and_then (and_then g rest) (λ s. ok (bytes s)) ≡ answer
      checks_pass = ap (λ (r : Result Sheet). and_then r (λ s. ok (bytes s))) (sym (checked_passes (and_then g rest) cs z e))

      pub nature_refuses : {k : ℕ} → refused k ≡ in_writing F g → refused k ≡ answer
      nature_refuses h = go g h ∙ checks_pass
        where
          go : (r : Result Nature) {k : ℕ} → refused k ≡ in_writing F r → ◌≡◌ {A = Result (List ℕ)} (refused k) (and_then (and_then r rest) (λ s. ok (bytes s)))
          go (ok n) h = absurd (never (sym h))
          go (refused m) {k} h = let same : k ≡ m = cc in ap refused same

      -- whatever nature is written so
      pub nature_given :
          {w : Written} {o : Result (List ℕ)} → ok w ≡ in_writing F g
          → ((n : Nature) → written_of F n ≡ w → o ≡ and_then (rest n) (λ s. ok (bytes s))) → o ≡ answer
      nature_given {w} {o} h f = go g h ∙ checks_pass
        where
          go : (r : Result Nature) → ok w ≡ in_writing F r → o ≡ and_then (and_then r rest) (λ s. ok (bytes s))
          go (ok n) h = let same : w ≡ written_of F n = cc in f n (sym same)
          go (refused m) h = absurd (never h)

  pub sheet_bytes_lem :
      (s : Sheet) {w : Written} {vs : List ℕ} → vs ≡ sheet_from F s.fields s.node s.groups w → written_of F s.nature ≡ w
      → ◌≡◌ {A = Result (List ℕ)} (ok vs) (ok (encode F s))
  sheet_bytes_lem s e h = ap ok (e ∙ ap (sheet_from F s.fields s.node s.groups) (sym h) ∙ sym (sheet_written F s))
