-- Texts end to end, in a sheet that passed 4. 02, S-2: "Texts lie end to end in value order from 0 to the area's end".
--     run_next, run_end, run_start    of the k values from number i on: the first and those behind it, where they end and where each starts
--     text_start     each text starts where the lengths before it end; first_start, next_start, last_end: from 0, behind the one before, and to the area's end
--     text_within_lem    every text ends within the area
--     lengths_from    the lengths of texts, added; lengths_add, lengths_next
-- Assumes nothing.
use mathlib.Core.Path.{◌≡◌, sym, ap, ◌∙◌}
use mathlib.Core.Bool.{true, false}
use mathlib.Core.List.{List}
use Prim.Native.Nat.{ℕ, zero, suc, ◌+◌, ◌-◌, ◌≤◌, ◌<◌}
use native.Mathlib.Nat.{zero-add, add-zero, suc-add, add_assoc}
use native.Mathlib.Omega.{arith}
use lib.Dec.{eqb}
use borrow.Author.Tests.{eqb-true}
use Rattle.base.specs.Form.{Form, nature_at, byte_at, text_lists_nature, group_count, category_count, area_size}
use Rattle.base.specs.Decode.{start_in, length_in, category_at}
use Rattle.base.specs.Checks.{end_to_end, area_permitted, fields_fail}
use Rattle.base.proofs.Flags.{and_both}
use Rattle.base.proofs.Permitted.{permitted}

-- ---- a run of values

module _ (F : Form) (s : List ℕ) where
  -- value i
  abbrev pub value : ℕ → ℕ
  value i = category_at F s (group_count F s) (category_count F s) i

  -- the lengths of the k texts from number i on, added
  unfoldable pub lengths_from : ℕ → ℕ → ℕ
  lengths_from zero i = 0
  lengths_from (suc k) i = length_in (value i) + lengths_from k (i + 1)

  lengths_add : (m k i : ℕ) → lengths_from (m + k) i ≡ lengths_from m i + lengths_from k (i + m)
  unfolding lengths_from
  lengths_add zero k i = rw (zero-add k, add-zero i) (sym (zero-add (lengths_from k i)))
  lengths_add (suc m) k i =
      let behind : i + suc m ≡ i + 1 + m = omega arith in
      rw (suc-add m k, behind, lengths_add m k (i + 1)) (sym (add_assoc (length_in (value i)) (lengths_from m (i + 1)) (lengths_from k (i + 1 + m))))

  lengths_next : (m : ℕ) → lengths_from (m + 1) 0 ≡ lengths_from m 0 + length_in (value m)
  unfolding lengths_from
  lengths_next m = simp (add-zero, zero-add) at (lengths_add m 1 0)

  pub run_next : (k i at : ℕ) → end_to_end F s (suc k) i at ≡ true → (start_in (value i) ≡ at) × (end_to_end F s k (i + 1) (at + length_in (value i)) ≡ true)
  unfolding end_to_end
  run_next k i at e =
      let both = and_both (eqb (start_in (value i)) at) (end_to_end F s k (i + 1) (at + length_in (value i))) e in
      (eqb-true _ _ both.0, both.1)

  pub run_end : (k i at : ℕ) → end_to_end F s k i at ≡ true → at + lengths_from k i ≡ area_size F s
  unfolding end_to_end lengths_from
  run_end zero i at e = add-zero at ∙ eqb-true _ _ e
  run_end (suc k) i at e = sym (add_assoc at (length_in (value i)) (lengths_from k (i + 1))) ∙ run_end k (i + 1) (at + length_in (value i)) (run_next k i at e).1

  run_start : (k i at m : ℕ) → end_to_end F s k i at ≡ true → m < k → start_in (value (i + m)) ≡ at + lengths_from m i
  unfolding lengths_from
  run_start zero i at m e l = absurd (omega arith)
  run_start (suc k) i at zero e l = rw (add-zero i, add-zero at) (run_next k i at e).0
  run_start (suc k) i at (suc m) e l =
      let shift : i + suc m ≡ i + 1 + m = omega arith in
      rw shift (run_start k (i + 1) (at + length_in (value i)) m (run_next k i at e).1 (omega arith) ∙ add_assoc at (length_in (value i)) (lengths_from m (i + 1)))

-- ---- a sheet of texts that passed 4

module _ (F : Form) (s : List ℕ) (fields : fields_fail F s ≡ false) (text : byte_at F nature_at s ≡ text_lists_nature) where
  abbrev count : ℕ
  count = category_count F s

  pub whole_run : end_to_end F s count 0 0 ≡ true
  unfolding area_permitted
  whole_run = rw text at (permitted F s fields).area

  pub text_start : (i : ℕ) → i < count → start_in (value F s i) ≡ lengths_from F s i 0
  text_start i l = simp zero-add at (run_start F s count 0 0 i whole_run l)

  pub first_start : 0 < count → start_in (value F s 0) ≡ 0
  unfolding lengths_from
  first_start l = text_start 0 l

  pub next_start : (i : ℕ) → i + 1 < count → start_in (value F s (i + 1)) ≡ start_in (value F s i) + length_in (value F s i)
  next_start i l = text_start (i + 1) l ∙ lengths_next F s i ∙ ap (λ (n : ℕ). n + length_in (value F s i)) (sym (text_start i (omega arith)))

  pub last_end : lengths_from F s count 0 ≡ area_size F s
  last_end = simp zero-add at (run_end F s count 0 0 whole_run)

  pub text_within_lem : (i : ℕ) → i < count → start_in (value F s i) + length_in (value F s i) ≤ area_size F s
  text_within_lem i l =
      let rest = count - (i + 1) in
      let all : i + 1 + rest ≡ count = omega arith in
      let parts = rw all at (lengths_add F s (i + 1) rest 0) in
      omega (arith, text_start i l, lengths_next F s i, last_end)
