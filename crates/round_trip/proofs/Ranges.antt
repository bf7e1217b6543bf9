-- The entries of a range whose ends are permitted, written again, are the bytes that they were read from.
--     Kept            the 64 bits of an end that is present come back
--     entries_fill    both arrays
-- Assumes nothing.
use mathlib.Core.Path.{◌≡◌}
use mathlib.Core.Bool.{true}
use mathlib.Core.List.{List}
use Prim.Native.Nat.{ℕ, ◌+◌, ◌*◌, ◌≤◌, ◌<◌}
use native.Mathlib.Numerals.{add-one}
use native.Mathlib.Omega.{arith}
use lib.ListN.{length, get_or, take, drop}
use lib.Seq.{drop-cons}
use Rattle.octets.specs.Le.{le_at}
use Rattle.octets.proofs.Reread.{AllBytes, le_bytes_le_at}
use Rattle.numbers.specs.Kind.{Span}
use Rattle.base.specs.Form.{Form, group_count, list_count, entries_at, lower_at, upper_at}
use Rattle.base.specs.Decode.{end_at, span_at, entries}
use Rattle.base.specs.Encode.{end_bytes, range_bytes}
use Rattle.base.specs.Checks.{holds_from, end_permitted, ends_permitted}
use Rattle.base.proofs.Flags.{and_both}
use Rattle.base.proofs.Holding.{holds_within}
use Rattle.round_trip.proofs.Filling.{Filling, ◌then◌, fill_joined}
use Rattle.round_trip.proofs.Marks.{mark_same, bits_same}

module _ (F : Form) (s : List ℕ) {X : Type 0} (bits : X → ℕ) (read : ℕ → X) where
  abbrev pub Kept : ℕ → Type 0
  Kept at = get_or s at 0 ≡ 1 → bits (read (le_at 8 (at + 1) s)) ≡ le_at 8 (at + 1) s

  end_same : AllBytes s → (at : ℕ) → at + 9 ≤ length s → end_permitted F s at ≡ true → Kept at → end_bytes bits (end_at read at s) ≡ take 9 (drop at s)
  unfolding end_bytes
  end_same small at h p k =
      rw (mark_same read s at (at + 1) p, bits_same read s at (at + 1) p bits k, le_bytes_le_at s small 8 (at + 1) (omega arith), add-one, drop-cons s at 0 (omega arith))

  pub entries_fill :
      AllBytes s → let g = group_count F s in let n = list_count F s in
      entries_at F g + 18 * n ≤ length s → holds_from n 0 (ends_permitted F s) ≡ true → ((i : ℕ) → i < n → Kept (lower_at F g i) × Kept (upper_at F g n i))
      → Filling s (entries_at F g) (entries_at F g + 18 * n) (range_bytes bits (entries F s read))
  unfolding range_bytes entries
  entries_fill small h p k =
      let g = group_count F s in
      let n = list_count F s in
      let both : (i : ℕ) → i < n → (end_permitted F s (lower_at F g i) ≡ true) × (end_permitted F s (upper_at F g n i) ≡ true) =
      λ i l. and_both _ _ (holds_within (ends_permitted F s) n 0 i p (omega arith) (omega arith)) in
      fill_joined (λ (r : Span X). end_bytes bits r.lower) (span_at F s read g n) 9 n {b = entries_at F g + 9 * n} (λ i l. end_same small (lower_at F g i) (omega arith) (both i l).0 (k i l).0) (omega arith)
      then fill_joined (λ (r : Span X). end_bytes bits r.upper) (span_at F s read g n) 9 n (λ i l. end_same small (upper_at F g n i) (omega arith) (both i l).1 (k i l).1) (omega arith)
