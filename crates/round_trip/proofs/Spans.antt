-- The entries of a range read back.
--     range_length    the bytes of a range; `end_sized`, `lowers_length`: of its parts
--     spans_back      its entries
-- Assumes nothing.
use mathlib.Core.Path.{◌≡◌, ap}
use mathlib.Core.List.{List}
use mathlib.Core.Option.{Option}
use Prim.Native.Nat.{ℕ, suc, ◌+◌, ◌*◌}
use native.Mathlib.Omega.{arith}
use lib.ListN.{length, length-append}
use Rattle.octets.proofs.Widths.{length_le_bytes}
use Rattle.numbers.specs.Kind.{Span}
use Rattle.utilities.specs.Lists.{list_from}
use Rattle.base.specs.Form.{Form, entries_at, lower_at, upper_at}
use Rattle.base.specs.Decode.{span_at}
use Rattle.base.specs.Encode.{bits_of, end_bytes, joined, range_bytes}
use Rattle.round_trip.specs.WellFormed.{Each, SpanFits}
use Rattle.round_trip.proofs.Standing.{Standing, standing_at, standing_left, standing_right}
use Rattle.round_trip.proofs.Values.{Back, end_back}
use Rattle.round_trip.proofs.Arrays.{joined_length, arrays_back}

module _ {X : Type 0} (bits : X → ℕ) where
  abbrev pub lower_bytes : Span X → List ℕ
  lower_bytes r = end_bytes bits r.lower

  abbrev pub upper_bytes : Span X → List ℕ
  upper_bytes r = end_bytes bits r.upper

  pub end_sized : (e : Option X) → length (end_bytes bits e) ≡ 9
  unfolding end_bytes
  end_sized e = ap suc (length_le_bytes 8 (bits_of bits e))

  pub lowers_length : (rs : List (Span X)) → length (joined lower_bytes rs) ≡ 9 * length rs
  lowers_length = joined_length lower_bytes 9 (λ r. end_sized r.lower)

  pub range_length : (rs : List (Span X)) → length (range_bytes bits rs) ≡ 18 * length rs
  unfolding range_bytes
  range_length rs = rw length-append (omega (arith, lowers_length rs, joined_length upper_bytes 9 (λ r. end_sized r.upper) rs))

module _ {X : Type 0} {P : X → Type 0} {bits : X → ℕ} {read : ℕ → X} (back : Back P bits read) (F : Form) (s : List ℕ) (g : ℕ) where
  span_back :
      (n i : ℕ) (r : Span X) → SpanFits P r → Standing s (lower_at F g i) (end_bytes bits r.lower) → Standing s (upper_at F g n i) (end_bytes bits r.upper)
      → span_at F s read g n i ≡ r
  span_back n i r fit l u =
      let lower = end_back back r.lower fit.lower l in
      let upper = end_back back r.upper fit.upper u in
      λ j. record { lower = lower j; upper = upper j }

  pub spans_back :
      (rs : List (Span X)) → Each (SpanFits P) rs → Standing s (entries_at F g) (range_bytes bits rs) → list_from (length rs) 0 (span_at F s read g (length rs)) ≡ rs
  unfolding range_bytes
  spans_back rs fit h =
      let n = length rs in
      let lowers = joined (lower_bytes bits) rs in
      let uppers = joined (upper_bytes bits) rs in
      let l : Standing s (lower_at F g 0) lowers = standing_at (standing_left lowers uppers h) (omega arith) in
      let u : Standing s (upper_at F g n 0) uppers = standing_right lowers uppers h (omega (arith, lowers_length bits rs)) in
      arrays_back s (lower_bytes bits) (upper_bytes bits) 9 9 (entries_at F g) (entries_at F g + 9 * n) (span_at F s read g n) (λ r. end_sized bits r.lower) (λ r. end_sized bits r.upper)
      (span_back n) rs 0 fit l u
