-- Texts as they are written lie end to end.
--     texts_run    where the values of texts stand as list numbers and values, and the area has the size of these texts, 4 finds each start and the end
-- Assumes nothing.
use mathlib.Core.Path.{◌≡◌, refl, sym, ap, ◌∙◌}
use mathlib.Core.Bool.{true}
use mathlib.Core.List.{List, [], ◌∷◌}
use Prim.Native.Nat.{ℕ, suc, ◌+◌, ◌*◌, ◌^◌, ◌<◌}
use native.Mathlib.Nat.{zero-add, suc-add, add-zero}
use native.Mathlib.Omega.{arith}
use lib.ListN.{length, length-append}
use borrow.Author.Tests.{eq-eqb}
use Rattle.octets.specs.Le.{le_bytes}
use Rattle.octets.proofs.Widths.{length_le_bytes}
use Rattle.base.specs.Form.{Form, group_count, category_count, entries_at, value_at, area_size}
use Rattle.base.specs.Decode.{as_bits, category_at}
use Rattle.base.specs.Encode.{joined, total, text_of, area_of, spot, spots_of, spots_from, list_bytes, numbers_from, lists_bytes}
use Rattle.base.specs.Checks.{end_to_end}
use Rattle.round_trip.proofs.Standing.{Standing, standing_left, standing_right, number_back}
use Rattle.round_trip.proofs.Arrays.{next_place}
use Rattle.round_trip.proofs.Lists.{list_bytes_length, numbers_length}
use Rattle.round_trip.proofs.Texts.{start_of, length_of, list_spots_length, spots_total}

module _ (F : Form) (s : List ℕ) where
  abbrev values_at : ℕ → ℕ
  values_at i = value_at F (group_count F s) (category_count F s) i

  abbrev values : ℕ
  values = entries_at F (group_count F s) + F.number_width * category_count F s

  -- the texts of a list, of which the first starts at `at`, and the k values behind them
  list_runs :
      (l : List (List ℕ)) (i k at : ℕ) → at + length (text_of l) < 2 ^ 32 → Standing s (values_at i) (list_bytes as_bits (spots_of at l))
      → end_to_end F s k (i + length l) (at + length (text_of l)) ≡ true → end_to_end F s (length l + k) i at ≡ true
  unfolding end_to_end spots_of text_of joined
  list_runs [] i k at h v rest = rw zero-add (simp add-zero at rest)
  list_runs (x ∷ l) i k at h v rest =
      let ends = length-append x (text_of l) in
      let own = le_bytes 8 (spot at (length x)) in
      let others = list_bytes as_bits (spots_of (at + length x) l) in
      let value : category_at F s (group_count F s) (category_count F s) i ≡ spot at (length x) = number_back 8 (standing_left own others v) (omega arith) in
      let next : i + suc (length l) ≡ i + 1 + length l = omega arith in
      let end : at + length (text_of (x ∷ l)) ≡ at + length x + length (text_of l) = omega arith in
      rw (suc-add, value, start_of at (length x) (omega arith), length_of at (length x) (omega arith), eq-eqb at at refl)
      (list_runs l (i + 1) k (at + length x) (omega arith)
      (standing_right own others v (next_place values 8 i 1 (rw (length_le_bytes 8 (spot at (length x))) (omega arith)))) (rw (next, end) at rest))

  lists_run :
      (ls : List (List (List ℕ))) (i at : ℕ) → at + length (area_of ls) ≡ area_size F s → area_size F s < 2 ^ 32 → Standing s (values_at i) (joined (list_bytes as_bits) (spots_from at ls))
      → end_to_end F s (total ls) i at ≡ true
  unfolding end_to_end spots_from area_of joined total
  lists_run [] i at e h v = eq-eqb at (area_size F s) (omega arith)
  lists_run (l ∷ ls) i at e h v =
      let ends = length-append (text_of l) (area_of ls) in
      let own = list_bytes as_bits (spots_of at l) in
      let others = joined (list_bytes as_bits) (spots_from (at + length (text_of l)) ls) in
      let long : length own ≡ 8 * length l = list_bytes_length as_bits (spots_of at l) ∙ ap (λ (n : ℕ). 8 * n) (list_spots_length at l) in
      list_runs l i (total ls) at (omega arith) (standing_left own others v)
      (lists_run ls (i + length l) (at + length (text_of l)) (omega arith) h (standing_right own others v (next_place values 8 i (length l) long)))

  pub texts_run :
      (ls : List (List (List ℕ))) → category_count F s ≡ total ls → area_size F s ≡ length (area_of ls) → area_size F s < 2 ^ 32
      → Standing s (entries_at F (group_count F s)) (lists_bytes F as_bits (spots_from 0 ls)) → end_to_end F s (category_count F s) 0 0 ≡ true
  unfolding lists_bytes
  texts_run ls c a h v =
      let spots = spots_from 0 ls in
      let long : length (numbers_from F 0 spots) ≡ F.number_width * category_count F s = numbers_length F spots 0 ∙ ap (λ (n : ℕ). F.number_width * n) (spots_total 0 ls ∙ sym c) in
      ap (λ (n : ℕ). end_to_end F s n 0 0) c
      ∙ lists_run ls 0 0 (omega arith) h (standing_right (numbers_from F 0 spots) (joined (list_bytes as_bits) spots) v (omega arith))
