-- Check 4 in the parts that the code makes.
--     tail_is        the bytes behind the last mark: seven zero ones, or a text's
--     fields_parts   what is tested of the head and what of the nature are all of 4
-- Assumes nothing.
use mathlib.Core.Path.{◌≡◌, refl, sym, ap, ◌∙◌}
use mathlib.Core.Bool.{Bool, true, false, cond, not, ◌&&◌, ◌||◌, and-true, and-false}
use mathlib.Core.List.{List}
use Prim.Native.Nat.{ℕ, ◌+◌, ◌<◌}
use native.Mathlib.Omega.{arith}
use lib.ListN.{get_or}
use lib.Dec.{eqb, leb, ltb}
use Rattle.octets.specs.Le.{le_at}
use Rattle.base.specs.Form.{Form, place, byte_at, nature_at, type_at, nullity_at, releasable_at, not_empty_at, ordered_at, sample_mark_at, reserved_at, area_size_at, later_at, later_count, last_nature, last_type, category_count, area_size}
use Rattle.base.specs.Checks.{holds_from, flag_permitted, gap_permitted, bytes_permitted, values_permitted, groups_permitted, end_to_end, area_permitted, nature_permitted, fields_fail}
use Rattle.checks.specs.Found.{is_text, tail_permitted, head_fault, texts_permitted}
use Rattle.checks.proofs.Zeros.{zeros, zeros_behind, holds_moved}

-- the bytes of the area's size between those around it
size_between : (a b c d : Bool) → (a && (b && (c && d))) ≡ (a && d && (b && (c && true)))
size_between true true true d = sym (and-true d)
size_between true true false d = sym (and-false d)
size_between true false c d = sym (and-false d)
size_between false b c d = refl

module _ (F : Form) (s : List ℕ) where
  abbrev zero_at : ℕ → Bool
  zero_at k = eqb (get_or s k 0) 0

  -- the seven bytes: one, the two of the area's size, and four
  parts : holds_from 7 (place F sample_mark_at + 1) zero_at
      ≡ (zero_at (place F reserved_at) && holds_from later_count later_at (λ k. eqb (byte_at F k s) 0) && holds_from 2 (place F area_size_at) zero_at)
  unfolding holds_from
  parts =
      let d = F.shift in
      let at₁ : place F sample_mark_at + 1 ≡ place F reserved_at = omega arith in
      let at₂ : place F sample_mark_at + 1 + 1 ≡ place F area_size_at = omega arith in
      let at₃ : place F sample_mark_at + 1 + 1 + 1 ≡ place F area_size_at + 1 = omega arith in
      let at₄ : place F sample_mark_at + 1 + 1 + 1 + 1 ≡ later_at + d = omega arith in
      (λ i. zero_at (at₁ i) && (zero_at (at₂ i) && (zero_at (at₃ i) && holds_from later_count (at₄ i) zero_at)))
      ∙ size_between (zero_at (place F reserved_at)) (zero_at (place F area_size_at)) (zero_at (place F area_size_at + 1)) (holds_from later_count (later_at + d) zero_at)
      ∙ ap (λ (b : Bool). zero_at (place F reserved_at) && b && (zero_at (place F area_size_at) && (zero_at (place F area_size_at + 1) && true))) (sym (holds_moved zero_at d later_count later_at))

  -- seven zero bytes, or a text
  pub tail_is : get_or s (place F sample_mark_at) 0 < 256 → (ltb (le_at 8 (place F sample_mark_at) s) 256 || is_text F s) ≡ tail_permitted F s
  tail_is small =
      ap (λ (b : Bool). b || is_text F s)
      (zeros_behind s 7 (place F sample_mark_at) small ∙ parts ∙ ap (λ (b : Bool). eqb (byte_at F reserved_at s) 0 && holds_from later_count later_at (λ k. eqb (byte_at F k s) 0) && b) (sym (zeros s 2 (place F area_size_at))))

-- the same tests in another order, of a text and of another nature
last : (x n : Bool) → true ≡ (not x || not (n && false))
last false n = refl
last true true = refl
last true false = refl

turned : (x e n : Bool) → not (x && e && n) ≡ (not x || not (n && e))
turned false e n = refl
turned true false n = last true n
turned true true true = refl
turned true true false = refl

text_turned : (a r l g v k e n z : Bool) → not (a && r && l && g && v && k && e && n) ≡ (not (a && (r && l && z || true) && g && v && k) || not (n && (r && l && e)))
text_turned false r l g v k e n z = refl
text_turned true false l g v k e n z = last (g && v && k) n
text_turned true true false g v k e n z = last (g && v && k) n
text_turned true true true g v k e n true = turned (g && v && k) e n
text_turned true true true g v k e n false = turned (g && v && k) e n

other_turned : (a r l g v k z n : Bool) → not (a && r && l && g && v && k && z && n) ≡ (not (a && (r && l && z || false) && g && v && k) || not (n && true))
other_turned false r l g v k z n = refl
other_turned true false l g v k z n = refl
other_turned true true false g v k z n = refl
other_turned true true true g v k true n = turned (g && v && k) true n
other_turned true true true g v k false n = rw (and-false (g && v && k))

module _ (F : Form) (s : List ℕ) where
  pub fields_parts : fields_fail F s ≡ (head_fault F s || not (nature_permitted F s && texts_permitted F s))
  unfolding fields_fail bytes_permitted area_permitted
  fields_parts = go (is_text F s)
    where
      flags : Bool
      flags = leb (byte_at F nature_at s) last_nature && leb (byte_at F type_at s) last_type && flag_permitted F s nullity_at && flag_permitted F s releasable_at && flag_permitted F s not_empty_at && flag_permitted F s ordered_at

      reserved_byte : Bool
      reserved_byte = eqb (byte_at F reserved_at s) 0

      later : Bool
      later = holds_from later_count later_at (λ k. eqb (byte_at F k s) 0)

      go : (t : Bool) →
          not (flags && reserved_byte && later && gap_permitted F s && values_permitted F s && groups_permitted F s && cond t (end_to_end F s (category_count F s) 0 0) (eqb (area_size F s) 0) && nature_permitted F s)
          ≡ (not (flags && (reserved_byte && later && eqb (area_size F s) 0 || t) && gap_permitted F s && values_permitted F s && groups_permitted F s)
          || not (nature_permitted F s && cond t (reserved_byte && later && end_to_end F s (category_count F s) 0 0) true))
      go true = text_turned flags reserved_byte later (gap_permitted F s) (values_permitted F s) (groups_permitted F s) (end_to_end F s (category_count F s) 0 0) (nature_permitted F s) (eqb (area_size F s) 0)
      go false = other_turned flags reserved_byte later (gap_permitted F s) (values_permitted F s) (groups_permitted F s) (eqb (area_size F s) 0) (nature_permitted F s)
