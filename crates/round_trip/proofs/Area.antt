-- The text area of a sheet that passed 3 and 4. 02, S-2: "Texts lie end to end in value order from 0 to the area's end".
--     text_long      a text has the length that its value says
--     texts_area     THE LAW: the texts of the values, joined in value order, are the area, which is all that stands behind the arrays
--     lists_area     the same of the texts list by list, as the sheet that the bytes spell has them
--     lists_spots    written again, the values of the texts are the values that stand in the sheet
-- Assumes nothing.
use mathlib.Core.Path.{◌≡◌, refl, sym, ap, ap₂, ◌∙◌}
use mathlib.Core.Bool.{true, false}
use mathlib.Core.List.{List, [], ◌∷◌, ◌++◌, map, flatten}
use Prim.Native.Nat.{ℕ, zero, suc, ◌+◌, ◌≤◌, ◌<◌}
use native.Mathlib.Nat.{add-zero, add_assoc}
use native.Mathlib.Omega.{arith}
use lib.ListN.{length, take, drop, length-append, length-drop}
use lib.Seq.{take-add, drop-drop, take_all, length-take-le}
use Rattle.utilities.specs.Lists.{list_from}
use Rattle.base.specs.Form.{Form, nature_at, byte_at, text_lists_nature, group_count, list_count, category_count, area_at, area_size}
use Rattle.base.specs.Decode.{as_bits, start_in, length_in, lists, text_in}
use Rattle.base.specs.Encode.{joined, text_of, area_of, spot, spots_of, spots_from}
use Rattle.base.specs.Checks.{end_to_end, lists_permitted, sizes_fail, fields_fail}
use Rattle.base.specs.Sized.{ListsFit}
use Rattle.base.proofs.Passed.{passed, lists_fit, area_ends}
use Rattle.base.proofs.Permitted.{permitted, lists_tested}
use Rattle.base.proofs.Lists.{lists_read, area_flat}
use Rattle.base.proofs.EndToEnd.{value, lengths_from, run_next, run_end, whole_run, last_end, text_within_lem}
use Rattle.round_trip.proofs.InOrder.{lists_flat}
use Rattle.round_trip.proofs.Texts.{same_spot}

-- ---- end to end

module _ (F : Form) (s : List ℕ) where
  -- where the area begins
  abbrev pub area : ℕ
  area = area_at F (group_count F s) (category_count F s)

  -- the texts of the values, joined
  run_texts : (k i at : ℕ) → end_to_end F s k i at ≡ true → text_of (list_from k i (λ j. text_in F s (value F s j))) ≡ take (lengths_from F s k i) (drop (area + at) s)
  unfolding text_of joined list_from lengths_from text_in
  run_texts zero i at e = refl
  run_texts (suc k) i at e =
      let n = length_in (value F s i) in
      let next = run_next F s k i at e in
      let there : drop (area + (at + n)) s ≡ drop n (drop (area + at) s) = ap (λ (k : ℕ). drop k s) (sym (add_assoc area at n)) ∙ sym (drop-drop n (area + at) s) in
      rw (next.0, run_texts k (i + 1) (at + n) next.1, there) (sym (take-add n (lengths_from F s k (i + 1)) (drop (area + at) s)))

  -- values of which each starts where the text before it ends, the first at `at`, and whose texts stand in the sheet
  abbrev Chain : ℕ → List ℕ → Type 0
  Chain at [] = Unit {0}
  Chain at (v ∷ vs) = (start_in v ≡ at) × (length (text_in F s v) ≡ length_in v) × Chain (at + length_in v) vs

  text_length : (v : ℕ) → area + (start_in v + length_in v) ≤ length s → length (text_in F s v) ≡ length_in v
  unfolding text_in
  text_length v h = length-take-le (length_in v) (drop (area + start_in v) s) (rw length-drop (omega arith))

  run_chain : (k i at : ℕ) → end_to_end F s k i at ≡ true → area + area_size F s ≤ length s → Chain at (list_from k i (value F s))
  unfolding list_from lengths_from
  run_chain zero i at e h = tt
  run_chain (suc k) i at e h =
      let next = run_next F s k i at e in
      let end = run_end F s (suc k) i at e in
      (next.0, text_length (value F s i) (omega (arith, next.0)), run_chain k (i + 1) (at + length_in (value F s i)) next.1 h)

  -- the values of the texts of a list, and the chain behind it
  chain_list : (at : ℕ) (l rest : List ℕ) → Chain at (l ++ rest) → (spots_of at (map (text_in F s) l) ≡ l) × Chain (at + length (text_of (map (text_in F s) l))) rest
  unfolding spots_of text_of joined
  chain_list at [] rest c = (refl, rw (add-zero at) c)
  chain_list at (v ∷ l) rest c =
      let x = text_in F s v in
      let later = chain_list (at + length x) l rest (rw c.1 c.2) in
      let first : spot at (length x) ≡ v = ap₂ spot (sym c.0) c.1 ∙ same_spot v in
      (ap₂ ◌∷◌ first later.0, rw (length-append, ← add_assoc) later.1)

  chain_lists : (at : ℕ) (vs : List (List ℕ)) → Chain at (flatten vs) → spots_from at (map (map (text_in F s)) vs) ≡ vs
  unfolding spots_from flatten
  chain_lists at [] c = refl
  chain_lists at (l ∷ vs) c = let here = chain_list at l (flatten vs) c in ap₂ ◌∷◌ here.0 (chain_lists (at + length (text_of (map (text_in F s) l))) vs here.1)

-- ---- a sheet of texts that passed 3 and 4

module _ (F : Form) (s : List ℕ) (sizes : sizes_fail F s ≡ false) (fields : fields_fail F s ≡ false) (text : byte_at F nature_at s ≡ text_lists_nature) where
  abbrev count : ℕ
  count = category_count F s

  pub lists_permitted_lem : lists_permitted F s ≡ true
  lists_permitted_lem = lists_tested F s (permitted F s fields).nature (rw text) (rw text)

  pub arrays_fit : ListsFit F s (group_count F s) (list_count F s) count
  arrays_fit = lists_fit (passed F s sizes) (rw text)

  -- the area ends where the sheet does
  ends : length s ≡ area F s + area_size F s
  ends = area_ends (passed F s sizes) (rw text)

  pub text_long : (i : ℕ) → i < count → length (text_in F s (value F s i)) ≡ length_in (value F s i)
  text_long i l = text_length F s (value F s i) (omega (arith, text_within_lem F s fields text i l, ends))

  -- all that stands behind the arrays has the area's size
  pub area_size_lem : length (drop (area F s) s) ≡ area_size F s
  area_size_lem = length-drop (area F s) s ∙ omega (arith, ends)

  -- the texts of values 0, 1, .. joined are the area
  pub texts_area : text_of (list_from count 0 (λ i. text_in F s (value F s i))) ≡ drop (area F s) s
  texts_area =
      rw add-zero at (run_texts F s count 0 0 (whole_run F s fields text))
      ∙ take_all (lengths_from F s count 0) (drop (area F s) s) (omega (arith, area_size_lem, last_end F s fields text))

  pub lists_area : area_of (lists F s (text_in F s)) ≡ drop (area F s) s
  lists_area = sym (area_flat (lists F s (text_in F s))) ∙ ap text_of (lists_flat F s arrays_fit lists_permitted_lem (text_in F s)) ∙ texts_area

  pub lists_spots : spots_from 0 (lists F s (text_in F s)) ≡ lists F s as_bits
  lists_spots =
      let chain = run_chain F s count 0 0 (whole_run F s fields text) (omega (arith, ends)) in
      rw (lists_read F s (text_in F s)) (chain_lists F s 0 (lists F s as_bits) (rw (lists_flat F s arrays_fit lists_permitted_lem as_bits) chain))
