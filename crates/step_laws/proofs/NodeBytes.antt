-- Bytes that differ in the place of the node number alone: they are read alike (`read_alike`), and a step on them refuses alike (`step_elsewhere`).
-- Assumes nothing.
use mathlib.Core.Path.{◌≡◌, refl, sym, ap, ap₂, ◌∙◌}
use mathlib.Core.Bool.{◌&&◌}
use mathlib.Core.List.{List}
use Prim.Native.Nat.{ℕ, zero, suc, ◌+◌, ◌-◌, ◌*◌, ◌≤◌, ◌<◌}
use native.Mathlib.Omega.{arith}
use lib.Dec.{eqb}
use lib.ListN.{length, get_or, take, drop, length-drop}
use lib.Seq.{ext_get_or, get_or-drop}
use Rattle.octets.specs.Le.{le_at}
use Rattle.octets.proofs.Round.{le_at_cong}
use Rattle.numbers.specs.Result.{ok}
use Rattle.utilities.specs.Lists.{list_from}
use Rattle.base.specs.Form.{Form, Laid, group_count, list_count, category_count, place, byte_at, nature_at, type_at, nullity_at, releasable_at, not_empty_at, ordered_at, c_stability_at, aggregator_at, rows_mark_at, columns_mark_at, dataset_mark_at, dimensionality_mark_at, sample_mark_at, reserved_at, area_size_at, later_at, later_count, rows_at, columns_at, dataset_at, dimensionality_at, sample_at, node_at, fields_end, partition_at, key_at, lower_at, upper_at, number_at, value_at, area_at, area_size}
use Rattle.base.specs.Decode.{as_whole, as_float, as_bits, option_at, end_at, list_number, category_at, start_in, length_in, list_at, entries, lists, text_in, nature_in, fields_in, groups_in, decode}
use Rattle.base.specs.Checks.{holds_from, sizes_fail, gap_permitted, bytes_permitted, values_permitted, key_permitted, groups_permitted, end_permitted, range_permitted, number_permitted, value_permitted, lists_permitted, end_to_end, area_permitted, nature_permitted, fields_fail, sheet_checks, read}
use Rattle.base.specs.Code.{code_of}
use Rattle.base.specs.declared.Component.{Component}
use Rattle.calls.specs.Single.{step}
use Rattle.step_laws.proofs.Numberless.{Alike, checked_alike, step_alike}

-- the same bytes, but for those of the node number
pub record Elsewhere (F : Form) (s s' : List ℕ) : Type 0 where
  pub size : length s ≡ length s'
  pub before : (k : ℕ) → k < place F node_at → get_or s k 0 ≡ get_or s' k 0
  pub behind : (k : ℕ) → place F fields_end ≤ k → get_or s k 0 ≡ get_or s' k 0

module _ {F : Form} (laid : Laid F) {s s' : List ℕ} (same : Elsewhere F s s') where
  -- ---- what is read at a place

  number_before : (n k : ℕ) → k + n ≤ place F node_at → le_at n k s ≡ le_at n k s'
  number_before n k h = le_at_cong n k k s s' (λ i l. same.before (k + i) (omega arith))

  number_behind : (n k : ℕ) → F.arrays_at ≤ k → le_at n k s ≡ le_at n k s'
  number_behind n k h = le_at_cong n k k s s' (λ i l. same.behind (k + i) (omega (arith, laid.arrays)))

  byte_behind : (k : ℕ) → F.arrays_at ≤ k → get_or s k 0 ≡ get_or s' k 0
  byte_behind k h = same.behind k (omega (arith, laid.arrays))

  rest_behind : (k : ℕ) → F.arrays_at ≤ k → drop k s ≡ drop k s'
  rest_behind k h =
      let size : length s ≡ length s' = same.size in
      ext_get_or 0 (drop k s) (drop k s') (omega (arith, length-drop k s, length-drop k s'))
      (λ i l. get_or-drop k s i 0 ∙ byte_behind (k + i) (omega arith) ∙ sym (get_or-drop k s' i 0))

  byte : (k : ℕ) → k < node_at → byte_at F k s ≡ byte_at F k s'
  byte k h = same.before (place F k) (omega arith)

  value : (k : ℕ) → k + 8 ≤ node_at → le_at 8 (place F k) s ≡ le_at 8 (place F k) s'
  value k h = number_before 8 (place F k) (omega arith)

  groups_same : group_count F s ≡ group_count F s'
  groups_same = number_before F.size_width 0 (omega (arith, laid.sizes))

  lists_same : list_count F s ≡ list_count F s'
  lists_same = number_before F.size_width F.size_width (omega (arith, laid.sizes))

  categories_same : category_count F s ≡ category_count F s'
  categories_same = number_before F.size_width (2 * F.size_width) (omega (arith, laid.sizes))

  area_same : area_size F s ≡ area_size F s'
  area_same = number_before 2 (place F area_size_at) (omega arith)

  list_number_lem : (g k : ℕ) → list_number F s g k ≡ list_number F s' g k
  list_number_lem g k = number_behind F.number_width (number_at F g k) (omega arith)

  category : (g t k : ℕ) → category_at F s g t k ≡ category_at F s' g t k
  category g t k = number_behind 8 (value_at F g t k) (omega arith)

  -- ---- 3 and 4

  sizes_fail_lem : sizes_fail F s ≡ sizes_fail F s'
  unfolding sizes_fail
  sizes_fail_lem = rw (same.size, byte nature_at (omega arith), groups_same, lists_same, categories_same, area_same)

  reserved : (n k : ℕ) → k + n ≤ node_at → holds_from n k (λ j. eqb (byte_at F j s) 0) ≡ holds_from n k (λ j. eqb (byte_at F j s') 0)
  unfolding holds_from
  reserved zero k h = refl
  reserved (suc n) k h = ap₂ ◌&&◌ (ap (λ (b : ℕ). eqb b 0) (byte k (omega arith))) (reserved n (k + 1) (omega arith))

  zeros_behind : (n k : ℕ) → place F fields_end ≤ k → holds_from n k (λ j. eqb (get_or s j 0) 0) ≡ holds_from n k (λ j. eqb (get_or s' j 0) 0)
  unfolding holds_from
  zeros_behind zero k h = refl
  zeros_behind (suc n) k h = ap₂ ◌&&◌ (ap (λ (b : ℕ). eqb b 0) (same.behind k h)) (zeros_behind n (k + 1) (omega arith))

  gap_permitted_lem : gap_permitted F s ≡ gap_permitted F s'
  gap_permitted_lem = zeros_behind (F.arrays_at - place F fields_end) (place F fields_end) (omega arith)

  bytes_permitted_lem : bytes_permitted F s ≡ bytes_permitted F s'
  unfolding bytes_permitted
  bytes_permitted_lem =
      rw (
        byte nature_at (omega arith),
        byte type_at (omega arith),
        byte nullity_at (omega arith),
        byte releasable_at (omega arith),
        byte not_empty_at (omega arith),
        byte ordered_at (omega arith),
        byte reserved_at (omega arith),
        reserved later_count later_at (omega arith),
        gap_permitted_lem,
      )

  values_permitted_lem : values_permitted F s ≡ values_permitted F s'
  unfolding values_permitted
  values_permitted_lem =
      rw (
        byte rows_mark_at (omega arith),
        byte columns_mark_at (omega arith),
        byte dataset_mark_at (omega arith),
        byte dimensionality_mark_at (omega arith),
        byte sample_mark_at (omega arith),
        value rows_at (omega arith),
        value columns_at (omega arith),
        value dataset_at (omega arith),
        value dimensionality_at (omega arith),
        value sample_at (omega arith),
      )

  key_permitted_lem : (k : ℕ) → key_permitted F s k ≡ key_permitted F s' k
  key_permitted_lem k =
      let at = key_at F (group_count F s') k in
      rw (groups_same, byte_behind at (omega arith), number_behind 8 (at + 1) (omega arith))

  groups_permitted_lem : groups_permitted F s ≡ groups_permitted F s'
  unfolding groups_permitted
  groups_permitted_lem = λ i. holds_from (groups_same i) 0 (λ k. key_permitted_lem k i)

  end_permitted_lem : (at : ℕ) → F.arrays_at ≤ at → end_permitted F s at ≡ end_permitted F s' at
  end_permitted_lem at h = rw (byte_behind at h, number_behind 8 (at + 1) (omega arith))

  lower_permitted : (k : ℕ) → end_permitted F s (lower_at F (group_count F s) k) ≡ end_permitted F s' (lower_at F (group_count F s') k)
  lower_permitted k = end_permitted_lem (lower_at F (group_count F s) k) (omega arith) ∙ ap (λ (g : ℕ). end_permitted F s' (lower_at F g k)) groups_same

  upper_permitted : (k : ℕ) → end_permitted F s (upper_at F (group_count F s) (list_count F s) k) ≡ end_permitted F s' (upper_at F (group_count F s') (list_count F s') k)
  upper_permitted k =
      end_permitted_lem (upper_at F (group_count F s) (list_count F s) k) (omega arith)
      ∙ ap₂ (λ (g n : ℕ). end_permitted F s' (upper_at F g n k)) groups_same lists_same

  range_permitted_lem : range_permitted F s ≡ range_permitted F s'
  unfolding range_permitted
  range_permitted_lem = λ i. eqb (categories_same i) 0 && holds_from (lists_same i) 0 (λ k. lower_permitted k i && upper_permitted k i)

  number_permitted_lem : (k : ℕ) → number_permitted F s k ≡ number_permitted F s' k
  number_permitted_lem k = rw (groups_same, lists_same, list_number_lem (group_count F s') k, list_number_lem (group_count F s') (k - 1))

  value_permitted_lem : (k : ℕ) → value_permitted F s k ≡ value_permitted F s' k
  value_permitted_lem k = rw (byte nature_at (omega arith), groups_same, categories_same, category (group_count F s') (category_count F s') k)

  lists_permitted_lem : lists_permitted F s ≡ lists_permitted F s'
  unfolding lists_permitted
  lists_permitted_lem = λ i. holds_from (categories_same i) 0 (λ k. number_permitted_lem k i && value_permitted_lem k i)

  end_to_end_lem : (n k at : ℕ) → end_to_end F s n k at ≡ end_to_end F s' n k at
  unfolding end_to_end
  end_to_end_lem zero k at = rw area_same
  end_to_end_lem (suc n) k at =
      let v = category_at F s' (group_count F s') (category_count F s') k in
      rw (groups_same, categories_same, category (group_count F s') (category_count F s') k, end_to_end_lem n (k + 1) (at + length_in v))

  area_permitted_lem : area_permitted F s ≡ area_permitted F s'
  unfolding area_permitted
  area_permitted_lem = rw (byte nature_at (omega arith), categories_same, area_same, end_to_end_lem (category_count F s') 0 0)

  fields_fail_lem : fields_fail F s ≡ fields_fail F s'
  unfolding fields_fail nature_permitted
  fields_fail_lem =
      rw (bytes_permitted_lem, values_permitted_lem, groups_permitted_lem, area_permitted_lem, byte nature_at (omega arith), lists_same, categories_same, range_permitted_lem, lists_permitted_lem)

  -- ---- the sheet

  field : {X : Type 0} (read : ℕ → X) (mark at : ℕ) → mark < node_at → at + 8 ≤ node_at
      → option_at read (place F mark) (place F at) s ≡ option_at read (place F mark) (place F at) s'
  unfolding option_at
  field read mark at h l = rw (byte mark h, value at l)

  fields_same : fields_in F s ≡ fields_in F s'
  unfolding fields_in
  fields_same =
      rw (
        byte type_at (omega arith),
        byte nullity_at (omega arith),
        byte releasable_at (omega arith),
        byte not_empty_at (omega arith),
        byte ordered_at (omega arith),
        number_before 4 (place F c_stability_at) (omega arith),
        number_before 4 (place F aggregator_at) (omega arith),
        field as_whole rows_mark_at rows_at (omega arith) (omega arith),
        field as_bits columns_mark_at columns_at (omega arith) (omega arith),
        field as_whole dataset_mark_at dataset_at (omega arith) (omega arith),
        field as_whole dimensionality_mark_at dimensionality_at (omega arith) (omega arith),
        field as_bits sample_mark_at sample_at (omega arith) (omega arith),
      )

  groups_in_lem : groups_in F s ≡ groups_in F s'
  unfolding groups_in
  groups_in_lem = λ i. list_from (groups_same i) 0 (λ k. record { partition = partition k i; kind = kind k i; index = as_whole (index k i) })
    where
      partition : (k : ℕ) → le_at 4 (partition_at F k) s ≡ le_at 4 (partition_at F k) s'
      partition k = number_behind 4 (partition_at F k) (omega arith)

      kind : (k : ℕ) → get_or s (key_at F (group_count F s) k) 0 ≡ get_or s' (key_at F (group_count F s') k) 0
      kind k = rw (groups_same, byte_behind (key_at F (group_count F s') k) (omega arith))

      index : (k : ℕ) → le_at 8 (key_at F (group_count F s) k + 1) s ≡ le_at 8 (key_at F (group_count F s') k + 1) s'
      index k = rw (groups_same, number_behind 8 (key_at F (group_count F s') k + 1) (omega arith))

  module _ {X : Type 0} (read : ℕ → X) where
    end_in : (at : ℕ) → F.arrays_at ≤ at → end_at read at s ≡ end_at read at s'
    unfolding option_at
    end_in at h = rw (byte_behind at h, number_behind 8 (at + 1) (omega arith))

    lower_in : (k : ℕ) → end_at read (lower_at F (group_count F s) k) s ≡ end_at read (lower_at F (group_count F s') k) s'
    lower_in k = end_in (lower_at F (group_count F s) k) (omega arith) ∙ ap (λ (g : ℕ). end_at read (lower_at F g k) s') groups_same

    upper_in : (k : ℕ) → end_at read (upper_at F (group_count F s) (list_count F s) k) s ≡ end_at read (upper_at F (group_count F s') (list_count F s') k) s'
    upper_in k =
        end_in (upper_at F (group_count F s) (list_count F s) k) (omega arith)
        ∙ ap₂ (λ (g n : ℕ). end_at read (upper_at F g n k) s') groups_same lists_same

    entries_in : entries F s read ≡ entries F s' read
    unfolding entries
    entries_in = λ i. list_from (lists_same i) 0 (λ k. record { lower = lower_in k i; upper = upper_in k i })

    list_in : (g t j n k : ℕ) → list_at F s read g t j n k ≡ list_at F s' read g t j n k
    unfolding list_at
    list_in g t j zero k = refl
    list_in g t j (suc n) k = rw (list_number_lem g k, category g t k, list_in g t j n (k + 1))

    lists_in : lists F s read ≡ lists F s' read
    unfolding lists
    lists_in = λ i. list_from (lists_same i) 0 (λ j. whole j i)
      where
        whole : (j : ℕ) → list_at F s read (group_count F s) (category_count F s) j (category_count F s) 0
            ≡ list_at F s' read (group_count F s') (category_count F s') j (category_count F s') 0
        whole j =
            list_in (group_count F s) (category_count F s) j (category_count F s) 0
            ∙ ap₂ (λ (g t : ℕ). list_at F s' read g t j t 0) groups_same categories_same

  text_in_lem : (v : ℕ) → text_in F s v ≡ text_in F s' v
  unfolding text_in
  text_in_lem v =
      let at : ℕ = area_at F (group_count F s') (category_count F s') + start_in v in
      rw (groups_same, categories_same) (ap (take (length_in v)) (rest_behind at (omega arith)))

  texts_in : lists F s (text_in F s) ≡ lists F s' (text_in F s')
  texts_in = lists_in (text_in F s) ∙ (λ i. lists F s' (λ v. text_in_lem v i))

  nature_same : nature_in F s ≡ nature_in F s'
  unfolding nature_in
  nature_same = rw (byte nature_at (omega arith), entries_in as_whole, entries_in as_float, lists_in as_whole, lists_in as_bits, texts_in)

  decode_alike : Alike (ok (decode F s)) (ok (decode F s'))
  unfolding decode
  decode_alike = record { but_node = λ n i. ok (record { fields = fields_same i; node = n; groups = groups_in_lem i; nature = nature_same i }) }

  pub read_alike : Alike (read F s) (read F s')
  unfolding read
  read_alike = rw (sizes_fail_lem, fields_fail_lem, nature_same) (checked_alike (sheet_checks F s') decode_alike)

pub step_elsewhere : {F : Form} (laid : Laid F) (c : Component) (node node' : ℕ) {left left' right right' : List ℕ}
    → Elsewhere F left left' → Elsewhere F right right' → code_of (step F c node left right) ≡ code_of (step F c node' left' right')
step_elsewhere {F} laid c node node' {left} {left'} {right} {right'} l r =
    step_alike F c left left' right right' (read_alike laid l) (read_alike laid r) node node'
