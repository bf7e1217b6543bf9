-- The bytes of a sheet that keeps to its form pass 3 and 4, for any stored form that is laid out properly.
--     encoded_sized        3
--     encoded_permitted    4
--     encoded_read         both
-- Assumes nothing.
use mathlib.Core.Path.{◌≡◌, refl, sym, ap, subst, ◌∙◌}
use mathlib.Core.Bool.{Bool, true, false, not, ◌||◌, ◌&&◌, or-true}
use mathlib.Core.List.{List, [], ◌∷◌, ◌++◌, append-nil}
use mathlib.Core.Option
use mathlib.Core.Option.{Option, none, some}
use Prim.Native.Nat.{ℕ, zero, suc, ◌+◌, ◌-◌, ◌*◌, ◌^◌, ◌≤◌, ◌<◌}
use native.Mathlib.Nat.{zero-add, suc-add, add-zero, mul-zero, add-sub_cancel}
use native.Mathlib.Omega.{arith}
use lib.Dec.{eqb, leb, ltb}
use lib.IntN.{ℤ}
use lib.ListN.{length, get_or, replicate, length-append}
use borrow.Author.Tests.{eq-eqb, eqb-true, lt-ltb, le-ltb, le-leb, leb-true}
use Rattle.octets.specs.Le.{le_at, le_bytes}
use Rattle.octets.proofs.Widths.{length_le_bytes}
use Rattle.numbers.specs.Kind.{Span}
use Rattle.base.specs.Form.{Form, Laid, group_count, list_count, category_count, place, byte_at, nature_at, type_at, nullity_at, releasable_at, not_empty_at, ordered_at, rows_mark_at, columns_mark_at, dataset_mark_at, dimensionality_mark_at, sample_mark_at, reserved_at, later_at, later_count, fields_end, rows_at, columns_at, dataset_at, dimensionality_at, sample_at, last_nature, last_type, bool_key, last_key, key_at, entries_at, lower_at, upper_at, number_at, value_at, area_size, length_called_for}
use Rattle.base.specs.Sheet.{Group, Nature, absent, whole_range, float_range, whole_lists, bool_lists, float_lists, text_lists, Fields, Sheet}
use Rattle.base.specs.Decode.{as_bits, list_number}
use Rattle.base.specs.Encode.{flag, mark, bits_of, whole_bits, float_bits, joined, end_bytes, nature_number, entry_count, value_count, total, area_of, spots_from, range_bytes, list_bytes, number_bytes, numbers_from, lists_bytes, nature_bytes, encode}
use Rattle.base.specs.Checks.{holds_from, mark_permitted, sizes_fail, bytes_permitted, values_permitted, key_permitted, groups_permitted, range_permitted, value_permitted, lists_permitted, area_permitted, nature_permitted, fields_fail}
use Rattle.lending.specs.Code.{Read}
use Rattle.round_trip.specs.WellFormed.{Each, Present, Whole, Bits, GroupFits, WellFormed}
use Rattle.round_trip.proofs.Standing.{Standing, standing_left, standing_right, standing_at, byte_back, number_back}
use Rattle.round_trip.proofs.Values.{whole}
use Rattle.round_trip.proofs.Arrays.{next_place}
use Rattle.round_trip.proofs.Table.{key_bytes, key_sized, part_at, sheet_length}
use Rattle.round_trip.proofs.Fields.{group_count_back, list_count_back, category_count_back, area_size_back, nature_byte_back}
use Rattle.round_trip.proofs.Spans.{lower_bytes, upper_bytes, end_sized, lowers_length}
use Rattle.round_trip.proofs.Lists.{number_bytes_length, list_bytes_length, numbers_length}
use Rattle.round_trip.proofs.Texts.{spots_length, spots_total, spots_fit}
use Rattle.round_trip.proofs.Natures.{sheet_of}
use Rattle.round_trip.proofs.Back.{called_for_lem}
use Rattle.derived.specs.Held.{KeyAllowed, ValuesAllowed, Sound}
use Rattle.derived.proofs.Derived.{sound_formed}
use Rattle.derived.proofs.Ended.{texts_run}

-- ---- bytes and marks

nature_known : (k : Nature) → leb (nature_number k) last_nature ≡ true
nature_known absent = refl
nature_known (whole_range rs) = refl
nature_known (float_range rs) = refl
nature_known (whole_lists ls) = refl
nature_known (bool_lists ls) = refl
nature_known (float_lists ls) = refl
nature_known (text_lists ls) = refl

module _ {t : List ℕ} where
  flag_holds : (b : Bool) {at : ℕ} → Standing t at (flag b ∷ []) → leb (get_or t at 0) 1 ≡ true
  flag_holds true h = rw (byte_back h)
  flag_holds false h = rw (byte_back h)

  -- n zero bytes, of which byte i stands at `at i`
  zeros_hold :
      (at : ℕ → ℕ) → ((i : ℕ) → at i + 1 ≡ at (i + 1)) → (n i : ℕ) → Standing t (at i) (replicate n 0) → holds_from n i (λ k. eqb (get_or t (at k) 0) 0) ≡ true
  unfolding holds_from
  zeros_hold at next zero i h = refl
  zeros_hold at next (suc n) i h =
      rw (byte_back (standing_left (0 ∷ []) (replicate n 0) h)) (zeros_hold at next n (i + 1) (standing_right (0 ∷ []) (replicate n 0) h (next i)))

  columns_hold :
      (limit : ℕ) (o : Option ℕ) {at to : ℕ} → Present Bits o → Present (λ n. 0 < n) o → Option.get_or o 0 ≤ limit
      → Standing t at (mark o ∷ []) → Standing t to (le_bytes 8 (bits_of as_bits o))
      → (eqb (get_or t at 0) 0 || (ltb 0 (le_at 8 to t) && leb (le_at 8 to t) limit)) ≡ true
  columns_hold limit none p q h m v = rw (byte_back m)
  columns_hold limit (some n) p q h m v = rw (byte_back m, number_back 8 v p, lt-ltb 0 n q, le-leb n limit h)

  module _ {X : Type 0} (bits : X → ℕ) where
    mark_holds : (e : Option X) {at to : ℕ} → Standing t at (mark e ∷ []) → Standing t to (le_bytes 8 (bits_of bits e)) → mark_permitted at to t ≡ true
    mark_holds none m v = rw (byte_back m, number_back 8 v (omega arith))
    mark_holds (some x) m v = rw (byte_back m)

    end_holds : (e : Option X) {at : ℕ} → Standing t at (end_bytes bits e) → mark_permitted at (at + 1) t ≡ true
    unfolding end_bytes
    end_holds e h =
        let rest = le_bytes 8 (bits_of bits e) in
        mark_holds e (standing_left (mark e ∷ []) rest h) (standing_right (mark e ∷ []) rest h refl)

-- ---- groups

module _ (F : Form) (t : List ℕ) (g : ℕ) where
  -- key i of g, as 4 tests it
  abbrev key_holds : ℕ → Bool
  key_holds i =
      let k = get_or t (key_at F g i) 0 in
      ltb 0 k && leb k last_key && (not (eqb k bool_key) || leb (le_at 8 (key_at F g i + 1) t) 1)

  key_holds_lem : (i : ℕ) (x : Group) → GroupFits x → KeyAllowed x → Standing t (key_at F g i) (key_bytes x) → key_holds i ≡ true
  key_holds_lem i x fit k h =
      let bytes = le_bytes 8 (whole_bits x.index) in
      let kind = byte_back (standing_left (x.kind ∷ []) bytes h) in
      let index = number_back 8 (standing_right (x.kind ∷ []) bytes h refl) (whole.below x.index fit.index) in
      rw (kind, index, lt-ltb 0 x.kind k.some_kind, le-leb x.kind last_key k.last_kind) (go (eqb x.kind bool_key) refl)
    where
      go : (b : Bool) → eqb x.kind bool_key ≡ b → (not b || leb (whole_bits x.index) 1) ≡ true
      go true e = le-leb (whole_bits x.index) 1 (k.bool (eqb-true x.kind bool_key e))
      go false e = refl

  keys_hold :
      (xs : List Group) (i : ℕ) → Each GroupFits xs → Each KeyAllowed xs → Standing t (key_at F g i) (joined key_bytes xs) → holds_from (length xs) i key_holds ≡ true
  unfolding holds_from joined
  keys_hold [] i p q h = refl
  keys_hold (x ∷ xs) i p q h =
      let here = key_holds_lem i x p.0 q.0 (standing_left (key_bytes x) (joined key_bytes xs) h) in
      rw here
      (keys_hold xs (i + 1) p.1 q.1
      (standing_right (key_bytes x) (joined key_bytes xs) h (next_place (F.arrays_at + 4 * g) 9 i 1 (rw (key_sized x) (omega arith)))))

-- ---- ranges

module _ {X : Type 0} (bits : X → ℕ) where
  module _ (F : Form) (t : List ℕ) (g n : ℕ) where
    -- the ends of entry i, as 4 tests them
    abbrev ends_hold : ℕ → Bool
    ends_hold i = mark_permitted (lower_at F g i) (lower_at F g i + 1) t && mark_permitted (upper_at F g n i) (upper_at F g n i + 1) t

    ends_hold_lem :
        (rs : List (Span X)) (i : ℕ) → Standing t (lower_at F g i) (joined (lower_bytes bits) rs) → Standing t (upper_at F g n i) (joined (upper_bytes bits) rs)
        → holds_from (length rs) i ends_hold ≡ true
    unfolding holds_from joined
    ends_hold_lem [] i l u = refl
    ends_hold_lem (r ∷ rs) i l u =
        let lower = end_holds bits r.lower (standing_left (lower_bytes bits r) (joined (lower_bytes bits) rs) l) in
        let upper = end_holds bits r.upper (standing_left (upper_bytes bits r) (joined (upper_bytes bits) rs) u) in
        rw (lower, upper)
        (ends_hold_lem rs (i + 1)
        (standing_right (lower_bytes bits r) (joined (lower_bytes bits) rs) l (next_place (entries_at F g) 9 i 1 (rw (end_sized bits r.lower) (omega arith))))
        (standing_right (upper_bytes bits r) (joined (upper_bytes bits) rs) u (next_place (entries_at F g + 9 * n) 9 i 1 (rw (end_sized bits r.upper) (omega arith)))))

    range_holds : (rs : List (Span X)) → n ≡ length rs → Standing t (entries_at F g) (range_bytes bits rs) → holds_from n 0 ends_hold ≡ true
    unfolding range_bytes
    range_holds rs e h =
        let lowers = joined (lower_bytes bits) rs in
        let uppers = joined (upper_bytes bits) rs in
        ap (λ (k : ℕ). holds_from k 0 ends_hold) e
        ∙ ends_hold_lem rs 0 (standing_at (standing_left lowers uppers h) (omega arith)) (standing_right lowers uppers h (omega (arith, lowers_length bits rs)))

-- ---- lists: their numbers are below n and never fall

module _ {X : Type 0} (bits : X → ℕ) (Q : X → Type 0) (F : Form) (t : List ℕ) (g c n : ℕ) (value : ℕ → Bool)
    (ok : (i : ℕ) (x : X) → Q x → Standing t (value_at F g c i) (le_bytes 8 (bits x)) → value i ≡ true) where
  abbrev number_of : ℕ → ℕ
  number_of i = list_number F t g i

  -- category i of c, as 4 tests it
  abbrev category_holds : ℕ → Bool
  category_holds i = (ltb (number_of i) n && (eqb i 0 || leb (number_of (i - 1)) (number_of i))) && value i

  -- the number before category i, if there is one, is at most m
  abbrev Follows : ℕ → ℕ → Type 0
  Follows m i = (eqb i 0 || leb (number_of (i - 1)) m) ≡ true

  follows_own : (m i : ℕ) → number_of i ≡ m → Follows m (i + 1)
  follows_own m i e = rw (add-sub_cancel i 1, e, le-leb m m (omega arith)) (or-true (eqb (i + 1) 0))

  follows_later : (m i : ℕ) → Follows m i → Follows (m + 1) i
  follows_later m i = go (eqb i 0)
    where
      go : (b : Bool) → (b || leb (number_of (i - 1)) m) ≡ true → (b || leb (number_of (i - 1)) (m + 1)) ≡ true
      go true h = refl
      go false h = let k = leb-true (number_of (i - 1)) m h in le-leb (number_of (i - 1)) (m + 1) (omega arith)

  module _ (m : ℕ) (written : m < 256 ^ F.number_width) (below : m < n) where
    -- the categories of list m, from i on, and the k behind them
    own_holds :
        (l : List X) (i k : ℕ) → Each Q l → Follows m i → Standing t (number_at F g i) (number_bytes F m l) → Standing t (value_at F g c i) (list_bytes bits l)
        → (Follows m (i + length l) → holds_from k (i + length l) category_holds ≡ true) → holds_from (length l + k) i category_holds ≡ true
    unfolding holds_from joined
    own_holds [] i k q f a v rest = rw (zero-add) (rw add-zero at (rest (rw add-zero f)))
    own_holds (x ∷ l) i k q f a v rest =
        let w = F.number_width in
        let here : number_of i ≡ m = number_back w (standing_left (le_bytes w m) (number_bytes F m l) a) written in
        let good : value i ≡ true = ok i x q.0 (standing_left (le_bytes 8 (bits x)) (list_bytes bits l) v) in
        let next : i + suc (length l) ≡ i + 1 + length l = omega arith in
        rw (suc-add, here, lt-ltb m n below, f, good)
        (own_holds l (i + 1) k q.1 (follows_own m i here)
        (standing_right (le_bytes w m) (number_bytes F m l) a (next_place (entries_at F g) w i 1 (rw (length_le_bytes w m) (omega arith))))
        (standing_right (le_bytes 8 (bits x)) (list_bytes bits l) v (next_place (entries_at F g + w * c) 8 i 1 (rw (length_le_bytes 8 (bits x)) (omega arith))))
        (rw next at rest))

  -- the lists from number m on, whose categories are those from i on
  lists_hold :
      (ls : List (List X)) (m i : ℕ) → m + length ls ≤ n → m + length ls ≤ 256 ^ F.number_width → Each (Each Q) ls → Follows m i
      → Standing t (number_at F g i) (numbers_from F m ls) → Standing t (value_at F g c i) (joined (list_bytes bits) ls) → holds_from (total ls) i category_holds ≡ true
  unfolding holds_from joined numbers_from total
  lists_hold [] m i few room q f a v = refl
  lists_hold (l ∷ ls) m i few room q f a v =
      own_holds m (omega arith) (omega arith) l i (total ls) q.0 f
      (standing_left (number_bytes F m l) (numbers_from F (m + 1) ls) a) (standing_left (list_bytes bits l) (joined (list_bytes bits) ls) v)
      (λ after.
      lists_hold ls (m + 1) (i + length l) (omega arith) (omega arith) q.1 (follows_later m (i + length l) after)
      (standing_right (number_bytes F m l) (numbers_from F (m + 1) ls) a (next_place (entries_at F g) F.number_width i (length l) (number_bytes_length F m l)))
      (standing_right (list_bytes bits l) (joined (list_bytes bits) ls) v (next_place (entries_at F g + F.number_width * c) 8 i (length l) (list_bytes_length bits l))))

  categories_hold :
      (ls : List (List X)) → n ≡ length ls → c ≡ total ls → length ls ≤ 256 ^ F.number_width → Each (Each Q) ls
      → Standing t (entries_at F g) (lists_bytes F bits ls) → holds_from c 0 category_holds ≡ true
  unfolding lists_bytes
  categories_hold ls e f room q h =
      let numbers = numbers_from F 0 ls in
      let values = joined (list_bytes bits) ls in
      let none = mul-zero F.number_width in
      let size : length numbers ≡ F.number_width * c = rw f (numbers_length F ls 0) in
      ap (λ (k : ℕ). holds_from k 0 category_holds) f
      ∙ lists_hold ls 0 0 (omega arith) (omega arith) q refl (standing_at (standing_left numbers values h) (omega arith)) (standing_right numbers values h (omega arith))

-- ---- a nature

module _ {F : Form} (laid : Laid F) (s : Sheet) (fit : WellFormed F s) (rest : List ℕ) where
  abbrev written : List ℕ
  written = encode F s ++ rest

  -- where the arrays stand
  arrays_at_lem : Standing written (entries_at F (group_count F written)) (nature_bytes F s.nature)
  arrays_at_lem = part_at F s rest 28 (entries_at F (group_count F written)) (omega (arith, laid.sizes, laid.arrays, group_count_back F laid s fit rest))

  module _ {X : Type 0} (bits : X → ℕ) where
    -- a sheet whose arrays are those of a range, and of lists
    spans_hold : (rs : List (Span X)) → entry_count s.nature ≡ length rs → value_count s.nature ≡ 0 → Standing written (entries_at F (group_count F written)) (range_bytes bits rs)
        → range_permitted F written ≡ true
    unfolding range_permitted
    spans_hold rs n c h =
        rw (eq-eqb (category_count F written) 0 (category_count_back F laid s fit rest ∙ c))
        (range_holds bits F written (group_count F written) (list_count F written) rs (list_count_back F laid s fit rest ∙ n) h)

    filed_hold : (Q : X → Type 0)
        → ((i : ℕ) (x : X) → Q x → Standing written (value_at F (group_count F written) (category_count F written) i) (le_bytes 8 (bits x)) → value_permitted F written i ≡ true)
        → (ls : List (List X)) → entry_count s.nature ≡ length ls → value_count s.nature ≡ total ls → Standing written (entries_at F (group_count F written)) (lists_bytes F bits ls)
        → length ls ≤ 256 ^ F.number_width → Each (Each Q) ls → lists_permitted F written ≡ true
    unfolding lists_permitted
    filed_hold Q ok ls n c h room q =
        categories_hold bits Q F written (group_count F written) (category_count F written) (list_count F written) (value_permitted F written) ok ls
        (list_count_back F laid s fit rest ∙ n) (category_count_back F laid s fit rest ∙ c) room q h

-- a sheet by its parts, so that its nature can be taken apart
module _ {F : Form} (laid : Laid F) (fields : Fields) (node : ℤ) (groups : List Group) where
  abbrev with : Nature → Sheet
  with k = sheet_of F laid fields node groups k

  -- the arrays, and of texts their values, as lists of bits
  arrays : (k : Nature) (fit : WellFormed F (with k)) (rest : List ℕ) → Standing (encode F (with k) ++ rest) (entries_at F (group_count F (encode F (with k) ++ rest))) (nature_bytes F k)
  arrays k fit rest = arrays_at_lem laid (with k) fit rest

  spots_at :
      (ls : List (List (List ℕ))) → WellFormed F (with (text_lists ls)) → (rest : List ℕ)
      → let t = encode F (with (text_lists ls)) ++ rest in Standing t (entries_at F (group_count F t)) (lists_bytes F as_bits (spots_from 0 ls))
  unfolding nature_bytes
  spots_at ls fit rest = standing_left (lists_bytes F as_bits (spots_from 0 ls)) (area_of ls) (arrays (text_lists ls) fit rest)

  nature_holds : (k : Nature) → WellFormed F (with k) → ValuesAllowed k → (rest : List ℕ) → nature_permitted F (encode F (with k) ++ rest) ≡ true
  unfolding nature_permitted nature_bytes
  nature_holds absent fit q rest = rw (nature_byte_back F laid _ fit rest, list_count_back F laid _ fit rest, category_count_back F laid _ fit rest)
  nature_holds (whole_range rs) fit q rest = rw (nature_byte_back F laid _ fit rest) (spans_hold laid _ fit rest whole_bits rs refl refl (arrays (whole_range rs) fit rest))
  nature_holds (float_range rs) fit q rest = rw (nature_byte_back F laid _ fit rest) (spans_hold laid _ fit rest float_bits rs refl refl (arrays (float_range rs) fit rest))
  nature_holds (whole_lists ls) fit q rest =
      let byte = nature_byte_back F laid (with (whole_lists ls)) fit rest in
      rw byte (filed_hold laid _ fit rest whole_bits Whole (λ i x p h. rw byte) ls refl refl (arrays (whole_lists ls) fit rest) fit.nature.numbers fit.nature.values)
  nature_holds (bool_lists ls) fit q rest =
      let byte = nature_byte_back F laid (with (bool_lists ls)) fit rest in
      rw byte
      (filed_hold laid _ fit rest as_bits (λ v. v ≤ 1) (λ i v p h. rw (byte, number_back 8 h (omega arith)) (le-leb v 1 p)) ls refl refl (arrays (bool_lists ls) fit rest)
      fit.nature.numbers q)
  nature_holds (float_lists ls) fit q rest =
      let byte = nature_byte_back F laid (with (float_lists ls)) fit rest in
      rw byte (filed_hold laid _ fit rest as_bits Bits (λ i x p h. rw byte) ls refl refl (arrays (float_lists ls) fit rest) fit.nature.numbers fit.nature.values)
  nature_holds (text_lists ls) fit q rest =
      let byte = nature_byte_back F laid (with (text_lists ls)) fit rest in
      let n = spots_length 0 ls in
      rw byte
      (filed_hold laid _ fit rest as_bits Bits (λ i x p h. rw byte) (spots_from 0 ls) (sym n) (sym (spots_total 0 ls)) (spots_at ls fit rest)
      (omega (arith, fit.nature.numbers)) (spots_fit 0 ls (omega (arith, fit.text_counted))))

  -- texts lie end to end, and no other nature has an area
  area_holds : (k : Nature) → WellFormed F (with k) → (rest : List ℕ) → area_permitted F (encode F (with k) ++ rest) ≡ true
  unfolding area_permitted
  area_holds absent fit rest = rw (nature_byte_back F laid _ fit rest, area_size_back F laid _ fit rest)
  area_holds (whole_range rs) fit rest = rw (nature_byte_back F laid _ fit rest, area_size_back F laid _ fit rest)
  area_holds (float_range rs) fit rest = rw (nature_byte_back F laid _ fit rest, area_size_back F laid _ fit rest)
  area_holds (whole_lists ls) fit rest = rw (nature_byte_back F laid _ fit rest, area_size_back F laid _ fit rest)
  area_holds (bool_lists ls) fit rest = rw (nature_byte_back F laid _ fit rest, area_size_back F laid _ fit rest)
  area_holds (float_lists ls) fit rest = rw (nature_byte_back F laid _ fit rest, area_size_back F laid _ fit rest)
  area_holds (text_lists ls) fit rest =
      let size = area_size_back F laid (with (text_lists ls)) fit rest in
      rw (nature_byte_back F laid _ fit rest)
      (texts_run F _ ls (category_count_back F laid _ fit rest) size (omega (arith, size, fit.text_counted)) (spots_at ls fit rest))

-- ---- the sheet

module _ {F : Form} (laid : Laid F) (s : Sheet) (p : Sound F s) where
  abbrev bytes : List ℕ
  bytes = encode F s ++ []

  fit : WellFormed F s
  fit = sound_formed laid s p

  encoded_sized : sizes_fail F bytes ≡ false
  unfolding sizes_fail
  encoded_sized =
      let long : F.arrays_at ≤ length bytes = simp length-append (omega (arith, sheet_length F s, laid.sizes, laid.arrays)) in
      let size : length bytes ≡ length_called_for F bytes = ap length (append-nil (encode F s)) ∙ sym (called_for_lem laid fit []) in
      let groups = le-ltb F.group_limit (group_count F bytes) (rw (group_count_back F laid s fit []) p.held.groups_within) in
      let lists = le-ltb F.list_limit (list_count F bytes) (rw (list_count_back F laid s fit []) p.held.entries_within) in
      let categories = le-ltb F.category_limit (category_count F bytes) (rw (category_count_back F laid s fit []) p.values) in
      let text = le-ltb F.text_limit (area_size F bytes) (rw (area_size_back F laid s fit []) p.text) in
      rw (le-ltb (length bytes) F.arrays_at long, groups, lists, categories, text, eq-eqb (length bytes) (length_called_for F bytes) size)

  bytes_hold : bytes_permitted F bytes ≡ true
  unfolding bytes_permitted
  bytes_hold =
      let f = s.fields in
      let nature : leb (byte_at F nature_at bytes) last_nature ≡ true = rw (nature_byte_back F laid s fit []) (nature_known s.nature) in
      let type : leb (byte_at F type_at bytes) last_type ≡ true = rw (byte_back (part_at F s [] 4 (place F type_at) (omega arith))) (le-leb f.data_type last_type p.held.allowed.data_type) in
      let nullity = flag_holds f.nullity (part_at F s [] 5 (place F nullity_at) (omega arith)) in
      let releasable = flag_holds f.releasable (part_at F s [] 6 (place F releasable_at) (omega arith)) in
      let not-empty = flag_holds f.not_empty (part_at F s [] 7 (place F not_empty_at) (omega arith)) in
      let ordered = flag_holds f.ordered (part_at F s [] 8 (place F ordered_at) (omega arith)) in
      let reserved = byte_back (part_at F s [] 16 (place F reserved_at) (omega arith)) in
      let later = zeros_hold (place F) (λ i. omega arith) later_count later_at (part_at F s [] 18 (place F later_at) (omega arith)) in
      let gap = zeros_hold (λ i. i) (λ i. refl) (F.arrays_at - place F fields_end) (place F fields_end) (part_at F s [] 25 (place F fields_end) (omega arith)) in
      rw (nature, type, nullity, releasable, not-empty, ordered, reserved, later, gap)

  values_hold : values_permitted F bytes ≡ true
  unfolding values_permitted
  values_hold =
      let f = s.fields in
      let h = p.held in
      let rows = mark_holds whole_bits f.rows (part_at F s [] 11 (place F rows_mark_at) (omega arith)) (part_at F s [] 19 (place F rows_at) (omega arith)) in
      let columns-mark = part_at F s [] 12 (place F columns_mark_at) (omega arith) in
      let columns-value = part_at F s [] 20 (place F columns_at) (omega arith) in
      let columns = mark_holds as_bits f.columns columns-mark columns-value in
      let count = columns_hold F.column_limit f.columns h.fields.columns h.allowed.columns h.columns_within columns-mark columns-value in
      let dataset = mark_holds whole_bits f.dataset (part_at F s [] 13 (place F dataset_mark_at) (omega arith)) (part_at F s [] 21 (place F dataset_at) (omega arith)) in
      let dimensionality = mark_holds whole_bits f.dimensionality (part_at F s [] 14 (place F dimensionality_mark_at) (omega arith)) (part_at F s [] 22 (place F dimensionality_at) (omega arith)) in
      let sample = mark_holds as_bits f.sample (part_at F s [] 15 (place F sample_mark_at) (omega arith)) (part_at F s [] 23 (place F sample_at) (omega arith)) in
      rw (rows, columns, count, dataset, dimensionality, sample)

  groups_hold : groups_permitted F bytes ≡ true
  unfolding groups_permitted
  groups_hold =
      let g = group_count F bytes in
      let n = group_count_back F laid s fit [] in
      ap (λ (k : ℕ). holds_from k 0 (key_permitted F bytes)) n
      ∙ keys_hold F bytes g s.groups 0 p.held.groups p.held.allowed.groups (part_at F s [] 27 (key_at F g 0) (omega arith))

  encoded_permitted : fields_fail F bytes ≡ false
  unfolding fields_fail
  encoded_permitted =
      let area = area_holds laid s.fields s.node s.groups s.nature fit [] in
      let nature = nature_holds laid s.fields s.node s.groups s.nature fit p.held.allowed.values [] in
      rw (bytes_hold, values_hold, groups_hold, area, nature)

  pub encoded_read : Read F (encode F s)
  encoded_read = subst (Read F) (append-nil (encode F s)) (record { sizes = encoded_sized; fields = encoded_permitted })
