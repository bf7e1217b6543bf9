-- Bytes that pass 4 decode to a sheet whose values 4 permits. Assumes nothing.
use mathlib.Core.Path.{◌≡◌, refl}
use mathlib.Core.Bool.{Bool, true, false, cond, not, ◌&&◌, ◌||◌}
use mathlib.Core.List.{List}
use mathlib.Core.Option.{Option, none, some}
use Prim.Native.Nat.{ℕ, zero, suc, ◌+◌, ◌≤◌, ◌<◌}
use native.Mathlib.Omega.{arith}
use lib.Dec.{eqb, leb, ltb}
use lib.ListN.{get_or}
use borrow.Author.Tests.{eq-eqb, eqb-true, ltb-true, leb-true}
use Rattle.octets.specs.Le.{le_at}
use Rattle.octets.proofs.Reread.{AllBytes}
use Rattle.base.specs.Form.{Form, group_count, list_count, category_count, byte_at, nature_at, type_at, last_type, whole_range_nature, float_range_nature, whole_lists_nature, bool_lists_nature, float_lists_nature, text_lists_nature, bool_key, last_key, key_at}
use Rattle.base.specs.Sheet.{whole_range, float_range, whole_lists, bool_lists, float_lists, text_lists, absent}
use Rattle.base.specs.Decode.{as_whole, as_float, as_bits, prepended, group_at, list_number, category_at, list_at, entries, lists, text_in, nature_in, fields_in, groups_in, decode}
use Rattle.base.specs.Checks.{fields_fail, key_permitted, groups_permitted, lists_permitted, nature_permitted}
use Rattle.base.proofs.Flags.{and_both}
use Rattle.base.proofs.Groups.{whole_bits_copied}
use Rattle.base.proofs.Holding.{holds_within}
use Rattle.base.proofs.Permitted.{Permitted, permitted, columns_within_lem, lists_tested, bool_small}
use Rattle.round_trip.specs.WellFormed.{Each, Present}
use Rattle.round_trip.proofs.Heads.{clean}
use Rattle.derived.specs.Held.{KeyAllowed, ValuesAllowed, Allowed}
use Rattle.derived.proofs.Each.{each_below}

module _ (F : Form) (s : List ℕ) where
  key_allowed : AllBytes s → (i : ℕ) → key_permitted F s i ≡ true → KeyAllowed (group_at F s (group_count F s) i)
  key_allowed small i e =
      let at = key_at F (group_count F s) i in
      let k = get_or s at 0 in
      let v = le_at 8 (at + 1) s in
      let z = and_both (ltb 0 k && leb k last_key) (not (eqb k bool_key) || leb v 1) e in
      let y = and_both (ltb 0 k) (leb k last_key) z.0 in
      record {
        some_kind = ltb-true 0 k y.0;
        last_kind = leb-true k last_key y.1;
        bool = λ b. rw (whole_bits_copied s small (at + 1)) (leb-true v 1 (rw (eq-eqb k bool_key b) at z.1));
      }

  groups_allowed : AllBytes s → groups_permitted F s ≡ true → Each KeyAllowed (groups_in F s)
  unfolding groups_permitted groups_in
  groups_allowed small e =
      each_below KeyAllowed (group_at F s (group_count F s)) (group_count F s) 0 (λ i low high. key_allowed small i (holds_within (key_permitted F s) (group_count F s) 0 i e low high))

  -- of the k categories from number i on, those of list j
  list_allowed :
      (g t j k i : ℕ) → ((n : ℕ) → i ≤ n → n < i + k → category_at F s g t n ≤ 1) → Each (λ v. v ≤ 1) (list_at F s as_bits g t j k i)
  unfolding list_at
  list_allowed g t j zero i h = tt
  list_allowed g t j (suc k) i h = go (eqb (list_number F s g i) j) (list_allowed g t j k (i + 1) (λ n low high. h n (omega arith) (omega arith)))
    where
      go : (b : Bool) → Each (λ v. v ≤ 1) (list_at F s as_bits g t j k (i + 1)) → Each (λ v. v ≤ 1) (prepended b (category_at F s g t i) (list_at F s as_bits g t j k (i + 1)))
      go true p = (h i (omega arith) (omega arith), p)
      go false p = p

  bools_allowed : lists_permitted F s ≡ true → byte_at F nature_at s ≡ bool_lists_nature → Each (Each (λ v. v ≤ 1)) (lists F s as_bits)
  unfolding lists
  bools_allowed e b =
      let g = group_count F s in
      let t = category_count F s in
      each_below (Each (λ v. v ≤ 1)) (λ j. list_at F s as_bits g t j t 0) (list_count F s) 0
      (λ j low high. list_allowed g t j t 0 (λ i low high. bool_small F s e b i (omega arith)))

  nature_allowed : nature_permitted F s ≡ true → ValuesAllowed (nature_in F s)
  unfolding nature_in
  nature_allowed e =
      let k = byte_at F nature_at s in
      go (eqb k whole_range_nature) (eqb k float_range_nature) (eqb k whole_lists_nature) (eqb k bool_lists_nature) (eqb k float_lists_nature) (eqb k text_lists_nature)
      (λ h. let b = eqb-true k bool_lists_nature h in bools_allowed (lists_tested F s e (rw b) (rw b)) b)
    where
      go : (a b c d e x : Bool) → (d ≡ true → Each (Each (λ v. v ≤ 1)) (lists F s as_bits))
          → ValuesAllowed (cond a (whole_range (entries F s as_whole)) (cond b (float_range (entries F s as_float)) (cond c (whole_lists (lists F s as_whole))
          (cond d (bool_lists (lists F s as_bits)) (cond e (float_lists (lists F s as_bits)) (cond x (text_lists (lists F s (text_in F s))) absent))))))
      go true b c d e x h = tt
      go false true c d e x h = tt
      go false false true d e x h = tt
      go false false false true e x h = h refl
      go false false false false true x h = tt
      go false false false false false true h = tt
      go false false false false false false h = tt

  pub decoded_allowed : AllBytes s → fields_fail F s ≡ false → Allowed (decode F s)
  unfolding decode fields_in
  decoded_allowed small e =
      let p = permitted F s e in
      record {
        data_type = leb-true (byte_at F type_at s) last_type (clean F s p).type;
        columns = columns p (fields_in F s).columns refl;
        groups = groups_allowed small p.groups;
        values = nature_allowed p.nature;
      }
    where
      columns : Permitted F s → (o : Option ℕ) → (fields_in F s).columns ≡ o → Present (λ n. 0 < n) o
      columns p none e = tt
      columns p (some c) e = (columns_within_lem F s p e).0
