-- What a sheet that passed 4 is known to be.
--     permitted         each part of check 4 holds
--     nature_within     the nature's number is one of a nature
--     columns_within_lem    a column count that is present is within its limits
--     lists_tested, bool_small    lists have been tested, and the values of bool lists are 0 or 1
-- Assumes nothing.
use mathlib.Core.Path.{◌≡◌, refl, sym, subst, ◌∙◌}
use mathlib.Core.Bool.{Bool, true, false, cond, not, ◌&&◌, ◌||◌}
use mathlib.Core.List.{List}
use mathlib.Core.Option.{Option, none, some}
use Prim.Native.Nat.{ℕ, ◌≤◌, ◌<◌}
use native.Mathlib.Omega.{arith}
use lib.Dec.{T, eqb, ltb, leb}
use borrow.Author.Tests.{ltb-true, leb-true, not-false}
use Rattle.octets.specs.Le.{le_at}
use Rattle.base.specs.Form.{Form, nature_at, last_nature, bool_lists_nature, is_range_nature, group_count, category_count, place, byte_at, columns_mark_at, columns_at, rows_mark_at, rows_at, dataset_mark_at, dataset_at, dimensionality_mark_at, dimensionality_at, sample_mark_at, sample_at}
use Rattle.base.specs.Decode.{category_at, option_at, fields_in}
use Rattle.base.specs.Checks.{bytes_permitted, values_permitted, field_permitted, columns_permitted, groups_permitted, area_permitted, number_permitted, value_permitted, lists_permitted, nature_permitted, fields_fail}
use Rattle.base.proofs.Flags.{and_both}
use Rattle.base.proofs.Holding.{holds_within}

pub record Permitted (F : Form) (s : List ℕ) : Type 0 where
  pub bytes : bytes_permitted F s ≡ true
  pub values : values_permitted F s ≡ true
  pub groups : groups_permitted F s ≡ true
  pub area : area_permitted F s ≡ true
  pub nature : nature_permitted F s ≡ true

module _ (F : Form) (s : List ℕ) where
  pub permitted : fields_fail F s ≡ false → Permitted F s
  unfolding fields_fail
  permitted e =
      let b = bytes_permitted F s in
      let v = values_permitted F s in
      let g = groups_permitted F s in
      let a = area_permitted F s in
      let n = nature_permitted F s in
      let z = and_both (b && v && g && a) n (not-false (b && v && g && a && n) e) in
      let w = and_both (b && v && g) a z.0 in
      let y = and_both (b && v) g w.0 in
      let x = and_both b v y.0 in
      record { bytes = x.0; values = x.1; groups = y.1; area = w.1; nature = z.1 }

  pub nature_within : Permitted F s → byte_at F nature_at s ≤ last_nature
  unfolding bytes_permitted
  nature_within p = go (leb (byte_at F nature_at s) last_nature) refl
    where
      go : (t : Bool) → leb (byte_at F nature_at s) last_nature ≡ t → byte_at F nature_at s ≤ last_nature
      go true e = leb-true (byte_at F nature_at s) last_nature e
      go false e =
          let fails : bytes_permitted F s ≡ false = rw e in
          absurd (subst T (sym p.bytes ∙ fails) tt)

  columns_hold : values_permitted F s ≡ true → columns_permitted F s ≡ true
  unfolding values_permitted
  columns_hold e =
      let r = field_permitted F s rows_mark_at rows_at in
      let c = field_permitted F s columns_mark_at columns_at in
      let k = columns_permitted F s in
      let d = field_permitted F s dataset_mark_at dataset_at in
      let m = field_permitted F s dimensionality_mark_at dimensionality_at in
      let p = field_permitted F s sample_mark_at sample_at in
      (and_both (r && c) k (and_both (r && c && k) d (and_both (r && c && k && d) m (and_both (r && c && k && d && m) p e).0).0).0).1

  pub columns_within_lem : Permitted F s → {c : ℕ} → (fields_in F s).columns ≡ some c → (0 < c) × (c ≤ F.column_limit)
  unfolding fields_in option_at
  columns_within_lem p e = go (eqb (byte_at F columns_mark_at s) 0) (columns_hold p.values) e
    where
      go : (t : Bool) {c : ℕ} → (t || (ltb 0 (le_at 8 (place F columns_at) s) && leb (le_at 8 (place F columns_at) s) F.column_limit)) ≡ true
          → cond t none (some (le_at 8 (place F columns_at) s)) ≡ some c → (0 < c) × (c ≤ F.column_limit)
      go true h e = absurd (nothing e)
        where
          nothing : {c : ℕ} → ◌≡◌ {A = Option ℕ} none (some c) → ⊥
          nothing e = let z : ◌≡◌ {A = ℕ} 0 1 = cc in omega arith
      go false {c} h e =
          let n = le_at 8 (place F columns_at) s in
          let same : n ≡ c = cc in
          let b = and_both (ltb 0 n) (leb n F.column_limit) h in
          let low = ltb-true 0 n b.0 in
          let high = leb-true n F.column_limit b.1 in
          (omega arith, omega arith)

-- ---- category lists

module _ (F : Form) (s : List ℕ) where
  pub lists_tested : nature_permitted F s ≡ true → eqb (byte_at F nature_at s) 0 ≡ false → is_range_nature (byte_at F nature_at s) ≡ false → lists_permitted F s ≡ true
  unfolding nature_permitted
  lists_tested e present no_range = rw (present, no_range) at e

  -- 01: "bool 0 or 1"
  pub bool_small : lists_permitted F s ≡ true → byte_at F nature_at s ≡ bool_lists_nature → (i : ℕ) → i < category_count F s → category_at F s (group_count F s) (category_count F s) i ≤ 1
  unfolding lists_permitted
  bool_small e bools i h =
      let test : ℕ → Bool = λ i. number_permitted F s i && value_permitted F s i in
      let v = (and_both (number_permitted F s i) (value_permitted F s i) (holds_within test (category_count F s) 0 i e (omega arith) (omega arith))).1 in
      leb-true (category_at F s (group_count F s) (category_count F s) i) 1 (rw bools at v)
