-- What a sheet that passed 3 is known to be.
--     passed, sized    its sizes are within their limits, and its length is the one called for
--     groups_fit, range_fits, lists_fit    its arrays stand in it; area_ends: the text area stands behind them, up to its end
--     passing          what readers ask of it, for the search
--     passed_all, read_passed, read_ok     where the code is 0, no check of 3 to 5 failed, and what is read is what is decoded
-- Assumes nothing.
use mathlib.Core.Path.{◌≡◌, refl, sym, ap}
use mathlib.Core.Bool.{Bool, true, false, cond, not, ◌||◌}
use mathlib.Core.List.{List}
use Prim.Native.Nat.{ℕ, ◌+◌, ◌*◌, ◌≤◌}
use native.Mathlib.Omega.{arith}
use lib.ListN.{length}
use lib.Dec.{eqb, ltb}
use borrow.Author.Tests.{ltb-false, eqb-true, not-false}
use Rattle.numbers.specs.Result.{Result, ok, refused, checked}
use Rattle.base.specs.Form.{Form, nature_at, byte_at, is_range_nature, group_count, list_count, category_count, area_at, area_size, entries_at, length_called_for}
use Rattle.base.specs.Decode.{decode, nature_in}
use Rattle.base.specs.Checks.{sizes_fail, fields_fail, bounds_fail, read}
use Rattle.base.specs.Code.{code_of}
use Rattle.base.specs.Sized.{SizesIn, Sized, GroupsFit, RangeFits, ListsFit}
use Rattle.base.specs.declared.Sizes.{Sizes}
use Rattle.base.proofs.Flags.{or_no}

module _ (F : Form) (s : List ℕ) where
  pub passed : sizes_fail F s ≡ false → Sized F s (group_count F s) (list_count F s) (category_count F s)
  unfolding sizes_fail
  passed e =
      let short = ltb (length s) F.arrays_at in
      let g = ltb F.group_limit (group_count F s) in
      let n = ltb F.list_limit (list_count F s) in
      let t = ltb F.category_limit (category_count F s) in
      let x = ltb F.text_limit (area_size F s) in
      let l = eqb (length s) (length_called_for F s) in
      let d = or_no (short || g || n || t || x) (not l) e in
      let y = or_no (short || g || n || t) x d.0 in
      let c = or_no (short || g || n) t y.0 in
      let b = or_no (short || g) n c.0 in
      let a = or_no short g b.0 in
      record {
        groups = refl;
        lists = refl;
        categories = refl;
        groups_within = ltb-false F.group_limit (group_count F s) a.1;
        lists_within = ltb-false F.list_limit (list_count F s) b.1;
        categories_within = ltb-false F.category_limit (category_count F s) c.1;
        text_within = ltb-false F.text_limit (area_size F s) y.1;
        exact = eqb-true (length s) (length_called_for F s) (not-false l d.1);
      }

  -- the same, of the sizes that were read
  pub sized : {r : Sizes} → sizes_fail F s ≡ false → SizesIn F s r → Sized F s r.groups r.lists r.categories
  sized e a =
      let z = passed e in
      record {
        groups = a.groups;
        lists = a.lists;
        categories = a.categories;
        groups_within = omega arith;
        lists_within = omega arith;
        categories_within = omega arith;
        text_within = z.text_within;
        exact = z.exact;
      }

module _ {F : Form} {s : List ℕ} {g n t : ℕ} (z : Sized F s g n t) where
  pub long_enough : F.arrays_at ≤ length s
  long_enough = let e = z.exact in omega arith

  pub groups_fit : GroupsFit F s g
  groups_fit = let e = z.exact in record { groups = z.groups; groups_within = z.groups_within; room = omega arith }

  -- the length called for, by whether the nature is a range
  called : (b : Bool) → is_range_nature (byte_at F nature_at s) ≡ b → length s ≡ entries_at F g + cond b (18 * n) ((F.number_width + 8) * t) + area_size F s
  called b e = rw (z.groups, z.lists, z.categories, ← e) z.exact

  pub range_fits : is_range_nature (byte_at F nature_at s) ≡ true → RangeFits F s g n
  range_fits r =
      let e = called true r in
      record { groups = z.groups; lists = z.lists; groups_within = z.groups_within; lists_within = z.lists_within; room = omega arith }

  pub lists_fit : is_range_nature (byte_at F nature_at s) ≡ false → ListsFit F s g n t
  lists_fit r =
      let e = called false r in
      record {
        groups = z.groups;
        lists = z.lists;
        categories = z.categories;
        groups_within = z.groups_within;
        lists_within = z.lists_within;
        categories_within = z.categories_within;
        room = omega arith;
      }

  pub area_ends : is_range_nature (byte_at F nature_at s) ≡ false → length s ≡ area_at F g t + area_size F s
  area_ends r = called false r

module _ (F : Form) (s : List ℕ) (e : sizes_fail F s ≡ false) where
  pub passed_long : F.arrays_at ≤ length s
  passed_long = long_enough (passed F s e)

  pub passed_groups : {r : Sizes} → SizesIn F s r → GroupsFit F s r.groups
  passed_groups a = groups_fit (sized F s e a)

-- by these `search` proves what is asked of a sheet that passed 3, but for the arrays of its nature
pub ruleset passing = (passed_long, passed_groups)

-- ---- checks 3 to 5 in a row

-- no check of 3 to 5 fails
pub record Passed (F : Form) (s : List ℕ) : Type 0 where
  pub sizes : sizes_fail F s ≡ false
  pub fields : fields_fail F s ≡ false
  pub bounds : bounds_fail (nature_in F s) ≡ false

module _ (F : Form) (s : List ℕ) where
  pub passed_all : code_of (read F s) ≡ 0 → Passed F s
  unfolding read checked
  passed_all e = go (sizes_fail F s) (fields_fail F s) (bounds_fail (nature_in F s)) refl refl refl e
    where
      go : (a b c : Bool) → sizes_fail F s ≡ a → fields_fail F s ≡ b → bounds_fail (nature_in F s) ≡ c
          → code_of (cond a (refused 3) (cond b (refused 4) (cond c (refused 5) (ok (decode F s))))) ≡ 0 → Passed F s
      go true b c x y z e = absurd (omega arith)
      go false true c x y z e = absurd (omega arith)
      go false false true x y z e = absurd (omega arith)
      go false false false x y z e = record { sizes = x; fields = y; bounds = z }

  pub read_passed : Passed F s → read F s ≡ ok (decode F s)
  unfolding read checked
  read_passed p = rw (p.sizes, p.fields, p.bounds)

  pub read_ok : code_of (read F s) ≡ 0 → read F s ≡ ok (decode F s)
  read_ok e = read_passed (passed_all e)

-- a code that is not 0 is the refusal's
pub refused_code : {X : Type 0} (r : Result X) {k : ℕ} → k ≡ code_of r → (k ≡ 0 → ⊥) → r ≡ refused k
refused_code (ok x) {k} e h = absurd (h e)
refused_code (refused m) e h = ap refused (sym e)
