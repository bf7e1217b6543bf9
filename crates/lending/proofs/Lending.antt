-- What a step is lent: the category stores, where categories are mapped, combined or united, and two buffers for the derived nature.
--     none_held, no_texts                  left alone decides where it holds no categories, or no texts
--     joined, alone, pooled                whole categories are combined or mapped, categories united
--     texts_joined                         two sheets of texts are joined or united
--     used                                 so that the stores are there
--     lent_alone                           a mapping is lent left's store for both operands
--     range_room                           the buffers have room for a range of every column
--     ends_room_lem, lists_room_lem                the arrays of a range, and of categories, keep to the room of a derived nature
--     texts_room_lem, nature_room_lem              and those of texts, which is no less
--     wider                                what keeps to a room keeps to a greater one
-- Assumes nothing.
use mathlib.Core.Path.{◌≡◌, refl, sym, ap, subst, ◌∙◌}
use mathlib.Core.Bool.{Bool, true, false, cond, ◌&&◌}
use mathlib.Core.List.{List}
use mathlib.Core.Logic.{◌⊎◌, inl, inr}
use Prim.Native.Nat.{ℕ, ◌+◌, ◌*◌, ◌≤◌}
use native.Mathlib.Omega.{arith}
use lib.IntN.{ℤ}
use lib.ListN.{length}
use borrow.Author.Tests.{le-leb, ne_eqb}
use Rattle.base.specs.Form.{Form, Laid, byte_at, nature_at, whole_lists_nature, text_lists_nature}
use Rattle.base.specs.declared.Family.{Family}
use Rattle.base.specs.declared.Family.TheVariants as Fam
use Rattle.base.proofs.Passed.{passed, long_enough}
use Rattle.writer.specs.Written.{ends_room, lists_room, texts_room, Within}
use Rattle.base.specs.Refusals.{Answer}
use Rattle.std.specs.declared.result.Result.TheVariants as D
use Rattle.category_lists.specs.Answers.{Stores, Arrays}
use Rattle.category_lists.specs.Columnwise.{Listed}
use Rattle.lending.specs.Code.{Read, Ready, holds_categories, holds_texts, holds_lists, joins_lists, joins_texts, arrays_room, nature_room, Lent, Buffers}
use lib.Dec.{T, eqb, leb}
use Rattle.base.specs.Components.{is_unary}
use Rattle.writer.specs.declared.Parts.{Parts}

-- a sheet that was read has its fields
pub stands : {F : Form} {s : List ℕ} → Read F s → F.arrays_at ≤ length s
stands {F} {s} r = long_enough (passed F s r.sizes)

module _ {F : Form} {s : List ℕ} (l : Listed F s) where
  listed_long : leb F.arrays_at (length s) ≡ true
  listed_long = le-leb F.arrays_at (length s) (long_enough (passed F s l.passed))

  listed_held : byte_at F nature_at s ≡ whole_lists_nature → holds_lists F s ≡ true
  listed_held e = rw (listed_long, e)

  categories_held : whole_lists_nature ≤ byte_at F nature_at s → holds_categories F s ≡ true
  categories_held e = rw (listed_long, le-leb whole_lists_nature (byte_at F nature_at s) e)

-- whole categories are categories
whole_held : (a : Bool) (k : ℕ) → (a && leb whole_lists_nature k) ≡ false → (a && eqb k whole_lists_nature) ≡ false
whole_held false k e = refl
whole_held true k e = ne_eqb k whole_lists_nature (λ h. absurd (subst T (sym (le-leb whole_lists_nature k (omega (arith, h))) ∙ e) tt))

-- left alone decides where it holds no categories
pub none_held : (m : Family) (F : Form) (left right : List ℕ) → holds_categories F left ≡ false → false ≡ joins_lists m F left right
none_held Fam.Unary F left right e = sym (whole_held (leb F.arrays_at (length left)) (byte_at F nature_at left) e)
none_held Fam.Pair F left right e = rw (whole_held (leb F.arrays_at (length left)) (byte_at F nature_at left) e)
none_held Fam.Copy F left right e = refl
none_held Fam.Pool F left right e = rw e

pub no_texts : (m : Family) (F : Form) (left right : List ℕ) → holds_texts F left ≡ false → false ≡ joins_texts m F left right
no_texts Fam.Unary F left right e = refl
no_texts Fam.Pair F left right e = rw e
no_texts Fam.Copy F left right e = refl
no_texts Fam.Pool F left right e = rw e

-- two sheets of whole categories are combined, one is mapped, and two of categories are united
module _ {m : Family} {F : Form} where
  pub joined : {left right : List ℕ} → m ≡ Fam.Pair → Listed F left → byte_at F nature_at left ≡ whole_lists_nature → Listed F right → byte_at F nature_at right ≡ whole_lists_nature → joins_lists m F left right ≡ true
  joined e l x r y = rw (e, listed_held l x, listed_held r y)

  pub alone : {left : List ℕ} → m ≡ Fam.Unary → Listed F left → byte_at F nature_at left ≡ whole_lists_nature → joins_lists m F left left ≡ true
  alone e l x = rw (e, listed_held l x)

  pub pooled : {left right : List ℕ} → m ≡ Fam.Pool → Listed F left → whole_lists_nature ≤ byte_at F nature_at left → Listed F right → whole_lists_nature ≤ byte_at F nature_at right → joins_lists m F left right ≡ true
  pooled e l x r y = rw (e, categories_held l x, categories_held r y)

-- a sheet of texts that was read holds them
pub texts_held : {F : Form} {s : List ℕ} → Read F s → byte_at F nature_at s ≡ text_lists_nature → holds_texts F s ≡ true
texts_held {F} {s} r e = rw (le-leb F.arrays_at (length s) (stands r), e)

pub texts_joined : {m : Family} (F : Form) (left right : List ℕ) → (m ≡ Fam.Pair) ⊎ (m ≡ Fam.Pool) → holds_texts F left ≡ true → holds_texts F right ≡ true → joins_texts m F left right ≡ true
texts_joined F left right (inl e) l r = rw (e, l, r)
texts_joined F left right (inr e) l r = rw (e, l, r)

pub used :
    {m : Family} {F : Form} {left right : List ℕ} → joins_lists m F left right ≡ true
    → {us bs store : List ℤ} {hints first second : List ℕ} → Lent m F left right us bs store hints first second → Stores F us bs store hints × Arrays F first second
used e lent = (lent.stores e, lent.arrays e)

pub lists_room_lem : (m : Family) (F : Form) (left right : List ℕ) → joins_lists m F left right ≡ true → arrays_room m F left right ≡ lists_room F
lists_room_lem m F left right e = ap (λ (b : Bool). cond b (lists_room F) (ends_room F)) e

pub texts_room_lem : (m : Family) (F : Form) (left right : List ℕ) → joins_texts m F left right ≡ true → nature_room m F left right ≡ texts_room F
texts_room_lem m F left right e = ap (λ (b : Bool). cond b (texts_room F) (arrays_room m F left right)) e

-- where it reads one operand
pub lent_alone :
    {F : Form} {left right first second out : List ℕ} {us bs store : List ℤ} {hints : List ℕ} (m : Family) → m ≡ Fam.Unary
    → Buffers m F left right first second out × Lent m F left right us bs store hints first second
    → Buffers m F left left first second out × Lent m F left left us us store hints first second
lent_alone Fam.Unary e p = (
  record { first_room = p.0.first_room; second_room = p.0.second_room; sheet_room = p.0.sheet_room },
  record {
    stores = λ h. let s = p.1.stores h in record { lefts = s.lefts; rights = s.lefts; results = s.results; hinted = s.hinted };
    arrays = p.1.arrays;
    texts = λ h. absurd (subst T (sym h) tt);
  },
)
lent_alone Fam.Pair e p = absurd (subst T (sym (ap is_unary e)) tt)
lent_alone Fam.Copy e p = absurd (subst T (sym (ap is_unary e)) tt)
lent_alone Fam.Pool e p = absurd (subst T (sym (ap is_unary e)) tt)

pub range_room :
    {F : Form} {columns : ℕ} {first second : List ℕ} → Ready F columns first second → Laid F → (9 * columns ≤ length first) × (9 * columns ≤ length second)
range_room ready laid = let listed = laid.columns_listed in omega arith

least : (b : Bool) {x y : ℕ} → y ≤ x → y ≤ cond b x y
least true h = h
least false h = omega arith

pub ends_room_lem : {F : Form} → Laid F → (m : Family) (left right : List ℕ) → ends_room F ≤ arrays_room m F left right
ends_room_lem {F} laid m left right = least (joins_lists m F left right) laid.ranges_shorter

most : (b c : Bool) {x y z : ℕ} → x ≤ z → y ≤ x → cond b x y ≤ cond c z (cond b x y)
most true true h k = h
most false true h k = omega arith
most b false h k = omega arith

pub nature_room_lem : {F : Form} → Laid F → (m : Family) (left right : List ℕ) → arrays_room m F left right ≤ nature_room m F left right
nature_room_lem {F} laid m left right = most (joins_lists m F left right) (joins_texts m F left right) (omega arith) laid.ranges_shorter

pub wider : (F : Form) {a b : ℕ} (first second : List ℕ) → a ≤ b → (d : Answer Parts) → Within F a first second d → Within F b first second d
wider F first second h (D.Ok p) z = record { entries = z.entries; values = z.values; text = z.text; first_held = z.first_held; second_held = z.second_held; both = omega arith }
wider F first second h (D.Err k) z = tt
