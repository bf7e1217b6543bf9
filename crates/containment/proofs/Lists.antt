-- Categories over the columns: list j of the answer has the exact result of any members of the operands' lists for column j. Assumes nothing.
use mathlib.Core.Path.{◌≡◌, refl, sym, ap, subst, ◌∙◌}
use mathlib.Core.Bool.{Bool, true, false, cond}
use mathlib.Core.List.Memᴰ
use mathlib.Core.List.{List, [], ◌∷◌, ◌++◌, map, Memᴰ}
use mathlib.Core.Logic.{inl, inr, ⊎_elim}
use mathlib.Core.Option.{some}
use Prim.Native.Nat.{ℕ, zero, suc, ◌<◌}
use lib.Dec.{ltb}
use lib.IntN.{ℤ}
use lib.ListN.{length, length-map, get_elem?}
use Rattle.numbers.specs.Kind.{eq_z}
use Rattle.numbers.specs.Result.{Result, ok, refused}
use Rattle.numbers.proofs.Choices.{eq_z_true}
use Rattle.numbers.proofs.Results.{ok_same, never, then_ok_inv}
use Rattle.utilities.specs.Lists.{firsts, standardized}
use Rattle.utilities.specs.Columns.{each, each_pair}
use Rattle.utilities.proofs.Members.{Equals, firsts_all}
use Rattle.base.specs.Form.{Form}
use Rattle.base.specs.Encode.{value_count, text_size}
use Rattle.base.specs.Sheet.{Nature, whole_lists}
use Rattle.base.specs.declared.Component.{Component}
use Rattle.base.specs.declared.Component.TheVariants as C
use Rattle.category_lists.specs.Categories.{category_rule, pairs, product, image, mapped, union, kept_to, text_kept, kept, limited}
use Rattle.derived.proofs.Answers.{some_same}
use Rattle.containment.specs.Exact.{Side, exact}
use Rattle.containment.specs.Demand.{entry_for, InList, OneOrPerColumn}
use Rattle.containment.proofs.Spans.{taken_is}
use Rattle.containment.proofs.Rules.{rule_exact}
use Rattle.containment.proofs.Columns.{Columnwise, column_keeps, spread_columns, each_twice}

-- ---- no value of a rule is lost

-- g gave a value, which is a member
abbrev pub Found : {X : Type 0} → Result X → List X → Type 0
Found {X} g cs = (v : X) × (g ≡ ok v) × Memᴰ v cs

in_list : {X : Type 0} {v : X} {l m : List X} → l ≡ m → Memᴰ v l → Memᴰ v m
in_list {X} {v} e h = subst (λ (l : List X). Memᴰ v l) e h

each_found : {X Y : Type 0} (f : X → Result Y) (a : X) (us : List X) {cs : List Y} → each f us ≡ ok cs → Memᴰ a us → Found (f a) cs
unfolding each
each_found f a [] e m = elim m [ ]
each_found f a (u ∷ us) e (Memᴰ.head h) =
    let s = then_ok_inv (f u) _ e in
    let t = then_ok_inv (each f us) _ s.after in
    (s.value, ap f h ∙ s.is, in_list (ok_same t.after) (Memᴰ.head refl))
each_found f a (u ∷ us) e (Memᴰ.tail m) =
    let s = then_ok_inv (f u) _ e in
    let t = then_ok_inv (each f us) _ s.after in
    let r = each_found f a us t.is m in
    (r.0, r.1, in_list (ok_same t.after) (Memᴰ.tail r.2))

pairs_found : {X : Type 0} (rule : X → X → Result X) (a b : X) (us bs : List X) {cs : List X}
    → pairs rule us bs ≡ ok cs → Memᴰ a us → Memᴰ b bs → Found (rule a b) cs
unfolding pairs
pairs_found rule a b [] bs e m n = elim m [ ]
pairs_found {X} rule a b (u ∷ us) bs e (Memᴰ.head h) n =
    let s = then_ok_inv (each (rule u) bs) _ e in
    let t = then_ok_inv (pairs rule us bs) _ s.after in
    let r = each_found (rule u) b bs s.is n in
    (r.0, ap (λ (x : X). rule x b) h ∙ r.1, in_list (ok_same t.after) (Memᴰ.append_left t.value r.2))
pairs_found rule a b (u ∷ us) bs e (Memᴰ.tail m) n =
    let s = then_ok_inv (each (rule u) bs) _ e in
    let t = then_ok_inv (pairs rule us bs) _ s.after in
    let r = pairs_found rule a b us bs t.is m n in
    (r.0, r.1, in_list (ok_same t.after) (Memᴰ.append_right s.value r.2))

module _ {X : Type 0} (same : X → X → Bool) (equal : Equals same) where
  -- nor by keeping first occurrences only
  found_once : {g : Result X} {cs ds : List X} → ok (firsts same cs) ≡ ok ds → Found g cs → Found g ds
  found_once {cs} e f = (f.0, f.1, in_list (ok_same e) (firsts_all same equal f.0 cs f.2))

  pub product_found : (rule : X → X → Result X) (a b : X) (us bs : List X) {cs : List X}
      → product same rule us bs ≡ ok cs → Memᴰ a us → Memᴰ b bs → Found (rule a b) cs
  unfolding product
  product_found rule a b us bs e m n =
      let s = then_ok_inv (pairs rule us bs) _ e in
      found_once s.after (pairs_found rule a b us bs s.is m n)

  pub image_found : (rule : X → X → Result X) (a : X) (us : List X) {cs : List X} → image same rule us ≡ ok cs → Memᴰ a us → Found (rule a a) cs
  unfolding image
  image_found rule a us e m =
      let s = then_ok_inv (each (λ a. rule a a) us) _ e in
      found_once s.after (each_found (λ a. rule a a) a us s.is m)

  -- the operand's lists lose only repeats
  elem_firsts : (ls : List (List X)) (j : ℕ) (a : X) → InList (get_elem? ls j) a → InList (get_elem? (map (firsts same) ls) j) a
  elem_firsts [] j a m = tt
  elem_firsts (l ∷ ls) zero a m = firsts_all same equal a l m
  elem_firsts (l ∷ ls) (suc j) a m = elem_firsts ls j a m

  entry_firsts : (ls : List (List X)) (j : ℕ) (a : X) → InList (entry_for ls j) a → InList (entry_for (map (firsts same) ls) j) a
  unfolding entry_for
  entry_firsts [] j a m = tt
  entry_firsts (l ∷ []) j a m = firsts_all same equal a l m
  entry_firsts (l ∷ k ∷ ls) j a m = elem_firsts (l ∷ k ∷ ls) j a m

-- ---- over the columns

module _ {X : Type 0} (same : X → X → Bool) where
  same_count : (ls : List (List X)) (columns : ℕ) → OneOrPerColumn ls columns → OneOrPerColumn (map (firsts same) ls) columns
  same_count ls columns = ⊎_elim (λ h. inl (length-map ls (firsts same) ∙ h)) (λ h. inr (length-map ls (firsts same) ∙ h))

  -- an operation on the operands' lists of each column
  module _ (op : List X → List X → Result (List X)) (columns : ℕ) (ls ms ns : List (List X)) (o : OneOrPerColumn ls columns) (p : OneOrPerColumn ms columns)
      (e : each_pair op (standardized same columns ls) (standardized same columns ms) ≡ ok ns) where
    paired_columns : Columnwise op columns (map (firsts same) ls) (map (firsts same) ms) ns
    unfolding standardized
    paired_columns = spread_columns op columns (map (firsts same) ls) (map (firsts same) ms) (same_count ls columns o) (same_count ms columns p) e

    pub paired_many : length ns ≡ columns
    paired_many = paired_columns.many

    -- v is in every list that the operation makes of lists with a and b
    pub paired_keeps : Equals same → (a b v : X) → ((x y z : List X) → op x y ≡ ok z → Memᴰ a x → Memᴰ b y → Memᴰ v z)
        → (j : ℕ) → j < columns → InList (entry_for ls j) a → InList (entry_for ms j) b → InList (entry_for ns j) v
    paired_keeps equal a b v law j h m n =
        column_keeps (λ k. InList k a) (λ k. InList k b) (λ k. InList k v) law (paired_columns.at j h) (entry_firsts same equal ls j a m) (entry_firsts same equal ms j b n)

  -- mapped lists, by an operation that reads the left alone
  pub mapped_paired : (rule : X → X → Result X) (columns : ℕ) (ls : List (List X)) {ns : List (List X)} → mapped same rule columns ls ≡ ok ns
      → each_pair (λ l m. image same rule l) (standardized same columns ls) (standardized same columns ls) ≡ ok ns
  unfolding mapped
  mapped_paired rule columns ls e = sym (each_twice (λ l m. image same rule l) (standardized same columns ls)) ∙ e

-- what was found is the exact result
pub found_exact : (side : Side) (c : Component) (type : ℕ) (rule : ℤ → ℤ → Result ℤ) (a b v : ℤ) (l : List ℤ)
    → category_rule c type ≡ some rule → Found (rule a b) l → exact side c a b ≡ some v → Memᴰ v l
found_exact side c type rule a b v l e f w = Memᴰ.cast (some_same (sym w ∙ rule_exact side a b c type e f.1)) f.2

-- whichever side is taken is among left's and right's
pub union_exact : (side : Side) (a b v : ℤ) (x y : List ℤ) {z : List ℤ} → union eq_z x y ≡ ok z
    → Memᴰ a x → Memᴰ b y → exact side C.Pool a b ≡ some v → Memᴰ v z
unfolding union exact
union_exact side a b v x y e m n w =
    let t = taken_is a b (λ n. Memᴰ n (x ++ y)) side (Memᴰ.append_left y m) (Memᴰ.append_right x n) in
    in_list (ok_same e) (firsts_all eq_z eq_z_true v (x ++ y) (Memᴰ.cast (some_same (sym w)) t))

-- ---- 26 and 28 change nothing of what they pass

passed_ok : (t : Bool) (number : ℕ) (k : Nature) {n : Nature} → cond t (refused number) (ok k) ≡ ok n → k ≡ n
passed_ok true number k e = absurd (never (sym e))
passed_ok false number k e = ok_same e

kept_to_ok : (limit : ℕ) (k : Nature) {n : Nature} → kept_to limit k ≡ ok n → k ≡ n
unfolding kept_to
kept_to_ok limit k e = passed_ok (ltb limit (value_count k)) 26 k e

text_kept_ok : (limit : ℕ) (k : Nature) {n : Nature} → text_kept limit k ≡ ok n → k ≡ n
unfolding text_kept
text_kept_ok limit k e = passed_ok (ltb limit (text_size k)) 28 k e

pub kept_ok : (F : Form) (k : Nature) {n : Nature} → kept F k ≡ ok n → k ≡ n
kept_ok F k e =
    let s = then_ok_inv (kept_to F.category_limit k) (text_kept F.text_limit) e in
    kept_to_ok F.category_limit k s.is ∙ text_kept_ok F.text_limit s.value s.after

pub limited_ok : (limit : ℕ) (g : Result (List (List ℤ))) {k : Nature} → limited limit g ≡ ok k → (ls : List (List ℤ)) × (g ≡ ok ls) × (whole_lists ls ≡ k)
limited_ok limit g e = let s = then_ok_inv g _ e in (s.value, s.is, kept_to_ok limit (whole_lists s.value) s.after)
