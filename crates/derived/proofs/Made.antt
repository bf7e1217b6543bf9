-- The nature that a component derives keeps to the form's limits, and its numbers fit their places; or a number of 01's refuses.
--     unary_kept, binary_kept    of all components but Pool: `Kept` to the limits of categories and of text
--     pool_made, made_kept       of Pool: `Made` however many they are, and then kept to the limits
-- Assumes nothing.
use mathlib.Core.Path.{◌≡◌, refl, subst}
use mathlib.Core.Bool.{Bool, true, false, cond}
use mathlib.Core.List.{List, [], ◌∷◌, ◌++◌, map}
use mathlib.Core.Option.{Option, none, some}
use Prim.Native.Nat.{ℕ, ◌^◌, ◌≤◌}
use native.Mathlib.Nat.{mod-lt}
use native.Mathlib.Omega.{arith}
use lib.Dec.{eqb, ltb}
use lib.Ieee.{Float}
use lib.IntN.{ℤ, pos, negsuc, nat_abs, pow}
use lib.ListN.{length, length-map}
use lib.Signed.{mag}
use borrow.Author.Tests.{ltb-true, ltb-false, eqb-false}
use Rattle.numbers.specs.Result.{Result, ok, refused, and_then}
use Rattle.numbers.specs.Checked.{in_range}
use Rattle.numbers.specs.Kind.{Span, whole, float, eq_z}
use Rattle.utilities.specs.Lists.{firsts, repeated, standardized}
use Rattle.utilities.specs.Columns.{each, each_pair}
use Rattle.base.specs.Form.{Form, Laid, int_type}
use Rattle.base.specs.Sheet.{Nature, absent, whole_range, float_range, whole_lists, bool_lists, float_lists, text_lists}
use Rattle.base.specs.Encode.{entry_count, value_count, text_size}
use Rattle.base.specs.declared.Component.{Component}
use Rattle.base.specs.declared.Component.TheVariants as C
use Rattle.ends.specs.Ends.{end_rule}
use Rattle.ends.specs.Ranges.{whole_rule, range_pair, range_alone}
use Rattle.category_lists.specs.Categories.{remainder, mod_whole, power_whole, category_rule, ruled, text_rule, same_text, pairs, product, combined, image, mapped, union, united, kept_to, text_kept, kept, limited}
use Rattle.calls.specs.Natures.{whole_lists_of, bool_lists_of, text_lists_of, united_nature, lists_united, combined_nature, lists_pair, lists_alone, two_natures, binary_nature, pool_nature, unary_nature}
use Rattle.round_trip.specs.WellFormed.{Each, Whole, Double, Bits, Byte, SpanFits, NatureFits}
use Rattle.derived.specs.Held.{ValuesAllowed}
use Rattle.derived.proofs.Answers.{checked_rest}
use Rattle.derived.proofs.Each.{each_append, each_repeated, each_weaken, each_firsts, each_map, repeated_within, each_length, pair_length}
use Rattle.derived.proofs.Gives.{Gives, gives_more, gives_then, gives_checked, each_gives, pair_gives}
use Rattle.derived.proofs.Natures.{two_natures_lem}
use Rattle.derived.proofs.Fitted.{Any, any_divides, fitting_fits, whole_fits, float_fits, rule_fits, whole_rule_fits}

-- ---- a rule on whole categories

whole_nat_abs : (b : ℤ) → Whole b → nat_abs b ≤ 2 ^ 63
whole_nat_abs (pos n) h = let k = h.sfits in omega arith
whole_nat_abs (negsuc n) h = let k = h.sfits in omega arith

remainder_fits : (a b : ℤ) → Whole b → (nat_abs b ≡ 0 → ⊥) → Whole (remainder a b)
remainder_fits (pos n) b h z =
    let k = whole_nat_abs b h in
    let m = mod-lt n {m = nat_abs b} (omega arith) in
    record { sfits = omega arith }
remainder_fits (negsuc n) b h z =
    let k = whole_nat_abs b h in
    record { sfits = omega arith }

mod_fits : (a b : ℤ) → Whole b → Gives Whole (mod_whole a b)
mod_fits a b h = go (eqb (nat_abs b) 0) refl
  where
    go : (t : Bool) → eqb (nat_abs b) 0 ≡ t → Gives Whole (cond t (refused 24) (ok (remainder a b)))
    go true e = omega arith
    go false e = remainder_fits a b h (eqb-false (nat_abs b) 0 e)

power_fits : (a b : ℤ) → Gives Whole (power_whole a b)
power_fits a (pos n) = go (in_range (pow a n)) refl
  where
    go : (t : Bool) → in_range (pow a n) ≡ t → Gives Whole (cond t (ok (pow a n)) (refused 25))
    go true e = record { sfits = ltb-true (mag (pow a n)) (2 ^ 63) e }
    go false e = omega arith
power_fits a (negsuc n) = omega arith

-- what a rule gives of values that fit, fits
module _ {E : Type 0} (P : E → Type 0) where
  abbrev RuleFits : (E → E → Result E) → Type 0
  RuleFits rule = (a b : E) → P a → P b → Gives P (rule a b)

  abbrev MaybeFits : Option (E → E → Result E) → Type 0
  MaybeFits none = Unit {0}
  MaybeFits (some rule) = RuleFits rule

category_fits : (c : Component) (type : ℕ) → MaybeFits Whole (category_rule c type)
unfolding category_rule
category_fits C.Abs type = λ a b p q. fitting_fits _
category_fits C.Add type = λ a b p q. whole_fits.add a b p q
category_fits C.Subtract type = λ a b p q. whole_fits.sub a b p q
category_fits C.Multiply type = λ a b p q. whole_fits.mul a b p q
category_fits C.Divide type = λ a b p q. whole_fits.div a b p q tt
category_fits C.Modulo type = go (eqb type int_type)
  where
    go : (t : Bool) → MaybeFits Whole (cond t (some mod_whole) none)
    go true = λ a b p q. mod_fits a b q
    go false = tt
category_fits C.Log type = tt
category_fits C.Power type = go (eqb type int_type)
  where
    go : (t : Bool) → MaybeFits Whole (cond t (some power_whole) none)
    go true = λ a b p q. power_fits a b
    go false = tt
category_fits C.Negative type = λ a b p q. whole_fits.neg a p
category_fits C.Pool type = tt

-- two texts joined
abbrev Text : List ℕ → Type 0
Text x = Each Byte x

text_fits : (c : Component) → MaybeFits Text (text_rule c)
text_fits C.Abs = tt
text_fits C.Add = λ x y p q. each_append Byte x y p q
text_fits C.Subtract = tt
text_fits C.Multiply = tt
text_fits C.Divide = tt
text_fits C.Modulo = tt
text_fits C.Log = tt
text_fits C.Power = tt
text_fits C.Negative = tt
text_fits C.Pool = tt

-- ---- lists

abbrev Wholes : List ℤ → Type 0
Wholes l = Each Whole l

module _ {X : Type 0} (P : X → Type 0) (same : X → X → Bool) where
  standard_each : (columns : ℕ) (ls : List (List X)) → Each (Each P) ls → Each (Each P) (standardized same columns ls)
  unfolding standardized
  standard_each columns ls p = each_repeated (Each P) columns (map (firsts same) ls) (each_map (Each P) (Each P) (firsts same) (λ l q. each_firsts P same l q) ls p)

  module _ (rule : X → X → Result X) (fit : (a b : X) → P a → P b → Gives P (rule a b)) where
    pairs_fit : (us bs : List X) → Each P us → Each P bs → Gives (Each P) (pairs rule us bs)
    unfolding pairs
    pairs_fit [] bs p q = tt
    pairs_fit (a ∷ us) bs p q =
        gives_then (Each P) (Each P) (each (rule a) bs) _ (each_gives P P (rule a) (λ b f. fit a b p.0 f) bs q)
        (λ cs f. gives_then (Each P) (Each P) (pairs rule us bs) _ (pairs_fit us bs p.1 q) (λ ds g. each_append P cs ds f g))

    product_fits : (us bs : List X) → Each P us → Each P bs → Gives (Each P) (product same rule us bs)
    unfolding product
    product_fits us bs p q = gives_then (Each P) (Each P) (pairs rule us bs) _ (pairs_fit us bs p q) (λ cs f. each_firsts P same cs f)

    image_fits : (us : List X) → Each P us → Gives (Each P) (image same rule us)
    unfolding image
    image_fits us p =
        gives_then (Each P) (Each P) (each (λ a. rule a a) us) _ (each_gives P P (λ a. rule a a) (λ a f. fit a a f f) us p) (λ cs f. each_firsts P same cs f)

  union_fits : (us bs : List X) → Each P us → Each P bs → Gives (Each P) (union same us bs)
  unfolding union
  union_fits us bs p q = each_firsts P same (us ++ bs) (each_append P us bs p q)

standard_within : {X : Type 0} (same : X → X → Bool) (columns k : ℕ) (ls : List (List X)) → columns ≤ k → length ls ≤ k → length (standardized same columns ls) ≤ k
unfolding standardized
standard_within same columns k ls h l = repeated_within columns k (map (firsts same) ls) h (rw length-map l)

-- ---- natures

-- however many categories and however much text it holds
pub record Made (F : Form) (k : Nature) : Type 0 where
  pub entries : entry_count k ≤ F.list_limit
  pub fits : NatureFits F k
  pub allowed : ValuesAllowed k

pub record Kept (F : Form) (k : Nature) : Type 0 where
  pub made : Made F k
  pub values : value_count k ≤ F.category_limit
  pub text : text_size k ≤ F.text_limit

-- at most as many as a sheet may have
abbrev Few : Form → {X : Type 0} → (X → Type 0) → List X → Type 0
Few F P xs = (length xs ≤ F.list_limit) × Each P xs

-- bool categories that 4 permits
abbrev Bools : List ℕ → Type 0
Bools l = Each (λ v. v ≤ 1) l

module _ {F : Form} (laid : Laid F) where
  wholes_in : (k : Nature) → NatureFits F k → Each Wholes (whole_lists_of k)
  wholes_in absent p = tt
  wholes_in (whole_range rs) p = tt
  wholes_in (float_range rs) p = tt
  wholes_in (whole_lists ls) p = p.values
  wholes_in (bool_lists ls) p = tt
  wholes_in (float_lists ls) p = tt
  wholes_in (text_lists ls) p = tt

  bools_in : (k : Nature) → ValuesAllowed k → Each Bools (bool_lists_of k)
  bools_in absent p = tt
  bools_in (whole_range rs) p = tt
  bools_in (float_range rs) p = tt
  bools_in (whole_lists ls) p = tt
  bools_in (bool_lists ls) p = p
  bools_in (float_lists ls) p = tt
  bools_in (text_lists ls) p = tt

  texts_in : (k : Nature) → NatureFits F k → Each (Each Text) (text_lists_of k)
  texts_in absent p = tt
  texts_in (whole_range rs) p = tt
  texts_in (float_range rs) p = tt
  texts_in (whole_lists ls) p = tt
  texts_in (bool_lists ls) p = tt
  texts_in (float_lists ls) p = tt
  texts_in (text_lists ls) p = p.values

  absent_made : Made F absent
  absent_made = record { entries = omega arith; fits = tt; allowed = tt }

  whole_lists_made : (ls : List (List ℤ)) → Few F Wholes ls → Made F (whole_lists ls)
  whole_lists_made ls f = let n = f.0 in record { entries = n; fits = record { numbers = omega (arith, laid.lists_numbered); values = f.1 }; allowed = tt }

  bool_lists_made : (ls : List (List ℕ)) → Few F Bools ls → Made F (bool_lists ls)
  bool_lists_made ls f =
      let n = f.0 in
      record {
        entries = n;
        fits = record {
          numbers = omega (arith, laid.lists_numbered);
          values = each_weaken Bools (Each Bits) (λ l p. each_weaken (λ v. v ≤ 1) Bits (λ v h. omega arith) l p) ls f.1;
        };
        allowed = f.1;
      }

  text_lists_made : (ls : List (List (List ℕ))) → Few F (Each Text) ls → Made F (text_lists ls)
  text_lists_made ls f = let n = f.0 in record { entries = n; fits = record { numbers = omega (arith, laid.lists_numbered); values = f.1 }; allowed = tt }

  -- 26, and of texts 28 behind it
  whole_kept : (ls : List (List ℤ)) → Made F (whole_lists ls) → Gives (Kept F) (kept_to F.category_limit (whole_lists ls))
  unfolding kept_to
  whole_kept ls m = go (ltb F.category_limit (value_count (whole_lists ls))) refl
    where
      go : (t : Bool) → ltb F.category_limit (value_count (whole_lists ls)) ≡ t → Gives (Kept F) (cond t (refused 26) (ok (whole_lists ls)))
      go true h = omega arith
      go false h = record { made = m; values = ltb-false F.category_limit (value_count (whole_lists ls)) h; text = omega arith }

  pub made_kept : (k : Nature) → Made F k → Gives (Kept F) (kept F k)
  unfolding kept_to text_kept
  made_kept k m = go (ltb F.category_limit (value_count k)) (ltb F.text_limit (text_size k)) refl refl
    where
      go : (t x : Bool) → ltb F.category_limit (value_count k) ≡ t → ltb F.text_limit (text_size k) ≡ x
          → Gives (Kept F) (and_then (cond t (refused 26) (ok k)) (λ k'. cond (ltb F.text_limit (text_size k')) (refused 28) (ok k')))
      go true x h e = omega arith
      go false true h e = rw e (omega arith)
      go false false h e = rw e (record { made = m; values = ltb-false F.category_limit (value_count k) h; text = ltb-false F.text_limit (text_size k) e })

  limited_kept : (g : Result (List (List ℤ))) → Gives (Few F Wholes) g → Gives (Kept F) (limited F.category_limit g)
  limited_kept g h = gives_then (Few F Wholes) (Kept F) g _ h (λ ls f. whole_kept ls (whole_lists_made ls f))

  ruled_kept : {E : Type 0} (P : E → Type 0) (o : Option (E → E → Result E)) (rest : (E → E → Result E) → Result Nature) → MaybeFits P o
      → ((rule : E → E → Result E) → RuleFits P rule → Gives (Kept F) (rest rule)) → Gives (Kept F) (ruled o rest)
  ruled_kept P none rest f h = omega arith
  ruled_kept P (some rule) rest f h = h rule f

  module _ (columns : ℕ) (few : columns ≤ F.column_limit) where
    listed : columns ≤ F.list_limit
    listed = omega (arith, laid.columns_listed)

    -- two operands' lists, joined list by list
    module _ {X : Type 0} (P : X → Type 0) (same : X → X → Bool) (join : List X → List X → Result (List X))
        (fit : (us bs : List X) → Each P us → Each P bs → Gives (Each P) (join us bs)) where
      joined_few : (ls ms : List (List X)) → length ls ≤ F.list_limit → Each (Each P) ls → Each (Each P) ms
          → Gives (Few F (Each P)) (each_pair join (standardized same columns ls) (standardized same columns ms))
      joined_few ls ms n p q =
          let us = standardized same columns ls in
          let vs = standardized same columns ms in
          gives_more (Each (Each P)) (Few F (Each P)) (each_pair join us vs)
          (pair_gives (Each P) (Each P) join fit us vs (standard_each P same columns ls p) (standard_each P same columns ms q))
          (λ ns e m.
          let a = pair_length join us vs e in
          let b = standard_within same columns F.list_limit ls listed n in
          (omega arith, m))

    module _ {E : Type 0} (P : E → Type 0) (rule : Span E → Span E → Result (Span E))
        (fit : (x y : Span E) → SpanFits P x → SpanFits P y → Gives (SpanFits P) (rule x y)) where
      range_few : (xs ys : List (Span E)) → length xs ≤ F.list_limit → Each (SpanFits P) xs → Each (SpanFits P) ys → Gives (Few F (SpanFits P)) (range_pair rule columns xs ys)
      unfolding range_pair
      range_few xs ys n p q =
          gives_more (Each (SpanFits P)) (Few F (SpanFits P)) (range_pair rule columns xs ys)
          (gives_checked (Each (SpanFits P)) _ _ refl
          (pair_gives (SpanFits P) (SpanFits P) rule fit (repeated columns xs) (repeated columns ys)
          (each_repeated (SpanFits P) columns xs p) (each_repeated (SpanFits P) columns ys q)))
          (λ zs e f.
          let a = pair_length rule (repeated columns xs) (repeated columns ys) (checked_rest _ (each_pair rule (repeated columns xs) (repeated columns ys)) e) in
          let b = repeated_within columns F.list_limit xs listed n in
          (omega arith, f))

      alone_few : (xs : List (Span E)) → length xs ≤ F.list_limit → Each (SpanFits P) xs → Gives (Few F (SpanFits P)) (range_alone rule columns xs)
      unfolding range_alone
      alone_few xs n p =
          gives_more (Each (SpanFits P)) (Few F (SpanFits P)) (range_alone rule columns xs)
          (gives_checked (Each (SpanFits P)) _ _ refl
          (each_gives (SpanFits P) (SpanFits P) (λ x. rule x x) (λ x f. fit x x f f) (repeated columns xs) (each_repeated (SpanFits P) columns xs p)))
          (λ zs e f.
          let a = each_length (λ x. rule x x) (repeated columns xs) (checked_rest _ (each (λ x. rule x x) (repeated columns xs)) e) in
          let b = repeated_within columns F.list_limit xs listed n in
          (omega arith, f))

    -- what holds of every nature that holds no categories
    module _ (Q : Nature → Type 0) (plain : (k : Nature) → Made F k → value_count k ≡ 0 → text_size k ≡ 0 → Q k) where
      absent_gives : Q absent
      absent_gives = plain absent absent_made refl refl

      whole_gives : (g : Result (List (Span ℤ))) → Gives (Few F (SpanFits Whole)) g → Gives Q (and_then g (λ zs. ok (whole_range zs)))
      whole_gives g h = gives_then (Few F (SpanFits Whole)) Q g _ h (λ zs f. plain (whole_range zs) (record { entries = f.0; fits = f.1; allowed = tt }) refl refl)

      float_gives : (g : Result (List (Span Float))) → Gives (Few F (SpanFits Double)) g → Gives Q (and_then g (λ zs. ok (float_range zs)))
      float_gives g h = gives_then (Few F (SpanFits Double)) Q g _ h (λ zs f. plain (float_range zs) (record { entries = f.0; fits = f.1; allowed = tt }) refl refl)

      two_give : (c : Component) (type : ℕ) (together : Nature → Nature → Result Nature) (l r : Nature) → Made F l → Made F r → Gives Q (together l r)
          → Gives Q (two_natures c type columns together l r)
      two_give c type together l r p q h =
          two_natures_lem (λ g. Gives Q g) c type columns together absent_gives (omega arith) l r
          (λ xs ys e f.
          let a = subst (Made F) e p in
          let b = subst (Made F) f q in
          whole_gives (range_pair (whole_rule c type) columns xs ys) (range_few Whole (whole_rule c type) (whole_rule_fits c type) xs ys a.entries a.fits b.fits))
          (λ xs ys e f.
          let a = subst (Made F) e p in
          let b = subst (Made F) f q in
          float_gives (range_pair (end_rule float c) columns xs ys)
          (range_few Double (end_rule float c) (λ x y p q. rule_fits float Double Double Any float_fits c x y (any_divides float y) p q) xs ys a.entries a.fits b.fits))
          h

    -- ---- Pool

    united_made : (l r : Nature) → Made F l → Made F r → Gives (Made F) (united_nature columns l r)
    unfolding united
    united_made absent r p q = absent_made
    united_made (whole_range xs) r p q = absent_made
    united_made (float_range xs) r p q = absent_made
    united_made (whole_lists ls) r p q =
        gives_then (Few F Wholes) (Made F) (united eq_z columns ls (whole_lists_of r)) _
        (joined_few Whole eq_z (union eq_z) (union_fits Whole eq_z) ls (whole_lists_of r) p.entries p.fits.values (wholes_in r q.fits)) whole_lists_made
    united_made (bool_lists ls) r p q =
        gives_then (Few F Bools) (Made F) (united eqb columns ls (bool_lists_of r)) _
        (joined_few (λ v. v ≤ 1) eqb (union eqb) (union_fits (λ v. v ≤ 1) eqb) ls (bool_lists_of r) p.entries p.allowed (bools_in r q.allowed)) bool_lists_made
    united_made (float_lists ls) r p q = absent_made
    united_made (text_lists ls) r p q =
        gives_then (Few F (Each Text)) (Made F) (united same_text columns ls (text_lists_of r)) _
        (joined_few Text same_text (union same_text) (union_fits Text same_text) ls (text_lists_of r) p.entries p.fits.values (texts_in r q.fits)) text_lists_made

    pub pool_made : (c : Component) (type : ℕ) (l r : Nature) → Made F l → Made F r → Gives (Made F) (pool_nature c type columns l r)
    unfolding lists_united
    pool_made c type l r p q =
        two_give (Made F) (λ k m e x. m) c type (lists_united columns) l r p q
        (gives_checked (Made F) _ (united_nature columns l r) refl (united_made l r p q))

    -- ---- the other components

    plain_kept : (k : Nature) → Made F k → value_count k ≡ 0 → text_size k ≡ 0 → Kept F k
    plain_kept k m e x = record { made = m; values = omega (arith, e); text = omega (arith, x) }

    module _ (c : Component) (type : ℕ) where
      -- whole categories and texts alone have a rule
      combined_kept : (l r : Nature) → Made F l → Made F r → Gives (Kept F) (combined_nature F c type columns l r)
      unfolding combined
      combined_kept absent r p q = omega arith
      combined_kept (whole_range xs) r p q = omega arith
      combined_kept (float_range xs) r p q = omega arith
      combined_kept (whole_lists ls) r p q =
          ruled_kept Whole (category_rule c type) _ (category_fits c type)
          (λ rule f.
          limited_kept (combined eq_z rule columns ls (whole_lists_of r))
          (joined_few Whole eq_z (product eq_z rule) (product_fits Whole eq_z rule f) ls (whole_lists_of r) p.entries p.fits.values (wholes_in r q.fits)))
      combined_kept (bool_lists ls) r p q = omega arith
      combined_kept (float_lists ls) r p q = omega arith
      combined_kept (text_lists ls) r p q =
          ruled_kept Text (text_rule c) _ (text_fits c)
          (λ rule f.
          gives_then (Few F (Each Text)) (Kept F) (combined same_text rule columns ls (text_lists_of r)) _
          (joined_few Text same_text (product same_text rule) (product_fits Text same_text rule f) ls (text_lists_of r) p.entries p.fits.values (texts_in r q.fits))
          (λ ns m. made_kept (text_lists ns) (text_lists_made ns m)))

      pair_kept : (l r : Nature) → Made F l → Made F r → Gives (Kept F) (lists_pair F c type columns l r)
      unfolding lists_pair
      pair_kept l r p q = gives_checked (Kept F) _ (combined_nature F c type columns l r) refl (combined_kept l r p q)

      alone_kept : (ls : List (List ℤ)) → length ls ≤ F.list_limit → Each Wholes ls → Gives (Kept F) (lists_alone F.category_limit c type columns (whole_lists ls))
      unfolding lists_alone mapped
      alone_kept ls n p =
          let us = standardized eq_z columns ls in
          gives_checked (Kept F) _ _ refl
          (ruled_kept Whole (category_rule c type) _ (category_fits c type)
          (λ rule f.
          limited_kept (each (image eq_z rule) us)
          (gives_more (Each Wholes) (Few F Wholes) (each (image eq_z rule) us)
          (each_gives Wholes Wholes (image eq_z rule) (image_fits Whole eq_z rule f) us (standard_each Whole eq_z columns ls p))
          (λ ns e m.
          let a = each_length (image eq_z rule) us e in
          let b = standard_within eq_z columns F.list_limit ls listed n in
          (omega arith, m)))))

      pub binary_kept : (l r : Nature) → Made F l → Made F r → Gives (Kept F) (binary_nature F c type columns l r)
      binary_kept l r p q = two_give (Kept F) plain_kept c type (lists_pair F c type columns) l r p q (pair_kept l r p q)

      pub unary_kept : (l : Nature) → Made F l → Gives (Kept F) (unary_nature F.category_limit c type columns l)
      unfolding unary_nature lists_alone
      unary_kept absent p = plain_kept absent absent_made refl refl
      unary_kept (whole_range xs) p =
          whole_gives (Kept F) plain_kept (range_alone (end_rule whole c) columns xs)
          (alone_few Whole (end_rule whole c) (λ x y p q. rule_fits whole Whole Whole Any whole_fits c x y (any_divides whole y) p q) xs p.entries p.fits)
      unary_kept (float_range xs) p =
          float_gives (Kept F) plain_kept (range_alone (end_rule float c) columns xs)
          (alone_few Double (end_rule float c) (λ x y p q. rule_fits float Double Double Any float_fits c x y (any_divides float y) p q) xs p.entries p.fits)
      unary_kept (whole_lists ls) p = alone_kept ls p.entries p.fits.values
      unary_kept (bool_lists ls) p = gives_checked (Kept F) _ (refused 22) refl (omega arith)
      unary_kept (float_lists ls) p = gives_checked (Kept F) _ (refused 22) refl (omega arith)
      unary_kept (text_lists ls) p = gives_checked (Kept F) _ (refused 22) refl (omega arith)
