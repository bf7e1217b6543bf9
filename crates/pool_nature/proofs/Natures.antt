-- Pool's nature: what the code derives.
--     held_is, held_lists            a sheet that was read holds categories by its nature
--     apart                          where not both are categories, what these make does not matter
--     united_textless, united_texts  26 and 28 behind whole or bool lists united, and behind texts
--     kept_behind                    26 and 28 behind the lists of a nature are 26 and 28 behind the nature: what holds no category is kept
--     joint_texts, joint_lists       the stores are lent for texts, and for categories
--     pooled_lists, pooled_apart     what the code derives, by whether both sheets hold categories
-- Assumes nothing.
use mathlib.Core.Path.{◌≡◌, refl, sym, ap, ap₂, subst, ◌∙◌}
use mathlib.Core.Bool.{Bool, true, false, cond, ◌&&◌}
use mathlib.Core.List.{List}
use mathlib.Core.Logic.{inr}
use Prim.Native.Nat.{ℕ, ◌≤◌}
use native.Mathlib.Omega.{arith}
use lib.IntN.{ℤ}
use lib.Ieee.{Float}
use lib.ListN.{length}
use lib.Dec.{T, eqb, ltb, leb}
use borrow.Author.Tests.{le-ltb, le-leb, leb-true, ne_eqb, eqb-false}
use Rattle.numbers.specs.Result.{Result, ok, refused, and_then}
use Rattle.numbers.specs.Kind.{Span, float, eq_z}
use Rattle.base.specs.Sheet.{Nature, absent, whole_range, float_range, whole_lists, bool_lists, float_lists, text_lists}
use Rattle.base.specs.Form.{Form, byte_at, nature_at, is_range_nature}
use Rattle.base.specs.Decode.{nature_in, lists, text_in}
use Rattle.base.specs.Encode.{nature_number, value_count, text_size}
use Rattle.base.specs.declared.Component.{Component}
use Rattle.base.specs.declared.Family.TheVariants as Fam
use Rattle.base.proofs.Natures.{nature_text_lists}
use Rattle.ends.specs.Ends.{end_rule}
use Rattle.ends.specs.Ranges.{whole_rule, range_pair}
use Rattle.category_lists.specs.Categories.{kept_to, text_kept, kept, same_text, united}
use Rattle.lending.specs.Code.{Read, holds_categories, joins_lists, joins_texts}
use Rattle.lending.proofs.Lending.{stands, pooled, texts_held, texts_joined}
use Rattle.list_codes.specs.Code.{Lists}
use Rattle.list_codes.proofs.Numbers.{number_of}
use Rattle.list_codes.proofs.Codes.{Joint, fine_listed, categories}
use Rattle.natures.proofs.Sorted.{both_lists}
use Rattle.calls.specs.Natures.{whole_lists_of, bool_lists_of, united_nature, lists_united, whole_range_with, float_range_with, lists_with, two_natures, lists_pair, binary_nature, pool_nature}

-- ---- categories

module _ {F : Form} {s : List ℕ} (r : Read F s) where
  pub held_is : holds_categories F s ≡ leb 3 (nature_number (nature_in F s))
  held_is = rw (le-leb F.arrays_at (length s) (stands r), number_of F s r)

  pub held_lists : holds_categories F s ≡ true → Lists F s
  held_lists e =
      let three : 3 ≤ byte_at F nature_at s = leb-true 3 (byte_at F nature_at s) (ap (leb 3) (sym (number_of F s r)) ∙ sym held_is ∙ e) in
      let b = byte_at F nature_at s in
      record {
        read = r;
        present = ne_eqb b 0 (λ z. omega (arith, three, z));
        no_range = rw (ne_eqb b 1 (λ z. omega (arith, three, z)), ne_eqb b 2 (λ z. omega (arith, three, z)));
      }

-- two natures of which one is absent or a range
module _ (c : Component) (type columns : ℕ) (these those : Nature → Nature → Result Nature) where
  whole_apart : (xs : List (Span ℤ)) (r : Nature) → whole_range_with c type columns these xs r ≡ whole_range_with c type columns those xs r
  unfolding whole_range_with
  whole_apart xs absent = refl
  whole_apart xs (whole_range ys) = refl
  whole_apart xs (float_range ys) = refl
  whole_apart xs (whole_lists ms) = refl
  whole_apart xs (bool_lists ms) = refl
  whole_apart xs (float_lists ms) = refl
  whole_apart xs (text_lists ms) = refl

  float_apart : (xs : List (Span Float)) (r : Nature) → float_range_with c type columns these xs r ≡ float_range_with c type columns those xs r
  unfolding float_range_with
  float_apart xs absent = refl
  float_apart xs (whole_range ys) = refl
  float_apart xs (float_range ys) = refl
  float_apart xs (whole_lists ms) = refl
  float_apart xs (bool_lists ms) = refl
  float_apart xs (float_lists ms) = refl
  float_apart xs (text_lists ms) = refl

  lists_apart : (l r : Nature) → leb 3 (nature_number r) ≡ false → lists_with c type columns these l r ≡ lists_with c type columns those l r
  unfolding lists_with
  lists_apart l absent e = refl
  lists_apart l (whole_range ys) e = refl
  lists_apart l (float_range ys) e = refl
  lists_apart l (whole_lists ms) e = absurd (subst T e tt)
  lists_apart l (bool_lists ms) e = absurd (subst T e tt)
  lists_apart l (float_lists ms) e = absurd (subst T e tt)
  lists_apart l (text_lists ms) e = absurd (subst T e tt)

  pub apart : (l r : Nature) → (leb 3 (nature_number l) && leb 3 (nature_number r)) ≡ false → two_natures c type columns these l r ≡ two_natures c type columns those l r
  unfolding two_natures
  apart absent r e = refl
  apart (whole_range xs) r e = whole_apart xs r
  apart (float_range xs) r e = float_apart xs r
  apart (whole_lists ls) r e = lists_apart (whole_lists ls) r e
  apart (bool_lists ls) r e = lists_apart (bool_lists ls) r e
  apart (float_lists ls) r e = lists_apart (float_lists ls) r e
  apart (text_lists ls) r e = lists_apart (text_lists ls) r e

-- ---- 26 and 28 come behind

module _ (F : Form) where
  abbrev limit : ℕ
  limit = F.category_limit

  -- 28 passes what holds no text
  textless : (k : Nature) → text_size k ≡ 0 → kept_to limit k ≡ kept F k
  unfolding kept_to text_kept
  textless k e = go (ltb limit (value_count k))
    where
      go : (t : Bool) → cond t (refused 26) (ok k) ≡ and_then (cond t (refused 26) (ok k)) (text_kept F.text_limit)
      go true = refl
      go false = rw (e, le-ltb F.text_limit 0 (omega arith))

  kept_none : (k : Nature) → value_count k ≡ 0 → text_size k ≡ 0 → kept F k ≡ ok k
  unfolding kept_to
  kept_none k e h = sym (textless k h) ∙ rw (e, le-ltb limit 0 (omega arith))

  -- lists, if they are united
  lists_textless : {X : Type 0} (g : Result X) (f : X → Nature) → ((x : X) → text_size (f x) ≡ 0) → and_then (and_then g (λ x. ok (f x))) (kept_to limit) ≡ and_then (and_then g (λ x. ok (f x))) (kept F)
  lists_textless (ok x) f h = textless (f x) (h x)
  lists_textless (refused k) f h = refl

  pub united_textless : (columns : ℕ) (l r : Nature) → (nature_number l ≡ 6 → ⊥) → and_then (united_nature columns l r) (kept_to limit) ≡ and_then (united_nature columns l r) (kept F)
  united_textless columns absent r h = textless absent refl
  united_textless columns (whole_range xs) r h = textless absent refl
  united_textless columns (float_range xs) r h = textless absent refl
  united_textless columns (whole_lists ls) r h = lists_textless (united eq_z columns ls (whole_lists_of r)) whole_lists (λ ns. refl)
  united_textless columns (bool_lists ls) r h = lists_textless (united eqb columns ls (bool_lists_of r)) bool_lists (λ ns. refl)
  united_textless columns (float_lists ls) r h = textless absent refl
  united_textless columns (text_lists ls) r h = absurd (h refl)

  texts_then : {X : Type 0} (g : Result X) (f : X → Nature) → and_then g (λ x. kept F (f x)) ≡ and_then (and_then g (λ x. ok (f x))) (kept F)
  texts_then (ok x) f = refl
  texts_then (refused k) f = refl

  pub united_texts :
      (columns : ℕ) (left right : List ℕ) → byte_at F nature_at left ≡ 6 → byte_at F nature_at right ≡ 6
      → and_then (united same_text columns (lists F left (text_in F left)) (lists F right (text_in F right))) (λ ns. kept F (text_lists ns))
      ≡ and_then (united_nature columns (nature_in F left) (nature_in F right)) (kept F)
  united_texts columns left right e h =
      texts_then (united same_text columns (lists F left (text_in F left)) (lists F right (text_in F right))) text_lists
      ∙ ap₂ (λ (x y : Nature). and_then (united_nature columns x y) (kept F)) (sym (nature_text_lists F left e)) (sym (nature_text_lists F right h))

  -- a range, if it is derived
  range_kept : {X : Type 0} (g : Result X) (f : X → Nature) → ((x : X) → value_count (f x) ≡ 0) → ((x : X) → text_size (f x) ≡ 0) → and_then g (λ x. ok (f x)) ≡ and_then (and_then g (λ x. ok (f x))) (kept F)
  range_kept (ok x) f h t = sym (kept_none (f x) (h x) (t x))
  range_kept (refused k) f h t = refl

  module _ (c : Component) (type columns : ℕ) (together : Nature → Nature → Result Nature) where
    abbrev behind : Nature → Nature → Result Nature
    behind l r = and_then (together l r) (kept F)

    nothing : ◌≡◌ {A = Result Nature} (ok absent) (kept F absent)
    nothing = sym (kept_none absent refl refl)

    whole_kept : (xs : List (Span ℤ)) (r : Nature) → whole_range_with c type columns behind xs r ≡ and_then (whole_range_with c type columns together xs r) (kept F)
    unfolding whole_range_with
    whole_kept xs absent = nothing
    whole_kept xs (whole_range ys) = range_kept (range_pair (whole_rule c type) columns xs ys) whole_range (λ zs. refl) (λ zs. refl)
    whole_kept xs (float_range ys) = refl
    whole_kept xs (whole_lists ms) = nothing
    whole_kept xs (bool_lists ms) = nothing
    whole_kept xs (float_lists ms) = nothing
    whole_kept xs (text_lists ms) = nothing

    float_kept : (xs : List (Span Float)) (r : Nature) → float_range_with c type columns behind xs r ≡ and_then (float_range_with c type columns together xs r) (kept F)
    unfolding float_range_with
    float_kept xs absent = nothing
    float_kept xs (whole_range ys) = refl
    float_kept xs (float_range ys) = range_kept (range_pair (end_rule float c) columns xs ys) float_range (λ zs. refl) (λ zs. refl)
    float_kept xs (whole_lists ms) = nothing
    float_kept xs (bool_lists ms) = nothing
    float_kept xs (float_lists ms) = nothing
    float_kept xs (text_lists ms) = nothing

    lists_kept : (l r : Nature) → lists_with c type columns behind l r ≡ and_then (lists_with c type columns together l r) (kept F)
    unfolding lists_with
    lists_kept l absent = nothing
    lists_kept l (whole_range ys) = nothing
    lists_kept l (float_range ys) = nothing
    lists_kept l (whole_lists ms) = refl
    lists_kept l (bool_lists ms) = refl
    lists_kept l (float_lists ms) = refl
    lists_kept l (text_lists ms) = refl

    pub kept_behind : (l r : Nature) → two_natures c type columns behind l r ≡ and_then (two_natures c type columns together l r) (kept F)
    unfolding two_natures
    kept_behind absent r = nothing
    kept_behind (whole_range xs) r = whole_kept xs r
    kept_behind (float_range xs) r = float_kept xs r
    kept_behind (whole_lists ls) r = lists_kept (whole_lists ls) r
    kept_behind (bool_lists ls) r = lists_kept (bool_lists ls) r
    kept_behind (float_lists ls) r = lists_kept (float_lists ls) r
    kept_behind (text_lists ls) r = lists_kept (text_lists ls) r

-- ---- what the code is lent for two operands that 19, 20, 29 and 21 pass

module _ {F : Form} {left right : List ℕ} (p : Joint F left right) where
  pub joint_texts : byte_at F nature_at left ≡ 6 → joins_texts Fam.Pool F left right ≡ true
  joint_texts e = texts_joined F left right (inr refl) (texts_held p.left_fine.lists.read e) (texts_held p.right_fine.lists.read (sym p.same ∙ e))

  pub joint_lists : joins_lists Fam.Pool F left right ≡ true
  joint_lists = pooled refl (fine_listed p.left_fine) (categories p.left_fine) (fine_listed p.right_fine) (categories p.right_fine)

-- ---- what the code derives, by whether both sheets hold categories

module _ {F : Form} {left right : List ℕ} (x : Read F left) (y : Read F right) (c : Component) (type columns : ℕ) where
  abbrev l : Nature
  l = nature_in F left

  abbrev r : Nature
  r = nature_in F right

  abbrev counted : Result Nature
  counted = and_then (pool_nature c type columns l r) (kept F)

  present : {s : List ℕ} → Lists F s → nature_number (nature_in F s) ≡ 0 → ⊥
  present {s} z e = eqb-false (byte_at F nature_at s) 0 z.present (sym (number_of F s z.read) ∙ e)

  no_range : {s : List ℕ} → Lists F s → is_range_nature (nature_number (nature_in F s)) ≡ false
  no_range {s} z = ap is_range_nature (number_of F s z.read) ∙ z.no_range

  pub pooled_lists : Lists F left → Lists F right → and_then (lists_united columns l r) (kept F) ≡ counted
  pooled_lists p q =
      ap (λ (g : Result Nature). and_then g (kept F))
      (sym (both_lists c type columns (lists_united columns) l r (present p) (no_range p) (present q) (no_range q)))

  pub pooled_apart : (holds_categories F left && holds_categories F right) ≡ false → binary_nature F c type columns l r ≡ counted
  pooled_apart e =
      apart c type columns (lists_pair F c type columns) (λ l r. and_then (lists_united columns l r) (kept F)) l r (rw (held_is x, held_is y) at e)
      ∙ kept_behind F c type columns (lists_united columns) l r
