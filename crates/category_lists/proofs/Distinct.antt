-- Lists that are mapped, combined or united have no repeats, whatever the operands' lists have. 02, S-6: "each user of that mapping may rely on lists without
-- repeats". Assumes nothing.
use mathlib.Core.Path.{◌≡◌, refl, subst}
use mathlib.Core.Bool.{Bool, true}
use mathlib.Core.List.{List, [], ◌∷◌, ◌++◌}
use Prim.Native.Nat.{ℕ}
use Rattle.numbers.specs.Result.{Result, ok}
use Rattle.numbers.proofs.Results.{ok_same, then_ok_inv}
use Rattle.utilities.specs.Lists.{every, firsts, distinct, standardized}
use Rattle.utilities.specs.Columns.{each, each_pair}
use Rattle.utilities.proofs.Distinct.{firsts_distinct}
use Rattle.category_lists.specs.Categories.{pairs, product, combined, image, mapped, union, united}

-- ---- what every value of a rule passes, all of its values pass

module _ {Y : Type 0} (p : Y → Bool) where
  -- one value in front
  both_pass : (y : Y) (ys : List Y) {zs : List Y} → p y ≡ true → every p ys ≡ true → y ∷ ys ≡ zs → every p zs ≡ true
  unfolding every
  both_pass y ys h k e = subst (λ (l : List Y). every p l ≡ true) e (rw h k)

  none_fails : {zs : List Y} → ◌≡◌ {A = Result (List Y)} (ok []) (ok zs) → every p zs ≡ true
  unfolding every
  none_fails e = subst (λ (l : List Y). every p l ≡ true) (ok_same e) refl

  module _ {X : Type 0} where
    each_passes : (rule : X → Result Y) → ((x : X) (y : Y) → rule x ≡ ok y → p y ≡ true) → (xs : List X) (ys : List Y) → each rule xs ≡ ok ys → every p ys ≡ true
    unfolding each
    each_passes rule h [] ys e = none_fails e
    each_passes rule h (x ∷ xs) ys e =
        let s = then_ok_inv (rule x) _ e in
        let t = then_ok_inv (each rule xs) _ s.after in
        both_pass s.value t.value (h x s.value s.is) (each_passes rule h xs t.value t.is) (ok_same t.after)

    pair_passes : (rule : X → X → Result Y) → ((x y : X) (z : Y) → rule x y ≡ ok z → p z ≡ true) → (xs ys : List X) (zs : List Y) → each_pair rule xs ys ≡ ok zs
        → every p zs ≡ true
    unfolding each_pair
    pair_passes rule h [] ys zs e = none_fails e
    pair_passes rule h (x ∷ xs) [] zs e = none_fails e
    pair_passes rule h (x ∷ xs) (y ∷ ys) zs e =
        let s = then_ok_inv (rule x y) _ e in
        let t = then_ok_inv (each_pair rule xs ys) _ s.after in
        both_pass s.value t.value (h x y s.value s.is) (pair_passes rule h xs ys t.value t.is) (ok_same t.after)

-- ---- lists

module _ {X : Type 0} (same : X → X → Bool) where
  -- first occurrences alone
  firsts_of : {l : List X} (xs : List X) → ◌≡◌ {A = Result (List X)} (ok (firsts same xs)) (ok l) → distinct same l ≡ true
  firsts_of xs e = subst (λ (l : List X). distinct same l ≡ true) (ok_same e) (firsts_distinct same xs)

  module _ (rule : X → X → Result X) (columns : ℕ) (ls : List (List X)) where
    pub mapped_distinct : {ns : List (List X)} → mapped same rule columns ls ≡ ok ns → every (distinct same) ns ≡ true
    unfolding mapped image
    mapped_distinct {ns} e =
        each_passes (distinct same) (image same rule)
        (λ l k f. let s = then_ok_inv (each (λ a. rule a a) l) _ f in firsts_of s.value s.after)
        (standardized same columns ls) ns e

    pub combined_distinct : (ms : List (List X)) {ns : List (List X)} → combined same rule columns ls ms ≡ ok ns → every (distinct same) ns ≡ true
    unfolding combined product
    combined_distinct ms {ns} e =
        pair_passes (distinct same) (product same rule)
        (λ l m k f. let s = then_ok_inv (pairs rule l m) _ f in firsts_of s.value s.after)
        (standardized same columns ls) (standardized same columns ms) ns e

  pub united_distinct : (columns : ℕ) (ls ms : List (List X)) {ns : List (List X)} → united same columns ls ms ≡ ok ns → every (distinct same) ns ≡ true
  unfolding united union
  united_distinct columns ls ms {ns} e =
      pair_passes (distinct same) (union same) (λ l m k f. firsts_of (l ++ m) f) (standardized same columns ls) (standardized same columns ms) ns e
