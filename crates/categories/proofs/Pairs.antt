-- The product of two lists, pair by pair: each result is noted behind those that were seen, row by row.
--     pairs_from, product_is                    the product so computed
--     row_start, all_end, in_row .. next_row    one step of it
-- Assumes nothing.
use mathlib.Core.Path.{◌≡◌, refl, sym, ap, ◌∙◌}
use mathlib.Core.Bool.{Bool}
use mathlib.Core.List.{List, [], ◌∷◌, ◌++◌}
use Prim.Native.Nat.{ℕ, ◌+◌, ◌<◌, ◌≤◌}
use native.Mathlib.Numerals.{add-one}
use lib.ListN.{length, drop, get_or, drop_of_length-le}
use lib.Seq.{drop-cons}
use Rattle.numbers.specs.Result.{Result, ok, refused, and_then}
use Rattle.utilities.specs.Lists.{noted, firsts_from, firsts}
use Rattle.utilities.specs.Columns.{each}
use Rattle.utilities.proofs.Firsts.{firsts_from_append}
use Rattle.category_lists.specs.Categories.{pairs, product}
use Rattle.category_lists.proofs.Noting.{noted_from, noted_is, notes_end, notes_ok, notes_bad}

module _ {X : Type 0} (same : X → X → Bool) (rule : X → X → Result X) where
  unfoldable pub pairs_from : List X → List X → List X → Result (List X)
  pairs_from seen [] bs = ok seen
  pairs_from seen (a ∷ us) bs = and_then (noted_from same (rule a) seen bs) (λ d. pairs_from d us bs)

  pairs_is : (seen us bs : List X) → pairs_from seen us bs ≡ and_then (pairs rule us bs) (λ cs. ok (firsts_from same seen cs))
  unfolding pairs_from pairs firsts_from
  pairs_is seen [] bs = refl
  pairs_is seen (a ∷ us) bs =
      ap (λ (g : Result (List X)). and_then g (λ d. pairs_from d us bs)) (noted_is same (rule a) seen bs) ∙ go (each (rule a) bs) (λ d. pairs_is d us bs)
    where
      after : (cs : List X) (r : Result (List X))
          → and_then r (λ ds. ok (firsts_from same (firsts_from same seen cs) ds)) ≡ and_then (and_then r (λ ds. ok (cs ++ ds))) (λ es. ok (firsts_from same seen es))
      after cs (ok ds) = ap ok (sym (firsts_from_append same seen cs ds))
      after cs (refused k) = refl

      go : (g : Result (List X)) → ((d : List X) → pairs_from d us bs ≡ and_then (pairs rule us bs) (λ ds. ok (firsts_from same d ds)))
          → and_then (and_then g (λ cs. ok (firsts_from same seen cs))) (λ d. pairs_from d us bs)
          ≡ and_then (and_then g (λ cs. and_then (pairs rule us bs) (λ ds. ok (cs ++ ds)))) (λ es. ok (firsts_from same seen es))
      go (ok cs) h = h (firsts_from same seen cs) ∙ after cs (pairs rule us bs)
      go (refused k) h = refl

  pub product_is : (us bs : List X) → product same rule us bs ≡ pairs_from [] us bs
  unfolding product firsts
  product_is us bs = sym (pairs_is [] us bs)

  -- ---- one step

  module _ (us bs : List X) (i : ℕ) (seen : List X) where
    pub row_start : (z : X) {a : X} → a ≡ get_or us i z → i < length us → pairs_from seen (drop i us) bs ≡ and_then (noted_from same (rule a) seen bs) (λ d. pairs_from d (drop (i + 1) us) bs)
    unfolding pairs_from
    row_start z e h = rw (e, drop-cons us i z h, add-one i)

    pub all_end : length us ≤ i → pairs_from seen (drop i us) bs ≡ ok seen
    unfolding pairs_from
    all_end h = rw (drop_of_length-le us h)

  -- ---- the rest of the product, in a row and between rows

  abbrev pub in_row : X → List X → List X → ℕ → ℕ → List X → Result (List X)
  in_row a us bs i j seen = and_then (noted_from same (rule a) seen (drop j bs)) (λ d. pairs_from d (drop i us) bs)

  abbrev pub in_pairs : List X → List X → ℕ → List X → Result (List X)
  in_pairs us bs i seen = pairs_from seen (drop i us) bs

  module _ (a : X) (us bs : List X) (i j : ℕ) (seen : List X) where
    pub next_pair : (z : X) {v : X} → j < length bs → rule a (get_or bs j z) ≡ ok v → in_row a us bs i j seen ≡ in_row a us bs i (j + 1) (noted same seen v)
    next_pair z h e = ap (λ (g : Result (List X)). and_then g (λ d. pairs_from d (drop i us) bs)) (notes_ok same (rule a) bs j seen z h e)

    pub bad_pair : (z : X) {k : ℕ} → j < length bs → rule a (get_or bs j z) ≡ refused k → in_row a us bs i j seen ≡ refused k
    bad_pair z h e = ap (λ (g : Result (List X)). and_then g (λ d. pairs_from d (drop i us) bs)) (notes_bad same (rule a) bs j seen z h e)

    pub next_row : length bs ≤ j → in_row a us bs i j seen ≡ in_pairs us bs i seen
    next_row h = ap (λ (g : Result (List X)). and_then g (λ d. pairs_from d (drop i us) bs)) (notes_end same (rule a) bs j seen h)
