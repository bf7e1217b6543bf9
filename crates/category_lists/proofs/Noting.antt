-- The values of a rule, one by one: each is noted behind those that were seen.
--     noted_from, noted_is, image_is    the list so made
--     notes_end .. notes_bad           one step of it
--     Making, making-..                such a list in the making, in a store that may be too short for it
-- Assumes nothing.
use mathlib.Core.Path.{◌≡◌, refl, sym, subst, ◌∙◌}
use mathlib.Core.Bool.{Bool}
use mathlib.Core.List.{List, [], ◌∷◌}
use Prim.Native.Nat.{ℕ, ◌+◌, ◌<◌, ◌≤◌}
use native.Mathlib.Numerals.{add-one}
use native.Mathlib.Omega.{arith}
use lib.IntN.{ℤ}
use lib.ListN.{length, drop, get_or, drop_of_length-le}
use lib.Seq.{drop-cons}
use Rattle.numbers.specs.Result.{Result, ok, refused, and_then}
use Rattle.numbers.specs.Kind.{eq_z}
use Rattle.utilities.specs.Lists.{noted, firsts_from, firsts}
use Rattle.utilities.specs.Columns.{each}
use Rattle.category_lists.specs.Categories.{image}
use Rattle.category_lists.specs.Answers.{Stored}
use Rattle.category_lists.proofs.Gathering.{stored_list}

module _ {X : Type 0} (same : X → X → Bool) where
  unfoldable pub noted_from : (X → Result X) → List X → List X → Result (List X)
  noted_from rule seen [] = ok seen
  noted_from rule seen (x ∷ xs) = and_then (rule x) (λ c. noted_from rule (noted same seen c) xs)

  pub noted_is : (rule : X → Result X) (seen xs : List X) → noted_from rule seen xs ≡ and_then (each rule xs) (λ cs. ok (firsts_from same seen cs))
  unfolding noted_from each firsts_from
  noted_is rule seen [] = refl
  noted_is rule seen (x ∷ xs) = go (rule x) (λ c. noted_is rule (noted same seen c) xs)
    where
      after : (c : X) (r : Result (List X))
          → and_then r (λ cs. ok (firsts_from same (noted same seen c) cs)) ≡ and_then (and_then r (λ cs. ok (c ∷ cs))) (λ cs. ok (firsts_from same seen cs))
      after c (ok cs) = refl
      after c (refused k) = refl

      go : (g : Result X) → ((c : X) → noted_from rule (noted same seen c) xs ≡ and_then (each rule xs) (λ cs. ok (firsts_from same (noted same seen c) cs)))
          → and_then g (λ c. noted_from rule (noted same seen c) xs)
          ≡ and_then (and_then g (λ c. and_then (each rule xs) (λ cs. ok (c ∷ cs)))) (λ cs. ok (firsts_from same seen cs))
      go (ok c) h = h c ∙ after c (each rule xs)
      go (refused k) h = refl

  pub image_is : (rule : X → X → Result X) (us : List X) → image same rule us ≡ noted_from (λ a. rule a a) [] us
  unfolding image firsts
  image_is rule us = sym (noted_is (λ a. rule a a) [] us)

  -- ---- one step

  module _ (rule : X → Result X) (xs : List X) (i : ℕ) (seen : List X) where
    pub notes_end : length xs ≤ i → noted_from rule seen (drop i xs) ≡ ok seen
    unfolding noted_from
    notes_end h = rw (drop_of_length-le xs h)

    pub notes_ok : (z : X) {v : X} → i < length xs → rule (get_or xs i z) ≡ ok v → noted_from rule seen (drop i xs) ≡ noted_from rule (noted same seen v) (drop (i + 1) xs)
    unfolding noted_from
    notes_ok z h e = rw (drop-cons xs i z h, add-one i, e)

    pub notes_bad : (z : X) {k : ℕ} → i < length xs → rule (get_or xs i z) ≡ refused k → noted_from rule seen (drop i xs) ≡ refused k
    unfolding noted_from
    notes_bad z h e = rw (drop-cons xs i z h, e)

-- ---- a list in the making

-- the whole is what the rest makes of what was seen, and the store keeps that as far as it has room
pub record Making (k : ℕ) (store : List ℤ) (rest : List ℤ → Result (List ℤ)) (whole : Result (List ℤ)) : Type 0 where
  pub seen : List ℤ
  pub held : Stored k store seen
  pub left : whole ≡ rest seen

pub making_start : (store : List ℤ) (rest : List ℤ → Result (List ℤ)) {whole : Result (List ℤ)} → whole ≡ rest [] → Making 0 store rest whole
making_start store rest e = record { seen = []; held = stored_list store (omega arith); left = e }

module _ {k : ℕ} {store : List ℤ} {rest : List ℤ → Result (List ℤ)} {whole : Result (List ℤ)} (s : Making k store rest whole) where
  pub making_same : (rest' : List ℤ → Result (List ℤ)) → ((seen : List ℤ) → rest seen ≡ rest' seen) → Making k store rest' whole
  making_same rest' e = record { seen = s.seen; held = s.held; left = s.left ∙ e s.seen }

  pub making_more : (rest' : List ℤ → Result (List ℤ)) {v x : ℤ} {r : ℕ} {store' : List ℤ} → v ≡ x
      → ((seen : List ℤ) → rest seen ≡ rest' (noted eq_z seen x))
      → ((seen : List ℤ) → Stored k store seen → Stored r store' (noted eq_z seen v))
      → Making r store' rest' whole
  making_more rest' {v} {x} {r} {store'} read e step =
      record { seen = noted eq_z s.seen x; held = subst (λ (z : ℤ). Stored r store' (noted eq_z s.seen z)) read (step s.seen s.held); left = s.left ∙ e s.seen }

  pub making_refused : {code : ℕ} → ((seen : List ℤ) → rest seen ≡ refused code) → whole ≡ refused code
  making_refused e = s.left ∙ e s.seen

  pub making_done : ((seen : List ℤ) → rest seen ≡ ok seen) → (xs : List ℤ) × (whole ≡ ok xs) × Stored k store xs
  making_done e = (s.seen, s.left ∙ e s.seen, s.held)
