-- Laws of `spreads`, `repeated` and `standardized`. Assumes nothing.
use mathlib.Core.Path.{◌≡◌, refl, sym, ap, ◌∙◌}
use mathlib.Core.Bool.{Bool, true, false, ◌||◌}
use mathlib.Core.List.{List, [], ◌∷◌, map}
use mathlib.Core.Logic.{◌⊎◌, inl, inr, ⊎_elim}
use Prim.Native.Nat.{ℕ, ◌<◌}
use native.Mathlib.Omega.{arith}
use lib.Dec.{eqb}
use lib.ListN.{length, get_or, replicate, length-map, length-replicate, get_or-replicate, get_or-map}
use borrow.Author.Tests.{eqb-true}
use Rattle.utilities.specs.Lists.{firsts_from, firsts, repeated, standardized}
use Rattle.utilities.specs.Columns.{spreads}

-- what 18 and 29 pass
pub one_or_each : (columns n : ℕ) → spreads columns n ≡ true → (n ≡ 1) ⊎ (n ≡ columns)
one_or_each columns n e = go (eqb n columns) refl e
  where
    go : (t : Bool) → eqb n columns ≡ t → (t || eqb n 1) ≡ true → (n ≡ 1) ⊎ (n ≡ columns)
    go true h e = inr (eqb-true n columns h)
    go false h e = inl (eqb-true n 1 e)

module _ {ℓ} {X : Type ℓ} (columns : ℕ) where
  pub repeated_at : (l : X) (j : ℕ) (d : X) → j < columns → get_or (repeated columns (l ∷ [])) j d ≡ l
  unfolding repeated
  repeated_at l j d h = get_or-replicate columns j l d h

  -- another count than one stays
  pub repeated_other : (ls : List X) → (length ls ≡ 1 → ⊥) → repeated columns ls ≡ ls
  unfolding repeated
  repeated_other [] h = refl
  repeated_other (l ∷ []) h = absurd (h refl)
  repeated_other (l ∷ m ∷ ls) h = refl

  -- a list for each column stays, also where there is one column
  pub repeated_full : (ls : List X) → length ls ≡ columns → repeated columns ls ≡ ls
  unfolding repeated
  repeated_full [] h = refl
  repeated_full (l ∷ []) h = ap (λ (n : ℕ). replicate n l) (sym h)
  repeated_full (l ∷ m ∷ ls) h = refl

  one_length : (ls : List X) → length ls ≡ 1 → length (repeated columns ls) ≡ columns
  unfolding repeated
  one_length [] h = absurd (omega arith)
  one_length (l ∷ []) h = length-replicate columns l
  one_length (l ∷ m ∷ ls) h = absurd (omega arith)

  -- one list, or one for each column, becomes one for each
  pub repeated_length : (ls : List X) → (length ls ≡ 1) ⊎ (length ls ≡ columns) → length (repeated columns ls) ≡ columns
  repeated_length ls = ⊎_elim (λ h. one_length ls h) (λ h. ap length (repeated_full ls h) ∙ h)

module _ {X : Type 0} (same : X → X → Bool) (columns : ℕ) where
  pub standardized_one : (l : List X) (j : ℕ) (d : List X) → j < columns → get_or (standardized same columns (l ∷ [])) j d ≡ firsts same l
  unfolding standardized
  standardized_one l j d h = repeated_at columns (firsts same l) j d h

  pub standardized_other : (ls : List (List X)) → (length ls ≡ 1 → ⊥) → standardized same columns ls ≡ map (firsts same) ls
  unfolding standardized
  standardized_other ls h = repeated_other columns (map (firsts same) ls) (λ e. h (sym (length-map ls (firsts same)) ∙ e))

  pub standardized_at : (ls : List (List X)) (j : ℕ) → (length ls ≡ 1 → ⊥) → get_or (standardized same columns ls) j [] ≡ firsts same (get_or ls j [])
  unfolding firsts firsts_from
  standardized_at ls j h = ap (λ (l : List (List X)). get_or l j []) (standardized_other ls h) ∙ get_or-map (firsts same) ls j []
