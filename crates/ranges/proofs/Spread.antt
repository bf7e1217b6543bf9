-- A list of one entry, or of one per column, spread over the columns. Assumes nothing.
use mathlib.Core.Path.{◌≡◌, refl, sym, ap, ◌∙◌}
use mathlib.Core.Bool.{Bool, true, false, cond}
use mathlib.Core.List.{List, ◌∷◌}
use mathlib.Core.Logic.{⊎_elim}
use Prim.Native.Nat.{ℕ, zero, suc, ◌+◌}
use lib.Dec.{eqb}
use lib.ListN.{length, replicate}
use borrow.Author.Tests.{eqb-true, eqb-false, eq-eqb, ne_eqb}
use Rattle.utilities.specs.Lists.{list_from, repeated}
use Rattle.utilities.specs.Columns.{spreads}
use Rattle.utilities.proofs.Built.{list_from_length}
use Rattle.utilities.proofs.Repeated.{one_or_each, repeated_full}
use Rattle.ranges.specs.Chained.{entry_of}

-- the only entry, and an entry per column
pub only_entry : (n j : ℕ) → n ≡ 1 → entry_of n j ≡ 0
only_entry n j e = ap (λ (t : Bool). cond t 0 j) (eq-eqb n 1 e)

pub own_entry : (n j : ℕ) → (n ≡ 1 → ⊥) → entry_of n j ≡ j
own_entry n j h = ap (λ (t : Bool). cond t 0 j) (ne_eqb n 1 h)

module _ {X : Type 0} where
  pub list_from_same : {f g : ℕ → X} → ((j : ℕ) → f j ≡ g j) → (n i : ℕ) → list_from n i f ≡ list_from n i g
  unfolding list_from
  list_from_same h zero i = refl
  list_from_same h (suc n) i = rw (h i, list_from_same h n (i + 1))

  replicate_from : (x : X) (n i : ℕ) → replicate n x ≡ list_from n i (λ j. x)
  unfolding list_from
  replicate_from x zero i = refl
  replicate_from x (suc n) i = ap (λ (l : List X). x ∷ l) (replicate_from x n (i + 1))

  module _ (columns : ℕ) (f : ℕ → X) where
    pub spreads_from : (n : ℕ) → spreads columns (length (list_from n 0 f)) ≡ spreads columns n
    spreads_from n = ap (spreads columns) (list_from_length f n 0)

    one_repeated : repeated columns (list_from 1 0 f) ≡ list_from columns 0 (λ j. f 0)
    unfolding repeated list_from
    one_repeated = replicate_from (f 0) columns 0

    pub repeated_from : (n : ℕ) → spreads columns n ≡ true → repeated columns (list_from n 0 f) ≡ list_from columns 0 (λ j. f (entry_of n j))
    repeated_from n h = go (eqb n 1) refl
      where
        go : (t : Bool) → eqb n 1 ≡ t → repeated columns (list_from n 0 f) ≡ list_from columns 0 (λ j. f (entry_of n j))
        go true e =
            let one : n ≡ 1 = eqb-true n 1 e in
            ap (λ (k : ℕ). repeated columns (list_from k 0 f)) one ∙ one_repeated
            ∙ list_from_same (λ j. ap f (sym (only_entry n j one))) columns 0
        go false e =
            let full : n ≡ columns = ⊎_elim (λ p. absurd (eqb-false n 1 e p)) (λ p. p) (one_or_each columns n h) in
            repeated_full columns (list_from n 0 f) (list_from_length f n 0 ∙ full)
            ∙ ap (λ (k : ℕ). list_from k 0 f) full
            ∙ list_from_same (λ j. ap f (sym (own_entry n j (eqb-false n 1 e)))) columns 0
