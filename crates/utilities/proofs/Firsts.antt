-- Laws of `has`, `noted` and `firsts_from`, over any equality. Assumes nothing.
use mathlib.Core.Path.{◌≡◌, refl, ap, ap₂, ◌∙◌}
use mathlib.Core.Bool.{Bool, true, false, cond, ◌||◌}
use mathlib.Core.List.{List, [], ◌∷◌, ◌++◌}
use Prim.Native.Nat.{ℕ, ◌+◌, ◌-◌, ◌<◌, ◌≤◌}
use native.Mathlib.Numerals.{add-one}
use native.Mathlib.Omega.{arith}
use lib.ListN.{length, take, drop, get_or, length-append}
use lib.Seq.{take-suc, take-add}
use Rattle.utilities.specs.Lists.{has, noted, firsts_from}

or_false : (t : Bool) → t || false ≡ t
or_false true = refl
or_false false = refl

or_true : (t : Bool) → t || true ≡ true
or_true true = refl
or_true false = refl

or_assoc : (a b c : Bool) → a || (b || c) ≡ (a || b) || c
or_assoc true b c = refl
or_assoc false b c = refl

module _ {X : Type 0} (same : X → X → Bool) where
  pub has_append : (x : X) (ys zs : List X) → has same x (ys ++ zs) ≡ has same x ys || has same x zs
  unfolding has
  has_append x [] zs = refl
  has_append x (y ∷ ys) zs = rw (has_append x ys zs) (or_assoc (same x y) (has same x ys) (has same x zs))

  -- one more value
  pub has_next : (x : X) (s : List X) (i : ℕ) (d : X) → i < length s → has same x (take (i + 1) s) ≡ has same x (take i s) || same x (get_or s i d)
  unfolding has
  has_next x s i d h =
      ap (λ (n : ℕ). has same x (take n s)) (add-one i)
      ∙ ap (has same x) (take-suc s i d h)
      ∙ has_append x (take i s) (get_or s i d ∷ [])
      ∙ ap (λ (t : Bool). has same x (take i s) || t) (or_false (same x (get_or s i d)))

  pub has_here : (x : X) (s : List X) (i n : ℕ) (d : X) → i < n → n ≤ length s → same x (get_or s i d) ≡ true → has same x (take n s) ≡ true
  has_here x s i n d h l e =
      let m : n ≡ i + 1 + (n - (i + 1)) = omega arith in
      let one : has same x (take (i + 1) s) ≡ true =
      has_next x s i d (omega arith) ∙ ap (λ (t : Bool). has same x (take i s) || t) e ∙ or_true (has same x (take i s))
      in
      let rest = take (n - (i + 1)) (drop (i + 1) s) in
      ap (λ (j : ℕ). has same x (take j s)) m
      ∙ ap (has same x) (take-add (i + 1) (n - (i + 1)) s)
      ∙ has_append x (take (i + 1) s) rest
      ∙ ap (λ (t : Bool). t || has same x rest) one

  pub has_missing : (x : X) (s : List X) (i : ℕ) (d : X) → i < length s → has same x (take i s) ≡ false → same x (get_or s i d) ≡ false → has same x (take (i + 1) s) ≡ false
  has_missing x s i d h k e = has_next x s i d h ∙ ap₂ ◌||◌ k e

  pub noted_known : (seen : List X) (x : X) → has same x seen ≡ true → noted same seen x ≡ seen
  unfolding noted
  noted_known seen x e = ap (λ (t : Bool). cond t seen (seen ++ (x ∷ []))) e

  pub noted_new : (seen : List X) (x : X) → has same x seen ≡ false → noted same seen x ≡ seen ++ (x ∷ [])
  unfolding noted
  noted_new seen x e = ap (λ (t : Bool). cond t seen (seen ++ (x ∷ []))) e

  pub noted_length : (seen : List X) (x : X) → length (noted same seen x) ≤ length seen + 1
  unfolding noted
  noted_length seen x = go (has same x seen)
    where
      go : (t : Bool) → length (cond t seen (seen ++ (x ∷ []))) ≤ length seen + 1
      go true = omega arith
      go false = omega (arith, length-append seen (x ∷ []))

  pub noted_keeps : (seen : List X) (x : X) → length seen ≤ length (noted same seen x)
  unfolding noted
  noted_keeps seen x = go (has same x seen)
    where
      go : (t : Bool) → length seen ≤ length (cond t seen (seen ++ (x ∷ [])))
      go true = omega arith
      go false = omega (arith, length-append seen (x ∷ []))

  pub firsts_from_append : (seen xs ys : List X) → firsts_from same seen (xs ++ ys) ≡ firsts_from same (firsts_from same seen xs) ys
  unfolding firsts_from
  firsts_from_append seen [] ys = refl
  firsts_from_append seen (x ∷ xs) ys = firsts_from_append (noted same seen x) xs ys
