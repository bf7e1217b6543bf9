-- `Each` of lists that are made, joined, cut and repeated; and how many values a rule gives of a list. Assumes nothing.
use mathlib.Core.Path.{◌≡◌, refl, sym, ap, ◌∙◌}
use mathlib.Core.Bool.{Bool, true, false, cond}
use mathlib.Core.List.{List, [], ◌∷◌, ◌++◌, map}
use Prim.Native.Nat.{ℕ, zero, suc, ◌+◌, ◌≤◌, ◌<◌, min}
use native.Mathlib.Omega.{arith}
use lib.ListN.{length, replicate, take, drop, length-replicate}
use Rattle.numbers.specs.Result.{Result, ok}
use Rattle.numbers.proofs.Results.{ok_same, then_ok_inv}
use Rattle.utilities.specs.Lists.{list_from, every, has, noted, firsts_from, firsts, repeated}
use Rattle.utilities.specs.Columns.{each, each_pair}
use Rattle.utilities.proofs.Built.{both_hold}
use Rattle.round_trip.specs.WellFormed.{Each}

module _ {X : Type 0} (P : X → Type 0) where
  pub each_below : (f : ℕ → X) (n i : ℕ) → ((k : ℕ) → i ≤ k → k < i + n → P (f k)) → Each P (list_from n i f)
  unfolding list_from
  each_below f zero i h = tt
  each_below f (suc n) i h = (h i (omega arith) (omega arith), each_below f n (i + 1) (λ k low high. h k (omega arith) (omega arith)))

  pub each_from : (f : ℕ → X) → ((i : ℕ) → P (f i)) → (n i : ℕ) → Each P (list_from n i f)
  each_from f h n i = each_below f n i (λ k low high. h k)

  pub each_append : (xs ys : List X) → Each P xs → Each P ys → Each P (xs ++ ys)
  each_append [] ys p q = q
  each_append (x ∷ xs) ys p q = (p.0, each_append xs ys p.1 q)

  pub each_take : (n : ℕ) (xs : List X) → Each P xs → Each P (take n xs)
  each_take zero xs p = tt
  each_take (suc n) [] p = tt
  each_take (suc n) (x ∷ xs) p = (p.0, each_take n xs p.1)

  pub each_drop : (n : ℕ) (xs : List X) → Each P xs → Each P (drop n xs)
  each_drop zero xs p = p
  each_drop (suc n) [] p = tt
  each_drop (suc n) (x ∷ xs) p = each_drop n xs p.1

  each_replicate : (n : ℕ) (x : X) → P x → Each P (replicate n x)
  each_replicate zero x p = tt
  each_replicate (suc n) x p = (p, each_replicate n x p)

  pub each_repeated : (n : ℕ) (xs : List X) → Each P xs → Each P (repeated n xs)
  unfolding repeated
  each_repeated n [] p = tt
  each_repeated n (x ∷ []) p = each_replicate n x p.0
  each_repeated n (x ∷ y ∷ xs) p = p

  module _ (same : X → X → Bool) where
    each_noted : (seen : List X) (x : X) → Each P seen → P x → Each P (noted same seen x)
    unfolding noted
    each_noted seen x p q = go (has same x seen)
      where
        go : (t : Bool) → Each P (cond t seen (seen ++ (x ∷ [])))
        go true = p
        go false = each_append seen (x ∷ []) p (q, tt)

    each_seen : (seen xs : List X) → Each P seen → Each P xs → Each P (firsts_from same seen xs)
    unfolding firsts_from
    each_seen seen [] p q = p
    each_seen seen (x ∷ xs) p q = each_seen (noted same seen x) xs (each_noted seen x p q.0) q.1

    pub each_firsts : (xs : List X) → Each P xs → Each P (firsts same xs)
    unfolding firsts
    each_firsts xs q = each_seen [] xs tt q

pub each_weaken : {X : Type 0} (P Q : X → Type 0) → ((x : X) → P x → Q x) → (xs : List X) → Each P xs → Each Q xs
each_weaken P Q h [] p = tt
each_weaken P Q h (x ∷ xs) p = (h x p.0, each_weaken P Q h xs p.1)

pub each_map : {X Y : Type 0} (P : X → Type 0) (Q : Y → Type 0) (f : X → Y) → ((x : X) → P x → Q (f x)) → (xs : List X) → Each P xs → Each Q (map f xs)
each_map P Q f h [] p = tt
each_map P Q f h (x ∷ xs) p = (h x p.0, each_map P Q f h xs p.1)

pub each_any : {X : Type 0} (xs : List X) → Each (λ x. Unit {0}) xs
each_any [] = tt
each_any (x ∷ xs) = (tt, each_any xs)

pub each_both : {X : Type 0} (P Q : X → Type 0) (xs : List X) → Each P xs → Each Q xs → Each (λ x. P x × Q x) xs
each_both P Q [] p q = tt
each_both P Q (x ∷ xs) p q = ((p.0, q.0), each_both P Q xs p.1 q.1)

-- a test of every value
pub every_each : {X : Type 0} (t : X → Bool) (xs : List X) → every t xs ≡ true → Each (λ x. t x ≡ true) xs
unfolding every
every_each t [] e = tt
every_each t (x ∷ xs) e = let h = both_hold (t x) (every t xs) e in (h.0, every_each t xs h.1)

pub each_every : {X : Type 0} (t : X → Bool) (xs : List X) → Each (λ x. t x ≡ true) xs → every t xs ≡ true
unfolding every
each_every t [] h = refl
each_every t (x ∷ xs) h = rw (h.0, each_every t xs h.1)

pub repeated_within {ℓ} : {X : Type ℓ} (n k : ℕ) (xs : List X) → n ≤ k → length xs ≤ k → length (repeated n xs) ≤ k
unfolding repeated
repeated_within n k [] h l = l
repeated_within n k (x ∷ []) h l = rw length-replicate h
repeated_within n k (x ∷ y ∷ xs) h l = l

-- ---- a rule over a list, or over two

module _ {X Y : Type 0} where
  pub each_length : (rule : X → Result Y) (xs : List X) {ys : List Y} → each rule xs ≡ ok ys → length ys ≡ length xs
  unfolding each
  each_length rule [] e = sym (ap length (ok_same e))
  each_length rule (x ∷ xs) e =
      let s = then_ok_inv (rule x) _ e in
      let t = then_ok_inv (each rule xs) _ s.after in
      sym (ap length (ok_same t.after)) ∙ ap suc (each_length rule xs t.is)

  pub pair_length : (rule : X → X → Result Y) (xs ys : List X) {zs : List Y} → each_pair rule xs ys ≡ ok zs → length zs ≡ min (length xs) (length ys)
  unfolding each_pair
  pair_length rule [] ys e = let h = ap length (ok_same e) in omega arith
  pair_length rule (x ∷ xs) [] e = let h = ap length (ok_same e) in omega arith
  pair_length rule (x ∷ xs) (y ∷ ys) e =
      let s = then_ok_inv (rule x y) _ e in
      let t = then_ok_inv (each_pair rule xs ys) _ s.after in
      let h = ap length (ok_same t.after) in
      let k = pair_length rule xs ys t.is in
      omega arith
