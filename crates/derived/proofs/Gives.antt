-- What an answer gives: a value that is so and so, or a refusal by a number of 01's, which is never 0. Assumes nothing.
use mathlib.Core.Path.{◌≡◌, refl}
use mathlib.Core.Bool.{Bool, true, false, cond, ◌&&◌}
use mathlib.Core.List.{List, [], ◌∷◌}
use Prim.Native.Nat.{◌<◌}
use native.Mathlib.Omega.{arith}
use lib.Dec.{ltb}
use borrow.Author.Tests.{eqb-false, ltb-true, lt-ltb}
use Rattle.numbers.specs.Result.{Result, ok, refused, and_then, Check, checked}
use Rattle.base.proofs.Flags.{and_both}
use Rattle.utilities.specs.Columns.{each, each_pair}
use Rattle.orders.proofs.Refusals.{Numbered, head_numbered, tail_numbered}
use Rattle.orders.proofs.Passing.{Passing}
use Rattle.round_trip.specs.WellFormed.{Each}

abbrev pub Gives : {X : Type 0} → (X → Type 0) → Result X → Type 0
Gives P (ok x) = P x
Gives P (refused k) = 0 < k

-- what is known of the value besides
pub gives_more : {X : Type 0} (P Q : X → Type 0) (g : Result X) → Gives P g → ((x : X) → g ≡ ok x → P x → Q x) → Gives Q g
gives_more P Q (ok x) p h = h x refl p
gives_more P Q (refused k) p h = p

pub gives_then : {X Y : Type 0} (P : X → Type 0) (Q : Y → Type 0) (g : Result X) (rest : X → Result Y) → Gives P g
    → ((x : X) → P x → Gives Q (rest x)) → Gives Q (and_then g rest)
gives_then P Q (ok x) rest p h = h x p
gives_then P Q (refused k) rest p h = p

pub gives_either : {X : Type 0} (P : X → Type 0) (t : Bool) (g h : Result X) → Gives P g → Gives P h → Gives P (cond t g h)
gives_either P true g h p q = p
gives_either P false g h p q = q

-- with the test at hand
pub gives_tested : {X : Type 0} (P : X → Type 0) (t : Bool) (g h : Result X) → (t ≡ true → Gives P g) → Gives P h → Gives P (cond t g h)
gives_tested P true g h p q = p refl
gives_tested P false g h p q = q

-- no check of a list has the number 0
abbrev pub counted : List Check → Bool
counted [] = true
counted (c ∷ cs) = ltb 0 c.number && counted cs

pub all_counted : (cs : List Check) → Numbered cs → counted cs ≡ true
all_counted [] z = refl
all_counted (c ∷ cs) z =
    let some = eqb-false c.number 0 (head_numbered c cs z) in
    rw (lt-ltb 0 c.number (omega (arith, some)), all_counted cs (tail_numbered c cs z))

pub gives_passed : {X : Type 0} (P : X → Type 0) (cs : List Check) (rest : Result X) → counted cs ≡ true → (Passing cs → Gives P rest) → Gives P (checked cs rest)
unfolding checked
gives_passed P [] rest n p = p tt
gives_passed P (c ∷ cs) rest n p =
    let b = and_both (ltb 0 c.number) (counted cs) n in
    go c.fails refl (ltb-true 0 c.number b.0) (λ e. gives_passed P cs rest b.1 (λ q. p (e, q)))
  where
    go : (t : Bool) → c.fails ≡ t → 0 < c.number → (c.fails ≡ false → Gives P (checked cs rest)) → Gives P (cond t (refused c.number) (checked cs rest))
    go true e k h = k
    go false e k h = h e

pub gives_checked : {X : Type 0} (P : X → Type 0) (cs : List Check) (rest : Result X) → counted cs ≡ true → Gives P rest → Gives P (checked cs rest)
gives_checked P cs rest n p = gives_passed P cs rest n (λ q. p)

-- a rule over a list, or over two
module _ {X Y : Type 0} (P : X → Type 0) (Q : Y → Type 0) where
  pub each_gives : (rule : X → Result Y) → ((x : X) → P x → Gives Q (rule x)) → (xs : List X) → Each P xs → Gives (Each Q) (each rule xs)
  unfolding each
  each_gives rule h [] p = tt
  each_gives rule h (x ∷ xs) p =
      gives_then Q (Each Q) (rule x) _ (h x p.0)
      (λ z q. gives_then (Each Q) (Each Q) (each rule xs) _ (each_gives rule h xs p.1) (λ zs r. (q, r)))

  pub pair_gives : (rule : X → X → Result Y) → ((x y : X) → P x → P y → Gives Q (rule x y)) → (xs ys : List X) → Each P xs → Each P ys
      → Gives (Each Q) (each_pair rule xs ys)
  unfolding each_pair
  pair_gives rule h [] ys p q = tt
  pair_gives rule h (x ∷ xs) [] p q = tt
  pair_gives rule h (x ∷ xs) (y ∷ ys) p q =
      gives_then Q (Each Q) (rule x y) _ (h x y p.0 q.0)
      (λ z r. gives_then (Each Q) (Each Q) (each_pair rule xs ys) _ (pair_gives rule h xs ys p.1 q.1) (λ zs s. (r, s)))
