-- What is known of the value that an answer is, whatever refuses it: `Gives` without the number. Assumes nothing.
use mathlib.Core.Path.{◌≡◌, refl, sym, subst}
use mathlib.Core.Bool.{Bool, true, false, cond}
use mathlib.Core.List.{List, [], ◌∷◌}
use Rattle.numbers.specs.Result.{Result, ok, refused, and_then, Check, checked}
use Rattle.numbers.proofs.Results.{ok_same, never}
use Rattle.utilities.specs.Columns.{each, each_pair}
use Rattle.orders.proofs.Passing.{Passing}
use Rattle.round_trip.specs.WellFormed.{Each}
use Rattle.derived.proofs.Gives.{Gives}

abbrev pub IfOk : {X : Type 0} → (X → Type 0) → Result X → Type 0
IfOk P (ok x) = P x
IfOk P (refused k) = Unit {0}

module _ {X : Type 0} (P : X → Type 0) where
  pub value_is : (g : Result X) {x : X} → IfOk P g → g ≡ ok x → P x
  value_is (ok x) p e = subst P (ok_same e) p
  value_is (refused k) p e = absurd (never (sym e))

  pub gives_value : (g : Result X) → Gives P g → IfOk P g
  gives_value (ok x) p = p
  gives_value (refused k) p = tt

  pub value_known : (g : Result X) → ((x : X) → g ≡ ok x → P x) → IfOk P g
  value_known (ok x) h = h x refl
  value_known (refused k) h = tt

  -- of an answer whose refusals are numbered
  pub gives_besides : (Q : X → Type 0) (g : Result X) → Gives Q g → IfOk P g → Gives (λ x. Q x × P x) g
  gives_besides Q (ok x) q p = (q, p)
  gives_besides Q (refused k) q p = q

  pub value_more : (Q : X → Type 0) (g : Result X) → IfOk P g → ((x : X) → P x → Q x) → IfOk Q g
  value_more Q (ok x) p h = h x p
  value_more Q (refused k) p h = tt

  pub value_both : (Q : X → Type 0) (g : Result X) → IfOk P g → IfOk Q g → IfOk (λ x. P x × Q x) g
  value_both Q (ok x) p q = (p, q)
  value_both Q (refused k) p q = tt

  pub value_then : {Y : Type 0} (Q : Y → Type 0) (g : Result X) (rest : X → Result Y) → IfOk P g → ((x : X) → P x → IfOk Q (rest x)) → IfOk Q (and_then g rest)
  value_then Q (ok x) rest p h = h x p
  value_then Q (refused k) rest p h = tt

  pub value_either : (t : Bool) (g h : Result X) → IfOk P g → IfOk P h → IfOk P (cond t g h)
  value_either true g h p q = p
  value_either false g h p q = q

  pub value_passed : (cs : List Check) (rest : Result X) → (Passing cs → IfOk P rest) → IfOk P (checked cs rest)
  unfolding checked
  value_passed [] rest p = p tt
  value_passed (c ∷ cs) rest p = go c.fails refl (λ e. value_passed cs rest (λ q. p (e, q)))
    where
      go : (t : Bool) → c.fails ≡ t → (c.fails ≡ false → IfOk P (checked cs rest)) → IfOk P (cond t (refused c.number) (checked cs rest))
      go true e h = tt
      go false e h = h e

-- the checks alone say it, whatever follows them
pub passed_so : {X : Type 0} (A : Type 0) (cs : List Check) (rest : Result X) → (Passing cs → A) → IfOk (λ x. A) (checked cs rest)
passed_so A cs rest h = value_passed (λ x. A) cs rest (λ passing. value_known (λ x. A) rest (λ x e. h passing))

-- by what gave the first, or whatever the first is
module _ {X Y : Type 0} (Q : Y → Type 0) (g : Result X) (rest : X → Result Y) where
  pub value_from : ((x : X) → g ≡ ok x → IfOk Q (rest x)) → IfOk Q (and_then g rest)
  value_from h = value_then (λ x. g ≡ ok x) Q g rest (value_known (λ x. g ≡ ok x) g (λ x e. e)) h

  pub value_after : ((x : X) → IfOk Q (rest x)) → IfOk Q (and_then g rest)
  value_after h = value_from (λ x e. h x)

pub any_value : {X : Type 0} (g : Result X) → IfOk (λ x. Unit {0}) g
any_value (ok x) = tt
any_value (refused k) = tt

-- a rule over a list, or over two
module _ {X Y : Type 0} (P P' : X → Type 0) (Q : Y → Type 0) where
  pub each_values : (rule : X → Result Y) → ((x : X) → P x → IfOk Q (rule x)) → (xs : List X) → Each P xs → IfOk (Each Q) (each rule xs)
  unfolding each
  each_values rule h [] p = tt
  each_values rule h (x ∷ xs) p =
      value_then Q (Each Q) (rule x) _ (h x p.0)
      (λ z q. value_then (Each Q) (Each Q) (each rule xs) _ (each_values rule h xs p.1) (λ zs r. (q, r)))

  pub pair_values : (rule : X → X → Result Y) → ((x y : X) → P x → P' y → IfOk Q (rule x y)) → (xs ys : List X) → Each P xs → Each P' ys
      → IfOk (Each Q) (each_pair rule xs ys)
  unfolding each_pair
  pair_values rule h [] ys p q = tt
  pair_values rule h (x ∷ xs) [] p q = tt
  pair_values rule h (x ∷ xs) (y ∷ ys) p q =
      value_then Q (Each Q) (rule x y) _ (h x y p.0 q.0)
      (λ z r. value_then (Each Q) (Each Q) (each_pair rule xs ys) _ (pair_values rule h xs ys p.1 q.1) (λ zs s. (r, s)))
