-- The walked leaves and steps on two buffers.
--     next_walked    whether the first of some nodes is walked
--     leaves_run     the leaves pass on both, or both say the same of the same leaf
--     leaves_pass    where all leaves pass, so do the walked ones
--     follows        a walked step, and what follows it
--     walks          the steps give the same reply, and one list of writes gives each buffer from its own
-- Assumes nothing.
use mathlib.Core.Path.{◌≡◌, refl, sym, ap, subst, ◌∙◌}
use mathlib.Core.Bool.{Bool, true, false, cond}
use mathlib.Core.List.{List, [], ◌∷◌}
use Prim.Native.Nat.{ℕ, zero, suc, ◌+◌, ◌≤◌, ◌<◌}
use native.Mathlib.Omega.{arith}
use lib.Dec.{T, eqb}
use lib.ListN.{length}
use borrow.Author.Tests.{eqb-true, eqb-false, ne_eqb}
use Rattle.numbers.specs.Result.{Result, ok, refused}
use Rattle.utilities.specs.Lists.{list_from}
use Rattle.base.specs.Form.{narrow}
use Rattle.base.specs.Sheet.{Sheet}
use Rattle.base.specs.Decode.{decode}
use Rattle.base.specs.Checks.{read}
use Rattle.base.proofs.Passed.{Passed, read_passed}
use Rattle.plan_form.specs.Form.{node_count, leaf_count, plan_fails}
use Rattle.calls.specs.Single.{Outcome, outcome}
use Rattle.calls.specs.Walk.{slot_at, sheet_in, step_on, unless_refused, walk, leaf_then, leaves_then}
use Rattle.containment.proofs.Accepted.{from_first}
use Rattle.derived.proofs.Gives.{Gives}
use Rattle.derived.proofs.Decoded.{read_gives}
use Rattle.sets.specs.Sets.{chosen}
use Rattle.standing.specs.Standing.{stands}
use Rattle.reveal_laws.specs.Runs.{Write, written, Each, ToStep}
use Rattle.reveal_laws.proofs.Puts.{Fit, put, put_length}
use Rattle.reveal_laws.proofs.Two.{Same, Ready, same_put, ready_put, same_skip, ready_skip, Taken, refuses, gives, taken}

module _ (p : List ℕ) (wanted : ℕ) where
  -- of the n nodes from k on, those that the wanted node stands on
  abbrev pub walked_from : ℕ → ℕ → List ℕ
  walked_from n k = chosen (stands p wanted) (list_from n k (λ j. j))

  -- ---- leaves

  pub data LeavesRun (m n i : ℕ) (x : List ℕ) : Type 0 where
    passing : ((y : List ℕ) (rest : Outcome) → Same p wanted m x y → leaves_then narrow (walked_from n i) y rest ≡ rest)
        → ((j : ℕ) → i ≤ j → j < i + n → stands p wanted j ≡ true → Passed narrow (sheet_in narrow j x)) → LeavesRun m n i x
    failing : (code k : ℕ) → 0 < code → ((y : List ℕ) (rest : Outcome) → Same p wanted m x y → leaves_then narrow (walked_from n i) y rest ≡ outcome code k y)
        → LeavesRun m n i x

  -- by whether the first of them is walked
  abbrev walked_next : Bool → ℕ → ℕ → List ℕ
  walked_next t n k = cond t (k ∷ walked_from n (k + 1)) (walked_from n (k + 1))

  pub next_walked : (t : Bool) (n k : ℕ) → stands p wanted k ≡ t → walked_from (suc n) k ≡ walked_next t n k
  unfolding chosen list_from
  next_walked t n k e = ap (λ (t : Bool). walked_next t n k) e

  module _ (m n i : ℕ) (x : List ℕ) (leaf : i < m) (w : stands p wanted i ≡ true) where
    -- leaf i, then the rest
    opened : (g : Result Sheet) → read narrow (sheet_in narrow i x) ≡ g → (y : List ℕ) (rest : Outcome) → Same p wanted m x y
        → leaves_then narrow (walked_from (suc n) i) y rest ≡ leaf_then narrow g i y (leaves_then narrow (walked_from n (i + 1)) y rest)
    unfolding leaves_then
    opened g e y rest s =
        ap (λ (ks : List ℕ). leaves_then narrow ks y rest) (next_walked true n i w)
        ∙ ap (λ (g : Result Sheet). leaf_then narrow g i y (leaves_then narrow (walked_from n (i + 1)) y rest)) (ap (read narrow) (sym (s.sheets i leaf w)) ∙ e)

    first_leaf : (g : Result Sheet) → read narrow (sheet_in narrow i x) ≡ g → Gives (λ s. Passed narrow (sheet_in narrow i x) × (s ≡ decode narrow (sheet_in narrow i x))) g
        → LeavesRun m n (i + 1) x → LeavesRun m (suc n) i x
    first_leaf (refused code) e f r = failing code i f (opened (refused code) e)
    first_leaf (ok a) e f (failing code k h q) = failing code k h (λ y rest s. opened (ok a) e y rest s ∙ q y rest s)
    first_leaf (ok a) e f (passing q passed) =
        passing (λ y rest s. opened (ok a) e y rest s ∙ q y rest s)
        (λ j a b v. from_first (λ j. Passed narrow (sheet_in narrow j x)) i j a f.0 (λ c. passed j c (omega arith) v))

  other_leaf : (m n i : ℕ) (x : List ℕ) → stands p wanted i ≡ false → LeavesRun m n (i + 1) x → LeavesRun m (suc n) i x
  other_leaf m n i x w (failing code k h q) =
      failing code k h (λ y rest s. ap (λ (ks : List ℕ). leaves_then narrow ks y rest) (next_walked false n i w) ∙ q y rest s)
  other_leaf m n i x w (passing q passed) =
      passing (λ y rest s. ap (λ (ks : List ℕ). leaves_then narrow ks y rest) (next_walked false n i w) ∙ q y rest s)
      (λ j a b v. from_first (λ j. stands p wanted j ≡ true → Passed narrow (sheet_in narrow j x)) i j a (λ v. absurd (subst T (sym v ∙ w) tt)) (λ c. passed j c (omega arith)) v)

  pub leaves_run : (m n i : ℕ) (x : List ℕ) → i + n ≤ m → LeavesRun m n i x
  unfolding chosen list_from leaves_then
  leaves_run m zero i x h = passing (λ y rest s. refl) (λ j a b. absurd (omega arith))
  leaves_run m (suc n) i x h = go (stands p wanted i) refl (leaves_run m n (i + 1) x (omega arith))
    where
      go : (t : Bool) → stands p wanted i ≡ t → LeavesRun m n (i + 1) x → LeavesRun m (suc n) i x
      go true w r = first_leaf m n i x (omega arith) w (read narrow (sheet_in narrow i x)) refl (read_gives narrow (sheet_in narrow i x)) r
      go false w r = other_leaf m n i x w r

  -- where all leaves pass, the walked ones do
  pub leaves_pass : (n i : ℕ) (x : List ℕ) (rest : Outcome) → ((j : ℕ) → i ≤ j → j < i + n → Passed narrow (sheet_in narrow j x)) → leaves_then narrow (walked_from n i) x rest ≡ rest
  unfolding chosen list_from leaves_then
  leaves_pass zero i x rest passed = refl
  leaves_pass (suc n) i x rest passed = go (stands p wanted i) (leaves_pass n (i + 1) x rest (λ j a b. passed j (omega arith) (omega arith)))
    where
      go : (t : Bool) → leaves_then narrow (walked_from n (i + 1)) x rest ≡ rest → leaves_then narrow (walked_next t n i) x rest ≡ rest
      go true e =
          ap (λ (g : Result Sheet). leaf_then narrow g i x (leaves_then narrow (walked_from n (i + 1)) x rest))
          (read_passed narrow (sheet_in narrow i x) (passed i (omega arith) (omega arith)))
          ∙ e
      go false e = e

  -- ---- steps

  pub record Walks (n k : ℕ) (x : List ℕ) : Type 0 where
    pub code : ℕ
    pub value : ℕ
    pub writes : List Write
    pub to_steps : Each (ToStep narrow p wanted) writes
    pub replies : (y : List ℕ) → Same p wanted k x y → walk narrow p (walked_from n k) y ≡ outcome code value (written writes y)
    pub same : code ≡ 0 → (y : List ℕ) → Same p wanted k x y → Same p wanted (k + n) (written writes x) (written writes y)

  module _ (formed : plan_fails p ≡ false) (within : wanted < node_count p) where
    -- a step on both, and what follows
    module _ (n k : ℕ) (later : leaf_count p ≤ k) (node : k < node_count p) (w : stands p wanted k ≡ true) (x : List ℕ) (room : slot_at narrow (k + 1) ≤ length x) where
      pub follows : (o : Outcome) (y : List ℕ) → step_on narrow p k y ≡ o → walk narrow p (walked_from (suc n) k) y ≡ unless_refused narrow o k (walk narrow p (walked_from n (k + 1)))
      unfolding walk
      follows o y e =
          ap (λ (ks : List ℕ). walk narrow p ks y) (next_walked true n k w)
          ∙ ap (λ (o : Outcome). unless_refused narrow o k (walk narrow p (walked_from n (k + 1)))) e

      walk_step : Taken p wanted k x → ((vs : List ℕ) → Fit vs → Walks n (k + 1) (put k vs x)) → Walks (suc n) k x
      unfolding written Each
      walk_step (refuses c h q) rest = record {
        code = c;
        value = k;
        writes = [];
        to_steps = tt;
        replies = λ y s. follows (outcome c 0 y) y (q y s) ∙ ap (λ (t : Bool). cond t (walk narrow p (walked_from n (k + 1)) y) (outcome c k y)) (ne_eqb c 0 (omega arith));
        same = λ e. absurd (omega arith);
      }
      walk_step (gives vs f q) rest =
          let r = rest vs f in
          let next : (y : List ℕ) → Same p wanted k x y → Same p wanted (k + 1) (put k vs x) (put k vs y) = λ y s. same_put p wanted k vs f x y room s in
          let count : k + 1 + n ≡ k + suc n = omega arith in
          record {
            code = r.code;
            value = r.value;
            writes = record { place = slot_at narrow k; bytes = vs } ∷ r.writes;
            to_steps = (record { node = k; walked = w; step = later; within = node; place = refl; fits = f.short }, r.to_steps);
            replies = λ y s. follows (outcome 0 (length vs) (put k vs y)) y (q y s) ∙ r.replies (put k vs y) (next y s);
            same = λ e y s. subst (λ (m : ℕ). Same p wanted m (written r.writes (put k vs x)) (written r.writes (put k vs y))) count (r.same e (put k vs y) (next y s));
          }

    walk_skip : (n k : ℕ) (x : List ℕ) → stands p wanted k ≡ false → Walks n (k + 1) x → Walks (suc n) k x
    walk_skip n k x w r =
        let count : k + 1 + n ≡ k + suc n = omega arith in
        record {
          code = r.code;
          value = r.value;
          writes = r.writes;
          to_steps = r.to_steps;
          replies = λ y s. ap (λ (ks : List ℕ). walk narrow p ks y) (next_walked false n k w) ∙ r.replies y (same_skip p wanted k w s);
          same = λ e y s. subst (λ (m : ℕ). Same p wanted m (written r.writes x) (written r.writes y)) count (r.same e y (same_skip p wanted k w s));
        }

    pub walks : (n k : ℕ) (x : List ℕ) → leaf_count p ≤ k → k + n ≤ node_count p → slot_at narrow (k + n) ≤ length x → Ready p wanted k x → Walks n k x
    unfolding chosen list_from walk written Each
    walks zero k x later few room ready =
        let count : k ≡ k + 0 = omega arith in
        record { code = 0; value = node_count p; writes = []; to_steps = tt; replies = λ y s. refl; same = λ e y s. subst (λ (m : ℕ). Same p wanted m x y) count s }
    walks (suc n) k x later few room ready =
        go (stands p wanted k) refl
        (λ (y : List ℕ) (e : length y ≡ length x) (r : Ready p wanted (k + 1) y). walks n (k + 1) y (omega arith) (omega arith) (omega arith) r)
      where
        go : (t : Bool) → stands p wanted k ≡ t → ((y : List ℕ) → length y ≡ length x → Ready p wanted (k + 1) y → Walks n (k + 1) y) → Walks (suc n) k x
        go true w rest =
            let first : slot_at narrow (k + 1) ≤ length x = omega arith in
            let node : k < node_count p = omega arith in
            walk_step n k later node w x first (taken p wanted formed within k later node w x first ready)
            (λ vs f. rest (put k vs x) (put_length k vs x) (ready_put p wanted k vs f x first ready))
        go false w rest = walk_skip n k x w (rest x refl (ready_skip p wanted k w ready))
