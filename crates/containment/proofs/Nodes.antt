-- A node's columns: the result of column j or of the only column, and the node made of a step's results. Assumes nothing.
use mathlib.Core.Path.{◌≡◌, refl, sym, ap, ap₂, subst, ◌∙◌}
use mathlib.Core.Bool.{Bool, true, false, cond}
use mathlib.Core.List.{List}
use mathlib.Core.Logic.{◌⊎◌, inl, inr, ⊎_elim}
use mathlib.Core.Option
use mathlib.Core.Option.{Option, none, some}
use Prim.Native.Nat.{ℕ, ◌≤◌, ◌<◌}
use native.Mathlib.Nat.{zero-add}
use native.Mathlib.Omega.{arith}
use lib.Dec.{eqb}
use lib.IntN.{ℤ}
use lib.ListN.{length, get_or}
use borrow.Author.Tests.{eqb-true, eqb-false}
use Rattle.numbers.specs.Kind.{Span}
use Rattle.utilities.specs.Lists.{list_from}
use Rattle.utilities.proofs.Built.{list_from_length, list_from_at}
use Rattle.base.specs.Sheet.{Sheet, Nature, absent, whole_range, float_range, whole_lists, bool_lists, float_lists, text_lists}
use Rattle.base.specs.declared.Component.{Component}
use Rattle.std.specs.declared.option.Option.TheVariants as N
use Rattle.shape.specs.Shape.{columns_of}
use Rattle.containment.specs.Exact.{Side, Results, column_of, exact_of}
use Rattle.containment.specs.Demand.{InSpan, InList, Keeps, SpanOffZero, ListOffZero, OffZero, OneOrPerColumn}
use Rattle.containment.specs.Good.{Fitting, Spread, Admitted, Good, step_of}
use Rattle.containment.proofs.Columns.{entry_one}
use Rattle.containment.proofs.Entries.{exact_exists}
use Rattle.containment.proofs.Natures.{Derived, admitted_defined}

-- ---- natures over one column say the same of any

only {ℓ} : {X : Type ℓ} (rs : List X) → OneOrPerColumn rs 1 → length rs ≡ 1
only rs = ⊎_elim (λ h. h) (λ h. h)

pub keeps_any : (k : Nature) (i j : ℕ) (v : ℤ) → Fitting k 1 → Keeps k i v → Keeps k j v
keeps_any absent i j v f h = tt
keeps_any (whole_range rs) i j v f h = subst (λ (o : Option (Span ℤ)). InSpan o v) (entry_one rs i j (only rs f)) h
keeps_any (float_range rs) i j v f h = absurd f
keeps_any (whole_lists ls) i j v f h = subst (λ (o : Option (List ℤ)). InList o v) (entry_one ls i j (only ls f)) h
keeps_any (bool_lists ls) i j v f h = absurd f
keeps_any (float_lists ls) i j v f h = absurd f
keeps_any (text_lists ls) i j v f h = absurd f

pub off_any : (k : Nature) (i j : ℕ) → Fitting k 1 → OffZero k i → OffZero k j
off_any absent i j f h = absurd h
off_any (whole_range rs) i j f h = subst SpanOffZero (entry_one rs i j (only rs f)) h
off_any (float_range rs) i j f h = absurd h
off_any (whole_lists ls) i j f h = subst ListOffZero (entry_one ls i j (only ls f)) h
off_any (bool_lists ls) i j f h = absurd h
off_any (float_lists ls) i j f h = absurd h
off_any (text_lists ls) i j f h = absurd h

-- ---- column counts

-- of m columns one is column j, or is the only one
abbrev pub Reaches : ℕ → ℕ → Type 0
Reaches m j = (j < m) ⊎ (m ≡ 1)

-- m columns are n, or one that serves for all n
abbrev pub Serves : ℕ → ℕ → Type 0
Serves m n = (m ≡ n) ⊎ (m ≡ 1)

pub serves_reaches : {m n : ℕ} (j : ℕ) → Serves m n → j < n → Reaches m j
serves_reaches {m} {n} j s h = ⊎_elim (λ (e : m ≡ n). inl (omega arith)) (λ (e : m ≡ 1). inr e) s

pub serves_spread : (k : Nature) {m n : ℕ} → Serves m n → Fitting k m → Spread k n
serves_spread absent s f = tt
serves_spread (whole_range rs) s f = tt
serves_spread (float_range rs) s f = f
serves_spread (whole_lists ls) {m} {n} s f =
    ⊎_elim
    (λ (h : length ls ≡ 1). inl h)
    (λ (h : length ls ≡ m). ⊎_elim {C = OneOrPerColumn ls n} (λ (e : m ≡ n). inr (h ∙ e)) (λ (e : m ≡ 1). inl (h ∙ e)) s)
    f
serves_spread (bool_lists ls) s f = f
serves_spread (float_lists ls) s f = f
serves_spread (text_lists ls) s f = f

-- ---- a node's columns

pub columns_are : {s : Sheet} {rs : Results} → Good s rs → columns_of s.fields ≡ length rs
columns_are g = ap (λ (o : Option ℕ). Option.get_or o 0) g.columns

pub good_column : {s : Sheet} {rs : Results} → Good s rs → (j : ℕ) → Reaches (length rs) j → (v : ℤ) × (column_of rs j ≡ some v) × Keeps s.nature j v
good_column {s} {rs} g j w = go (eqb (length rs) 1) refl
  where
    go : (t : Bool) → eqb (length rs) 1 ≡ t → (v : ℤ) × (cond t (get_or rs 0 none) (get_or rs j none) ≡ some v) × Keeps s.nature j v
    go true e =
        let h = eqb-true (length rs) 1 e in
        let r = g.result 0 (omega arith) in
        (r.0, r.1, keeps_any s.nature 0 j r.0 (subst (λ (n : ℕ). Fitting s.nature n) h g.fits) r.2)
    go false e =
        let i : j < length rs = ⊎_elim (λ (h : j < length rs). h) (λ (h : length rs ≡ 1). absurd (eqb-false (length rs) 1 e h)) w in
        g.result j i

-- the node whose results are f 0, f 1, ..
pub good_made : (s : Sheet) (n : ℕ) (f : ℕ → Option ℤ) → s.fields.columns ≡ some n → 1 ≤ n → Fitting s.nature n
    → ((j : ℕ) → j < n → (v : ℤ) × (f j ≡ some v) × Keeps s.nature j v) → Good s (list_from (columns_of s.fields) 0 f)
good_made s n f e o k g =
    let m : columns_of s.fields ≡ n = ap (λ (c : Option ℕ). Option.get_or c 0) e in
    let l : length (list_from (columns_of s.fields) 0 f) ≡ n = list_from_length f (columns_of s.fields) 0 ∙ m in
    record {
      columns = e ∙ ap some (sym l);
      at_least_one = omega arith;
      fits = subst (λ (c : ℕ). Fitting s.nature c) (sym l) k;
      result = λ j h. at m j (subst (λ (c : ℕ). j < c) l h);
    }
  where
    at : columns_of s.fields ≡ n → (j : ℕ) → j < n → (v : ℤ) × (get_or (list_from (columns_of s.fields) 0 f) j none ≡ some v) × Keeps s.nature j v
    at m j h =
        let r = g j h in
        (r.0, list_from_at f (columns_of s.fields) 0 j none (omega arith) ∙ ap f (zero-add j) ∙ r.1, r.2)

-- a step's node, of its operands' nodes and of the nature derived
module _ (side : Side) (c : Component) (l r s : Sheet) (xs ys : Results) (n : ℕ) where
  pub good_step : Good l xs → Good r ys → s.fields.columns ≡ some n → 1 ≤ n → Derived side c n l.nature r.nature s.nature
      → ((j : ℕ) → j < n → Reaches (length xs) j) → ((j : ℕ) → j < n → Reaches (length ys) j) → ((j : ℕ) → j < n → Admitted c r.nature j)
      → Good s (step_of side c s xs ys)
  good_step g h e o d p q k = good_made s n (λ j. exact_of side (N.Some c) (column_of xs j) (column_of ys j)) e o d.fits at
    where
      at : (j : ℕ) → j < n → (v : ℤ) × (exact_of side (N.Some c) (column_of xs j) (column_of ys j) ≡ some v) × Keeps s.nature j v
      at j i =
          let a = good_column g j (p j i) in
          let b = good_column h j (q j i) in
          let v = exact_exists side c a.0 b.0 (admitted_defined c r.nature j b.0 (k j i) b.2) in
          (v.0, ap₂ (λ (x y : Option ℤ). exact_of side (N.Some c) x y) a.1 b.1 ∙ v.1, d.keeps j i a.0 b.0 v.0 (k j i) a.2 b.2 v.1)
