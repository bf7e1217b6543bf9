-- Demand 3: no result of any row leaves what its node's sheet states.
use Rattle.std.specs.Prelude.{◌≡◌, true, cond, ◌⊎◌, ℕ, ◌≤◌, ◌<◌, ℤ, pos, ltb, ◌≤ℤ◌, ◌<ℤ◌}
use mathlib.Core.List.{List, [], ◌∷◌, Memᴰ}
use Rattle.std.proofs.Math.Option.{Option, none, some}
use lib.ListN.{length}
use Rattle.numbers.specs.Kind.{Span}
use Rattle.base.specs.Form.{Form, int_type}
use Rattle.base.specs.Sheet.{Sheet, Nature, absent, whole_range, float_range, whole_lists, bool_lists, float_lists, text_lists, is_lists}
use Rattle.base.specs.Decode.{decode}
use Rattle.base.specs.Components.{component_of, family_of}
use Rattle.base.specs.declared.Component.TheVariants as C
use Rattle.base.specs.declared.Family.{Family}
use Rattle.base.specs.declared.Family.TheVariants as Fam
use Rattle.std.specs.declared.option.Option as Rust
use Rattle.std.specs.declared.option.Option.TheVariants as N
use Rattle.shape.specs.Shape.{columns_of}
use Rattle.plan_form.specs.Form.{node_count, leaf_count, component_number, left_of, right_of}
use Rattle.calls.specs.Walk.{sheet_in}
use Rattle.containment.specs.Exact.{Row, result_at}
use Rattle.base.specs.declared.Component.{Component}

-- 01: "Column j goes by entry j or the only entry": the entry that a list states for column j, if it states one
unfoldable pub entry_for {ℓ} : {X : Type ℓ} → List X → ℕ → Option X
entry_for [] j = none
entry_for (x ∷ []) j = some x
entry_for (x ∷ y ∷ zs) j = lib.ListN.get_elem? (x ∷ y ∷ zs) j

-- 01: "an absent end sets no bound"; "Keeping to a bound may be by equality"
abbrev pub AtLeast : Option ℤ → ℤ → Type 0
AtLeast none v = Unit {0}
AtLeast (some a) v = a ≤ℤ v

abbrev pub AtMost : Option ℤ → ℤ → Type 0
AtMost none v = Unit {0}
AtMost (some c) v = v ≤ℤ c

abbrev pub InSpan : Option (Span ℤ) → ℤ → Type 0
InSpan none v = Unit {0}
InSpan (some r) v = AtLeast r.lower v × AtMost r.upper v

abbrev pub InList : {X : Type 0} → Option (List X) → X → Type 0
InList none v = Unit {0}
InList (some l) v = Memᴰ v l

-- v keeps to what a nature states for column j. "an absent nature states nothing"; no whole number keeps to float, bool or text natures, which none of
-- these plans has
abbrev pub Keeps : Nature → ℕ → ℤ → Type 0
Keeps absent j v = Unit {0}
Keeps (whole_range rs) j v = InSpan (entry_for rs j) v
Keeps (float_range rs) j v = ⊥
Keeps (whole_lists ls) j v = InList (entry_for ls j) v
Keeps (bool_lists ls) j v = ⊥
Keeps (float_lists ls) j v = ⊥
Keeps (text_lists ls) j v = ⊥

-- ---- the premises, in the demand's order and words, and in 02's where a request has softened them

-- "all leaves state a column count"
abbrev pub StatesColumns : Sheet → Type 0
StatesColumns s = (n : ℕ) × (s.fields.columns ≡ some n)

-- "one list entry or one per column"
abbrev pub OneOrPerColumn {ℓ} : {X : Type ℓ} → List X → ℕ → Type 0
OneOrPerColumn xs columns = (length xs ≡ 1) ⊎ (length xs ≡ columns)

-- "and hold whole ranges or whole categories, one list entry or one per column". 02, S-5 keeps this for bound lists, and for categories that `Counted` does
-- not speak of
abbrev pub WholeNature : Nature → ℕ → Type 0
WholeNature absent columns = ⊥
WholeNature (whole_range rs) columns = OneOrPerColumn rs columns
WholeNature (float_range rs) columns = ⊥
WholeNature (whole_lists ls) columns = OneOrPerColumn ls columns
WholeNature (bool_lists ls) columns = ⊥
WholeNature (float_lists ls) columns = ⊥
WholeNature (text_lists ls) columns = ⊥

-- step k of the plan and a leaf's categories. 02, S-5: "where some step maps them, or combines them with categories, at that leaf's own column count"
module _ (p : List ℕ) (sheet : ℕ → Sheet) (leaf k : ℕ) where
  pub record Combines : Type 0 where
    pub reads : (left_of p k ≡ leaf) ⊎ (right_of p k ≡ leaf)
    pub left : is_lists (sheet (left_of p k)).nature ≡ true
    pub right : is_lists (sheet (right_of p k)).nature ≡ true
    pub own_columns : (sheet k).fields.columns ≡ (sheet leaf).fields.columns

  -- Abs and Negative map left's, over left's columns; 2 to 5 and Pool combine. (Modulo, Log and Power accept no two category operands)
  abbrev pub SpreadsBy : Family → Type 0
  SpreadsBy Fam.Unary = left_of p k ≡ leaf
  SpreadsBy Fam.Pair = Combines
  SpreadsBy Fam.Copy = ⊥
  SpreadsBy Fam.Pool = Combines

  abbrev pub Spreads : Rust.Option Component → Type 0
  Spreads N.None = ⊥
  Spreads (N.Some c) = SpreadsBy (family_of c)

-- 02, S-5: the containment rule "drops it for a leaf's categories where some step maps them, or combines them with categories, ..": 29 has counted the lists
-- there
pub record Counted (p : List ℕ) (sheet : ℕ → Sheet) (leaf : ℕ) : Type 0 where
  pub lists : List (List ℤ)
  pub holds : (sheet leaf).nature ≡ whole_lists lists
  pub step : ℕ
  pub behind : leaf_count p ≤ step
  pub within : step < node_count p
  pub spreads : Spreads p sheet leaf step (component_of (component_number p step))

-- "the operands of each step have equal column counts or one of them a single column"
abbrev pub ColumnsMatch : Sheet → Sheet → Type 0
ColumnsMatch l r = (l.fields.columns ≡ r.fields.columns) ⊎ ((l.fields.columns ≡ some 1) ⊎ (r.fields.columns ≡ some 1))

-- "a lower above 0, an upper below 0"
abbrev pub SpanOffZero : Option (Span ℤ) → Type 0
SpanOffZero none = ⊥
SpanOffZero (some r) = ((d : ℤ) × (r.lower ≡ some d) × (pos 0 <ℤ d)) ⊎ ((f : ℤ) × (r.upper ≡ some f) × (f <ℤ pos 0))

-- "or categories without 0"
abbrev pub ListOffZero : Option (List ℤ) → Type 0
ListOffZero none = ⊥
ListOffZero (some l) = Memᴰ (pos 0) l → ⊥

abbrev pub OffZero : Nature → ℕ → Type 0
OffZero absent j = ⊥
OffZero (whole_range rs) j = SpanOffZero (entry_for rs j)
OffZero (float_range rs) j = ⊥
OffZero (whole_lists ls) j = ListOffZero (entry_for ls j)
OffZero (bool_lists ls) j = ⊥
OffZero (float_lists ls) j = ⊥
OffZero (text_lists ls) j = ⊥

-- what a step's component asks of its operands' sheets: "let each Power have Int operands, and let each Divide's divisor sheet state a lower above 0, an
-- upper below 0 or categories without 0 in every column". The demand's "let no Subtract join two ranges" is gone with 02, S-4: "a plan may subtract whole
-- ranges and still keep its values inside what it states"
abbrev pub Suits : Rust.Option Component → Sheet → Sheet → Type 0
Suits N.None l r = Unit {0}
Suits (N.Some C.Abs) l r = Unit {0}
Suits (N.Some C.Add) l r = Unit {0}
Suits (N.Some C.Subtract) l r = Unit {0}
Suits (N.Some C.Multiply) l r = Unit {0}
Suits (N.Some C.Divide) l r = (j : ℕ) → j < columns_of r.fields → OffZero r.nature j
Suits (N.Some C.Modulo) l r = Unit {0}
Suits (N.Some C.Log) l r = Unit {0}
Suits (N.Some C.Power) l r = (l.fields.data_type ≡ int_type) × (r.fields.data_type ≡ int_type)
Suits (N.Some C.Negative) l r = Unit {0}
Suits (N.Some C.Pool) l r = Unit {0}

-- of a plan's bytes and its nodes' sheets
pub record Premises (p : List ℕ) (sheet : ℕ → Sheet) : Type 0 where
  pub leaf_columns : (k : ℕ) → k < leaf_count p → StatesColumns (sheet k)
  pub leaf_natures : (k : ℕ) → k < leaf_count p → WholeNature (sheet k).nature (columns_of (sheet k).fields) ⊎ Counted p sheet k
  pub operand_columns : (k : ℕ) → leaf_count p ≤ k → k < node_count p → ColumnsMatch (sheet (left_of p k)) (sheet (right_of p k))
  pub components : (k : ℕ) → leaf_count p ≤ k → k < node_count p → Suits (component_of (component_number p k)) (sheet (left_of p k)) (sheet (right_of p k))

-- "one whole number for each leaf column, inside its range or among its categories"
pub record Inside (p : List ℕ) (sheet : ℕ → Sheet) (row : Row) : Type 0 where
  pub leaf : (k : ℕ) → k < leaf_count p → (j : ℕ) → j < columns_of (sheet k).fields → Keeps (sheet k).nature j (row.number k j)

-- "every column of every node has an exact result, with no zero divisor on the way, and that result keeps to every bound and category list that the
-- node's sheet states for its column"
pub record Claim (p : List ℕ) (sheet : ℕ → Sheet) (row : Row) : Type 0 where
  pub columns : (k : ℕ) → k < node_count p → StatesColumns (sheet k)
  pub result : (k : ℕ) → k < node_count p → (j : ℕ) → j < columns_of (sheet k).fields → (v : ℤ) × (result_at p sheet row k j ≡ some v) × Keeps (sheet k).nature j v

-- 01: "Demand 3 reads leaf sheets as handed in and each step's sheet as its slot holds it after the call"
unfoldable pub sheet_of : Form → List ℕ → List ℕ → List ℕ → ℕ → Sheet
sheet_of F p before after k = decode F (sheet_in F k (cond (ltb k (leaf_count p)) before after))

-- demand 3, of a plan that the plan call accepted and of its work buffer before and after the call
abbrev pub Contained : Form → List ℕ → List ℕ → List ℕ → Type 0
Contained F p before after =
    Premises p (sheet_of F p before after)
    → (row : Row)
    → Inside p (sheet_of F p before after) row
    → Claim p (sheet_of F p before after) row
