-- A sheet whose every number fits the place that it is written to.
use Rattle.std.specs.Prelude.{List, [], ◌∷◌, ℕ, ◌^◌, ◌<◌, ◌≤◌, ℤ, length, T, Float}
use Rattle.std.proofs.Math.Option.{Option, none, some}
use Rattle.std.specs.Float.{binary64}
use Rattle.std.specs.Float.Ieee.{fits}
use Rattle.std.specs.Int.{w64}
use Rattle.std.proofs.Common.{SFits}
use Rattle.numbers.specs.Kind.{Span}
use Rattle.base.specs.Form.{Form}
use Rattle.base.specs.Sheet.{Group, Nature, absent, whole_range, float_range, whole_lists, bool_lists, float_lists, text_lists, Fields, Sheet}
use Rattle.base.specs.Encode.{entry_count, value_count, text_size}

-- P of every value of a list
abbrev pub Each : {X : Type 0} → (X → Type 0) → List X → Type 0
Each P [] = Unit {0}
Each P (x ∷ xs) = P x × Each P xs

-- P of a value where it is present
abbrev pub Present : {X : Type 0} → (X → Type 0) → Option X → Type 0
Present P none = Unit {0}
Present P (some x) = P x

-- what 64 bits hold: a signed number, a float, and bits as they are
abbrev pub Whole : ℤ → Type 0
Whole z = SFits w64 z

abbrev pub Double : Float → Type 0
Double x = T (fits binary64 x)

abbrev pub Bits : ℕ → Type 0
Bits v = v < 2 ^ 64

-- a byte of a text
abbrev pub Byte : ℕ → Type 0
Byte v = v < 256

pub record FieldsFit (s : Fields) : Type 0 where
  pub data_type : s.data_type < 256
  pub c_stability : s.c_stability < 2 ^ 32
  pub aggregator : s.aggregator < 2 ^ 32
  pub rows : Present Whole s.rows
  pub columns : Present Bits s.columns
  pub dataset : Present Whole s.dataset
  pub dimensionality : Present Whole s.dimensionality
  pub sample : Present Bits s.sample

pub record GroupFits (g : Group) : Type 0 where
  pub partition : g.partition < 2 ^ 32
  pub kind : g.kind < 256
  pub index : Whole g.index

pub record SpanFits {X : Type 0} (P : X → Type 0) (r : Span X) : Type 0 where
  pub lower : Present P r.lower
  pub upper : Present P r.upper

module _ (F : Form) where
  -- lists are numbered from 0, so that the last number is one less than how many they are
  pub record CategoriesFit {X : Type 0} (P : X → Type 0) (ls : List (List X)) : Type 0 where
    pub numbers : length ls ≤ 256 ^ F.number_width
    pub values : Each (Each P) ls

  abbrev pub NatureFits : Nature → Type 0
  NatureFits absent = Unit {0}
  NatureFits (whole_range rs) = Each (SpanFits Whole) rs
  NatureFits (float_range rs) = Each (SpanFits Double) rs
  NatureFits (whole_lists ls) = CategoriesFit Whole ls
  NatureFits (bool_lists ls) = CategoriesFit Bits ls
  NatureFits (float_lists ls) = CategoriesFit Bits ls
  NatureFits (text_lists ls) = CategoriesFit (Each Byte) ls

  -- the three sizes, the area's size, and what stands in the fields and the arrays
  pub record WellFormed (s : Sheet) : Type 0 where
    pub groups_counted : length s.groups < 256 ^ F.size_width
    pub entries_counted : entry_count s.nature < 256 ^ F.size_width
    pub values_counted : value_count s.nature < 256 ^ F.size_width
    pub text_counted : text_size s.nature < 256 ^ 2
    pub fields : FieldsFit s.fields
    pub node : Whole s.node
    pub groups : Each GroupFits s.groups
    pub nature : NatureFits s.nature
