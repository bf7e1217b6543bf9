-- What a sheet says, as plain mathematics. 01: "A sheet describes an array: its range or categories, size, origin and marks".
use Rattle.std.specs.Prelude.{Bool, true, false, List, ℕ, ℤ, Float}
use Rattle.std.proofs.Math.Option.{Option}
use Rattle.numbers.specs.Kind.{Span}

-- 01: "g partition ids (32 bits) and g indexes (a kind byte 1 Int, 2 Bool, 3 Str, and 64 signed bits ..)"
pub record Group : Type 0 where
  pub partition : ℕ
  pub kind : ℕ
  pub index : ℤ

-- 01: "nature (0 absent, 1 whole range, 2 float range, 3 whole, 4 bool, 5 float categories)". Bool and float categories travel as 64 bits.
-- 02, S-2: "Nature 6 holds text categories": a text is its bytes
pub data Nature : Type 0 where
  absent : Nature
  whole_range : List (Span ℤ) → Nature
  float_range : List (Span Float) → Nature
  whole_lists : List (List ℤ) → Nature
  bool_lists : List (List ℕ) → Nature
  float_lists : List (List ℕ) → Nature
  text_lists : List (List (List ℕ)) → Nature

-- the fields of one value
pub record Fields : Type 0 where
  -- by its number in 01
  pub data_type : ℕ
  pub nullity : Bool
  pub releasable : Bool
  pub not_empty : Bool
  pub ordered : Bool
  pub c_stability : ℕ
  -- 01: "0 absent, else its opaque number"
  pub aggregator : ℕ
  pub rows : Option ℤ
  pub columns : Option ℕ
  pub dataset : Option ℤ
  pub dimensionality : Option ℤ
  -- a float, as its 64 bits
  pub sample : Option ℕ

pub record Sheet : Type 0 where
  pub fields : Fields
  pub node : ℤ
  pub groups : List Group
  pub nature : Nature

-- which of the natures
abbrev pub is_whole_range : Nature → Bool
is_whole_range absent = false
is_whole_range (whole_range rs) = true
is_whole_range (float_range rs) = false
is_whole_range (whole_lists ls) = false
is_whole_range (bool_lists ls) = false
is_whole_range (float_lists ls) = false
is_whole_range (text_lists ls) = false

-- categories of any kind
abbrev pub is_lists : Nature → Bool
is_lists absent = false
is_lists (whole_range rs) = false
is_lists (float_range rs) = false
is_lists (whole_lists ls) = true
is_lists (bool_lists ls) = true
is_lists (float_lists ls) = true
is_lists (text_lists ls) = true
