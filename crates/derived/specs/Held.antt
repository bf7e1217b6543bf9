-- What an operand's sheet brings to a step, and what the step's own sheet is again: sizes within the form's limits, numbers that fit their places, and values
-- that 4 permits.
use Rattle.std.specs.Prelude.{◌≡◌, ◌≤◌, ◌<◌, length}
use Rattle.base.specs.Form.{Form, last_type, bool_key, last_key}
use Rattle.base.specs.Sheet.{Group, Nature, absent, whole_range, float_range, whole_lists, bool_lists, float_lists, text_lists, Sheet}
use Rattle.base.specs.Encode.{whole_bits, entry_count, value_count, text_size}
use Rattle.shape.specs.Shape.{columns_of}
use Rattle.round_trip.specs.WellFormed.{Each, Present, Whole, FieldsFit, GroupFits, NatureFits}

-- 01: "a kind byte 1 Int, 2 Bool, 3 Str .. Bool 0 or 1"
pub record KeyAllowed (g : Group) : Type 0 where
  pub some_kind : 0 < g.kind
  pub last_kind : g.kind ≤ last_key
  pub bool : g.kind ≡ bool_key → whole_bits g.index ≤ 1

-- 01: "values (64 bits; bool 0 or 1)"
abbrev pub ValuesAllowed : Nature → Type 0
ValuesAllowed absent = Unit {0}
ValuesAllowed (whole_range rs) = Unit {0}
ValuesAllowed (float_range rs) = Unit {0}
ValuesAllowed (whole_lists ls) = Unit {0}
ValuesAllowed (bool_lists ls) = Each (Each (λ v. v ≤ 1)) ls
ValuesAllowed (float_lists ls) = Unit {0}
ValuesAllowed (text_lists ls) = Unit {0}

-- what 4 asks of values that fit their places
pub record Allowed (s : Sheet) : Type 0 where
  pub data_type : s.fields.data_type ≤ last_type
  pub columns : Present (λ n. 0 < n) s.fields.columns
  pub groups : Each KeyAllowed s.groups
  pub values : ValuesAllowed s.nature

module _ (F : Form) where
  -- how many categories and how much text it holds is not asked: a step counts those of its own result
  pub record Held (s : Sheet) : Type 0 where
    pub groups_within : length s.groups ≤ F.group_limit
    pub entries_within : entry_count s.nature ≤ F.list_limit
    pub columns_within : columns_of s.fields ≤ F.column_limit
    pub fields : FieldsFit s.fields
    pub node : Whole s.node
    pub groups : Each GroupFits s.groups
    pub nature : NatureFits F s.nature
    pub allowed : Allowed s

  -- an operand again, whose categories and text keep to their limits
  pub record Sound (s : Sheet) : Type 0 where
    pub held : Held s
    pub values : value_count s.nature ≤ F.category_limit
    pub text : text_size s.nature ≤ F.text_limit
