-- `propagate_binary_group_id` and `propagate_binary_shape`: groups, columns and rows of two operands; and the rows of Pool.
use Rattle.std.specs.Prelude.{Bool, true, false, cond, not, ◌&&◌, ◌||◌, List, [], ◌∷◌, ℕ, max, ℤ, pos, ◌+ℤ◌, eqb}
use Rattle.std.proofs.Math.Option.{Option, none, some, get_or}
use Rattle.std.specs.Int.Signed.{lt_z}
use Rattle.numbers.specs.Result.{Result, ok, and_then}
use Rattle.numbers.specs.Checked.{checked_of}
use Rattle.numbers.specs.Kind.{eq_z, fitting}
use Rattle.base.specs.Sheet.{Group, Fields, Sheet}
use Rattle.base.specs.Bounds.{is_present}

-- "absent equals absent"
abbrev pub same_option : {X : Type 0} → (X → X → Bool) → Option X → Option X → Bool
same_option same none none = true
same_option same none (some b) = false
same_option same (some a) none = false
same_option same (some a) (some b) = same a b

abbrev pub greater_z : ℤ → ℤ → ℤ
greater_z a b = cond (lt_z a b) b a

-- 01: "greater (absent least)"
abbrev pub greater_option : Option ℤ → Option ℤ → Option ℤ
greater_option none y = y
greater_option (some a) none = some a
greater_option (some a) (some b) = some (greater_z a b)

-- 01: "the greater, absent if either is"
abbrev pub greater_present : Option ℤ → Option ℤ → Option ℤ
greater_present none y = none
greater_present (some a) none = none
greater_present (some a) (some b) = some (greater_z a b)

abbrev pub same_group : Group → Group → Bool
same_group a b = eqb a.partition b.partition && eqb a.kind b.kind && eq_z a.index b.index

-- equal in count and in order
unfoldable pub same_groups : List Group → List Group → Bool
same_groups [] [] = true
same_groups [] (b ∷ bs) = false
same_groups (a ∷ as') [] = false
same_groups (a ∷ as') (b ∷ bs) = same_group a b && same_groups as' bs

-- 01: "Groups: right's if left is releasable, else left's"
abbrev pub groups_of : Sheet → Sheet → List Group
groups_of l r = cond l.fields.releasable r.groups l.groups

module _ (x y : Fields) where
  -- 8 to 10: "Neither operand is releasable and .."
  abbrev pub both_private : Bool
  both_private = not x.releasable && not y.releasable

  abbrev pub same_dataset : Bool
  same_dataset = same_option eq_z x.dataset y.dataset

-- a column count; an absent one is refused with 11 before it is used
abbrev pub columns_of : Fields → ℕ
columns_of x = get_or x.columns 0

abbrev pub columns_absent : Fields → Bool
columns_absent x = not (is_present x.columns)

-- 01: "An operand spreads if releasable with 1 row"
abbrev pub row_spreads : Fields → Bool
row_spreads x = x.releasable && same_option eq_z x.rows (some (pos 1))

module _ (x y : Fields) where
  -- 12: "Column counts differ and neither is 1"
  abbrev pub columns_clash : Bool
  columns_clash = not (eqb (columns_of x) (columns_of y)) && not (eqb (columns_of x) 1) && not (eqb (columns_of y) 1)

  -- 02, S-1: "12 (here unequal counts always)"
  abbrev pub columns_unequal : Bool
  columns_unequal = not (eqb (columns_of x) (columns_of y))

  -- 01: "columns .. greater"; 02, S-1: "columns .. take the greater"
  abbrev pub widest : ℕ
  widest = max (columns_of x) (columns_of y)

  -- 01: "If neither spreads and counts aren't equal and present": otherwise the counts agree
  abbrev pub rows_agree : Bool
  rows_agree = row_spreads x || row_spreads y || (is_present x.rows && same_option eq_z x.rows y.rows)

  -- 01: "equal dataset ids (absent equals absent) give absent, else 13"
  abbrev pub rows_clash : Bool
  rows_clash = not rows_agree && not (same_dataset x y)

  -- 01: "Otherwise the greater, absent if either is"
  abbrev pub rows_of : Option ℤ
  rows_of = cond rows_agree (greater_present x.rows y.rows) none

-- 02, S-1: "Rows are the sum, absent if either is, with 24 when it leaves 64 bits"
unfoldable pub rows_sum : Option ℤ → Option ℤ → Result (Option ℤ)
rows_sum none y = ok none
rows_sum (some a) none = ok none
rows_sum (some a) (some b) = and_then (fitting (checked_of (a +ℤ b))) (λ n. ok (some n))
