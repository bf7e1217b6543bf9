-- The order of the checks, one list for each family of components. 01: "Checks 3 to 5 finish on left before right; so do 6 and 7,
-- and 19 and 20"; 02, S-5: "19, 20 and 29 finish on left before right".
use Rattle.std.specs.Prelude.{Bool, false, cond, not, ◌&&◌, ◌||◌, List, [], ◌∷◌, ◌++◌, ℕ, eqb}
use Rattle.std.proofs.Math.Option.{Option, none, some}
use Rattle.std.specs.Float.Ieee as Ieee
use Rattle.std.specs.Float.{binary64}
use Rattle.std.specs.Float.Ieee.{of_bits}
use Rattle.numbers.specs.Result.{Check, check}
use Rattle.numbers.specs.Kind.{one_float}
use Rattle.base.specs.Form.{float_type, int_type}
use Rattle.base.specs.Sheet.{Fields, Sheet, is_whole_range}
use Rattle.base.specs.Bounds.{lowers_present, uppers_present, whole_lowers_present, lowers_positive, lowers_non_negative, all_suit_as_base}
use Rattle.base.specs.declared.Component.{Component}
use Rattle.base.specs.declared.Component.TheVariants as C
use Rattle.shape.specs.Shape.{both_private, same_groups, same_dataset, columns_absent, columns_clash, columns_unequal, rows_clash}

-- 6: "An operand that isn't releasable has an aggregator"
abbrev pub aggregated : Fields → Bool
aggregated x = not x.releasable && not (eqb x.aggregator 0)

-- 7: "a sample proportion present and not equal to 1"
abbrev pub not_one : Option ℕ → Bool
not_one none = false
not_one (some bits) = not (Ieee.eq (of_bits binary64 bits) one_float)

abbrev pub sampled : Fields → Bool
sampled x = not x.releasable && not_one x.sample

-- 6 and 7 of one operand
abbrev pub operand_checks : Fields → List Check
operand_checks x = check 6 (aggregated x) ∷ check 7 (sampled x) ∷ []

module _ (l r : Sheet) where
  -- 8: "Neither operand is releasable and their groups differ"
  abbrev pub groups_clash : Bool
  groups_clash = both_private l.fields r.fields && not (same_groups l.groups r.groups)

  -- 9: "Neither is releasable and dataset ids differ"
  abbrev pub datasets_clash : Bool
  datasets_clash = both_private l.fields r.fields && not (same_dataset l.fields r.fields)

  -- 10: "Neither is releasable and c-stabilities differ"
  abbrev pub stabilities_clash : Bool
  stabilities_clash = both_private l.fields r.fields && not (eqb l.fields.c_stability r.fields.c_stability)

  -- 9 to 14 of components 2 to 5, which read the fields alone. 14: "Others need equal types"
  abbrev pub shape_checks : List Check
  shape_checks =
      check 9 datasets_clash
      ∷ check 10 stabilities_clash
      ∷ check 11 (columns_absent l.fields || columns_absent r.fields)
      ∷ check 12 (columns_clash l.fields r.fields)
      ∷ check 13 (rows_clash l.fields r.fields)
      ∷ check 14 (not (eqb l.fields.data_type r.fields.data_type))
      ∷ []

  -- 01: "Components 2 to 5 check in list order"; 17 to 26 follow, with 29 behind 20, and 28
  abbrev pub pair_checks : List Check
  pair_checks =
      operand_checks l.fields
      ++ operand_checks r.fields
      ++ (check 8 groups_clash ∷ shape_checks)

  -- 11 to 14 of Pool, which read the fields alone. 02, S-1: "11, 12 (here unequal counts always), 14 (unequal types)"
  abbrev pub stack_checks : List Check
  stack_checks =
      check 11 (columns_absent l.fields || columns_absent r.fields)
      ∷ check 12 (columns_unequal l.fields r.fields)
      ∷ check 14 (not (eqb l.fields.data_type r.fields.data_type))
      ∷ []

  -- 02, S-1: "It checks 6, 7, 8, 11, 12 .., 14 .., then 17 to 21, 24, 26"; S-2: 28 "directly after 26"; S-5: 29 "directly after 20"
  abbrev pub pool_checks : List Check
  pool_checks =
      operand_checks l.fields
      ++ operand_checks r.fields
      ++ (check 8 groups_clash ∷ stack_checks)

  abbrev pub both_of : ℕ → Bool
  both_of type = eqb l.fields.data_type type && eqb r.fields.data_type type

  -- 14 to 16 of Modulo: "types both Int or both Float", "right lowers all above 0"
  abbrev pub modulo_checks : List Check
  modulo_checks =
      check 14 (not (both_of int_type || both_of float_type))
      ∷ check 15 (not (cond (both_of int_type) (whole_lowers_present r.nature) (lowers_present r.nature)))
      ∷ check 16 (not (lowers_positive r.nature))
      ∷ []

  -- 15 and 16 of Log's data. Whole data under a whole base is 15, which keeps Log out of demand 3's plans (docs/DIFFERENCES.md)
  abbrev pub data_checks : List Check
  data_checks =
      check 15 (not (lowers_present l.nature))
      ∷ check 15 (is_whole_range l.nature && is_whole_range r.nature)
      ∷ check 16 (not (lowers_positive l.nature))
      ∷ []

  -- 14 to 16 of Log: "left type Float"; "15 and 16 are done for the base, then for the data"
  abbrev pub log_checks : List Check
  log_checks =
      check 14 (not (eqb l.fields.data_type float_type))
      ∷ check 15 (not (lowers_present r.nature && uppers_present r.nature))
      ∷ check 16 (not (all_suit_as_base r.nature))
      ∷ data_checks

  -- 14 to 16 of Power: "both Int or both Float: for Int all right lowers ≥ 0"
  abbrev pub power_checks : List Check
  power_checks =
      check 14 (not (both_of int_type || both_of float_type))
      ∷ check 15 (both_of int_type && not (whole_lowers_present r.nature))
      ∷ check 16 (both_of int_type && not (lowers_non_negative r.nature))
      ∷ []

  abbrev pub last_checks : List Check
  last_checks = check 8 groups_clash ∷ []

-- 14 to 16 of the components that read bounds
abbrev pub bound_checks : Component → Sheet → Sheet → List Check
bound_checks C.Abs l r = []
bound_checks C.Add l r = []
bound_checks C.Subtract l r = []
bound_checks C.Multiply l r = []
bound_checks C.Divide l r = []
bound_checks C.Modulo l r = modulo_checks l r
bound_checks C.Log l r = log_checks l r
bound_checks C.Power l r = power_checks l r
bound_checks C.Negative l r = []
bound_checks C.Pool l r = []

-- 01: "Modulo, Log and Power check 6, 7, 14, 15, 16, 11, then 17 to 26, then 8" (29 behind 20: 02, S-5); for 11 "only left's is read"
abbrev pub copy_checks : Component → Sheet → Sheet → List Check
copy_checks c l r = operand_checks l.fields ++ operand_checks r.fields ++ bound_checks c l r ++ (check 11 (columns_absent l.fields) ∷ [])

-- 01: "Abs and Negative check 6, 11, then 18 to 26" (29 behind 20: 02, S-5)
abbrev pub unary_checks : Fields → List Check
unary_checks x = check 6 (aggregated x) ∷ check 11 (columns_absent x) ∷ []
