-- What the tables of examples are made of: sheets, single calls from bytes to bytes, slots of a work buffer, and plans.
use Rattle.std.specs.Prelude.{◌≡◌, Bool, false, List, [], ◌∷◌, ◌++◌, ℕ, ◌-◌, ◌*◌, ℤ, length, replicate}
use Rattle.std.proofs.Math.Option.{Option, none, some}
use Rattle.octets.specs.Deliver.{delivered}
use Rattle.numbers.specs.Result.{Result, ok, refused}
use Rattle.base.specs.Form.{narrow, longest}
use Rattle.base.specs.Sheet.{Nature, Sheet}
use Rattle.base.specs.Encode.{encode, joined}
use Rattle.plan_form.specs.Form.{node_count}
use Rattle.calls.specs.Single.{Outcome, outcome, single}
use Rattle.calls.specs.Walk.{plan}

-- every row of a table holds
unfoldable pub AllHold : {E : Type 0} → (E → Type 0) → List E → Type 0
AllHold Holds [] = Unit {0}
AllHold Holds (e ∷ es) = Holds e × AllHold Holds es

-- ---- a sheet

-- every field that is not named is zero or absent
abbrev pub sheet_with : ℕ → Bool → Bool → ℕ → ℤ → ℕ → Option ℤ → ℤ → Nature → Sheet
sheet_with type releasable ordered stability rows columns dataset node k = record {
  fields = record {
    data_type = type;
    nullity = false;
    releasable = releasable;
    not_empty = false;
    ordered = ordered;
    c_stability = stability;
    aggregator = 0;
    rows = some rows;
    columns = some columns;
    dataset = dataset;
    dimensionality = none;
    sample = none;
  };
  node = node;
  groups = [];
  nature = k;
}

-- ---- a single call

-- operands are bytes, those of the output buffer `room` many
pub record Example : Type 0 where
  pub component : ℕ
  pub left : List ℕ
  pub right : List ℕ
  pub room : ℕ
  pub expected : Result Sheet

abbrev pub example : ℕ → List ℕ → List ℕ → ℕ → Result Sheet → Example
example k l r room g = record { component = k; left = l; right = r; room = room; expected = g }

abbrev pub out : Example → List ℕ
out e = replicate e.room 170

-- with node number 9
abbrev pub call : Example → Outcome
call e = single narrow e.component 9 e.left e.right (out e)

unfoldable pub leaves : Result Sheet → List ℕ → Outcome
leaves (ok s) lent = outcome 0 (length (encode narrow s)) (delivered lent (encode narrow s))
leaves (refused n) lent = outcome n 0 lent

-- the call leaves just that
abbrev pub Holds : Example → Type 0
Holds e = call e ≡ leaves e.expected (out e)

-- ---- slots

-- what stands behind a sheet, and in a slot that no step has written
abbrev pub filler : ℕ
filler = 165

abbrev pub slot_with : List ℕ → List ℕ
slot_with bytes = bytes ++ replicate (longest narrow - length bytes) filler

unfoldable pub slots_of : List Sheet → List ℕ
slots_of sheets = joined (λ s. slot_with (encode narrow s)) sheets

-- ---- a plan

-- a plan's bytes, its leaves, its steps' sheets as far as it goes, and its reply
pub record Plan : Type 0 where
  pub bytes : List ℕ
  pub handed_in : List Sheet
  pub steps : List Sheet
  pub code : ℕ
  pub value : ℕ

-- slots for all nodes of a plan, of which those with these sheets are written
abbrev pub work : Plan → List Sheet → List ℕ
work e sheets = slots_of sheets ++ replicate ((node_count e.bytes - length sheets) * longest narrow) filler

abbrev pub HoldsPlan : Plan → Type 0
HoldsPlan e = plan narrow e.bytes (work e e.handed_in) ≡ outcome e.code e.value (work e (e.handed_in ++ e.steps))
