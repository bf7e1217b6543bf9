-- No refusal has the number 0, which stands for none. Assumes nothing.
use mathlib.Core.Path.{◌≡◌, refl, sym, ap, ◌∙◌}
use mathlib.Core.Bool.{Bool, false, cond}
use Prim.Native.Nat.{ℕ, ◌<◌}
use native.Mathlib.Omega.{arith}
use lib.Dec.{eqb}
use Rattle.std.specs.Prelude.{IsErrAnd}
use Rattle.std.specs.declared.result.Result.TheVariants.{Ok, Err}
use Rattle.base.specs.Refusals.{number_of, Answer, code_in}
use Rattle.base.specs.declared.refusals.Refusal.{Refusal}
use Rattle.base.specs.declared.refusals.Refusal.TheVariants as R

pub numbered : (e : Refusal) → eqb (number_of e) 0 ≡ false
numbered R.Malformed = refl
numbered R.NoComponent = refl
numbered R.Sizes = refl
numbered R.Fields = refl
numbered R.Bounds = refl
numbered R.Aggregated = refl
numbered R.Sampled = refl
numbered R.Groups = refl
numbered R.Datasets = refl
numbered R.Stabilities = refl
numbered R.NoColumns = refl
numbered R.Columns = refl
numbered R.Rows = refl
numbered R.Types = refl
numbered R.BoundKinds = refl
numbered R.Condition = refl
numbered R.RangeKinds = refl
numbered R.UnevenList = refl
numbered R.FloatCategories = refl
numbered R.NoLists = refl
numbered R.CategoryKinds = refl
numbered R.NoRule = refl
numbered R.MayMeetZero = refl
numbered R.Leaves64Bits = refl
numbered R.OverTheLimit = refl
numbered R.NoRoom = refl
numbered R.TooMuchText = refl
numbered R.ListCount = refl
numbered R.NotSeen = refl

pub above_none : (e : Refusal) → 0 < number_of e
above_none R.Malformed = omega arith
above_none R.NoComponent = omega arith
above_none R.Sizes = omega arith
above_none R.Fields = omega arith
above_none R.Bounds = omega arith
above_none R.Aggregated = omega arith
above_none R.Sampled = omega arith
above_none R.Groups = omega arith
above_none R.Datasets = omega arith
above_none R.Stabilities = omega arith
above_none R.NoColumns = omega arith
above_none R.Columns = omega arith
above_none R.Rows = omega arith
above_none R.Types = omega arith
above_none R.BoundKinds = omega arith
above_none R.Condition = omega arith
above_none R.RangeKinds = omega arith
above_none R.UnevenList = omega arith
above_none R.FloatCategories = omega arith
above_none R.NoLists = omega arith
above_none R.CategoryKinds = omega arith
above_none R.NoRule = omega arith
above_none R.MayMeetZero = omega arith
above_none R.Leaves64Bits = omega arith
above_none R.OverTheLimit = omega arith
above_none R.NoRoom = omega arith
above_none R.TooMuchText = omega arith
above_none R.ListCount = omega arith
above_none R.NotSeen = omega arith

module _ {X : Type 0} {r : Answer X} {e : Refusal} (is : r ≡ Err e) where
  pub code_err : code_in r ≡ number_of e
  code_err = ap code_in is

  pub code_numbered : eqb (code_in r) 0 ≡ false
  code_numbered = ap (λ (k : ℕ). eqb k 0) code_err ∙ numbered e

-- what `?` hands on is what it was given
pub handed_on : {X : Type 0} (r : Answer X) (e : Refusal) → IsErrAnd r (λ x. x ≡ e) → r ≡ Err e
handed_on (Ok x) e h = elim h [ ]
handed_on (Err f) e h = ap (λ (x : Refusal). Err x) h

pub passed_on : {X : Type 0} (r : Answer X) (e : Refusal) → IsErrAnd r (λ x. x ≡ e) → code_in r ≡ number_of e
passed_on r e h = ap code_in (handed_on r e h)
