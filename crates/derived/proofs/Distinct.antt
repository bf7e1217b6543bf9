-- Every category list of a derived sheet has no repeats, whatever the operands are: what is mapped, combined or united keeps first occurrences only.
--     derived_distinct    under all ten components, in any stored form
--     step_distinct       the same of the sheet that a step's bytes decode to
--     leaf_repeats        a leaf's lists may repeat
-- Assumes nothing.
use mathlib.Core.Path.{◌≡◌, refl, ap, ◌∙◌}
use mathlib.Core.Bool.{true, false}
use mathlib.Core.List.{List, [], ◌∷◌, ◌++◌}
use Prim.Native.Nat.{ℕ, ◌^◌, ◌<◌}
use lib.IntN.{pos}
use Rattle.octets.proofs.Reread.{AllBytes}
use Rattle.numbers.specs.Result.{Result, ok}
use Rattle.numbers.specs.Kind.{whole, float}
use Rattle.utilities.specs.Lists.{every, distinct}
use Rattle.base.specs.Form.{Form, Laid}
use Rattle.base.specs.Sheet.{Nature, absent, whole_range, float_range, whole_lists, bool_lists, float_lists, text_lists, Sheet}
use Rattle.base.specs.Decode.{decode}
use Rattle.base.specs.Components.{family_of}
use Rattle.base.specs.declared.Component.{Component}
use Rattle.base.specs.declared.Family.{Family}
use Rattle.base.specs.declared.Family.TheVariants as Fam
use Rattle.ends.specs.Ends.{end_rule}
use Rattle.ends.specs.Ranges.{whole_rule, range_pair, range_alone}
use Rattle.shape.specs.Fields.{numbered}
use Rattle.calls.specs.Natures.{lists_united, lists_pair, lists_alone, two_natures, binary_nature, pool_nature, unary_nature}
use Rattle.calls.specs.Derive.{derive}
use Rattle.calls.specs.Single.{step}
use Rattle.round_trip.proofs.Back.{sheet_back}
use Rattle.derived.specs.Repeats.{no_repeats}
use Rattle.derived.proofs.Values.{IfOk, value_is, gives_value, value_after}
use Rattle.derived.proofs.Natures.{two_natures_lem, OfLists, mapped_lists, paired_lists, united_lists}
use Rattle.derived.proofs.Families.{nature_by, of_derived}
use Rattle.derived.proofs.Derived.{numbered_rest, sound_formed}
use Rattle.derived.proofs.Written.{Written, step_written}

-- ---- natures

abbrev NoRepeats : Nature → Type 0
NoRepeats k = no_repeats k ≡ true

own_lists : OfLists NoRepeats
own_lists = record { nothing = refl; wholes = λ ls h. h; bools = λ ls h. h; texts = λ ls h. h }

module _ (c : Component) (type columns : ℕ) where
  -- ranges have no lists
  two_once : (together : Nature → Nature → Result Nature) (l r : Nature) → IfOk NoRepeats (together l r) → IfOk NoRepeats (two_natures c type columns together l r)
  two_once together l r h =
      two_natures_lem (λ g. IfOk NoRepeats g) c type columns together refl tt l r
      (λ xs ys e f. value_after NoRepeats (range_pair (whole_rule c type) columns xs ys) _ (λ zs. refl))
      (λ xs ys e f. value_after NoRepeats (range_pair (end_rule float c) columns xs ys) _ (λ zs. refl))
      h

  binary_once : (F : Form) (l r : Nature) → IfOk NoRepeats (binary_nature F c type columns l r)
  binary_once F l r = two_once (lists_pair F c type columns) l r (paired_lists NoRepeats own_lists c type columns F l r)

  pool_once : (l r : Nature) → IfOk NoRepeats (pool_nature c type columns l r)
  pool_once l r = two_once (lists_united columns) l r (united_lists NoRepeats own_lists c type columns l r)

  alone_once : (limit : ℕ) (l : Nature) → IfOk NoRepeats (lists_alone limit c type columns l)
  alone_once = mapped_lists NoRepeats own_lists c type columns

  unary_once : (limit : ℕ) (l : Nature) → IfOk NoRepeats (unary_nature limit c type columns l)
  unfolding unary_nature
  unary_once limit absent = refl
  unary_once limit (whole_range xs) = value_after NoRepeats (range_alone (end_rule whole c) columns xs) _ (λ zs. refl)
  unary_once limit (float_range xs) = value_after NoRepeats (range_alone (end_rule float c) columns xs) _ (λ zs. refl)
  unary_once limit (whole_lists ls) = alone_once limit (whole_lists ls)
  unary_once limit (bool_lists ls) = alone_once limit (bool_lists ls)
  unary_once limit (float_lists ls) = alone_once limit (float_lists ls)
  unary_once limit (text_lists ls) = alone_once limit (text_lists ls)

-- ---- sheets

pub derived_distinct : (F : Form) (c : Component) (l r s : Sheet) → derive F c l r ≡ ok s → no_repeats s.nature ≡ true
derived_distinct F c l r s e = (of_derived F c l r (λ columns. NoRepeats) (go (family_of c)) e).1
  where
    go : (f : Family) (columns : ℕ) → IfOk NoRepeats (nature_by F c f columns l r)
    go Fam.Unary columns = unary_once c l.fields.data_type columns F.category_limit l.nature
    go Fam.Pair columns = binary_once c l.fields.data_type columns F l.nature r.nature
    go Fam.Copy columns = binary_once c l.fields.data_type columns F l.nature r.nature
    go Fam.Pool columns = pool_once c l.fields.data_type columns l.nature r.nature

-- ---- bytes

module _ {F : Form} (laid : Laid F) (c : Component) (node : ℕ) (left right rest : List ℕ) where
  written_once : (vs : List ℕ) → Written laid c left right node vs → no_repeats (decode F (vs ++ rest)).nature ≡ true
  written_once vs w =
      let s = numbered (family_of c) node w.sheet in
      ap (λ (b : List ℕ). no_repeats (decode F (b ++ rest)).nature) w.bytes
      ∙ ap (λ (t : Sheet). no_repeats t.nature) (sheet_back laid (sound_formed laid s w.sound) rest)
      ∙ ap no_repeats (numbered_rest (family_of c) node w.sheet).1
      ∙ derived_distinct F c (decode F left) (decode F right) w.sheet w.derived

  -- whatever bytes follow
  pub step_distinct : {vs : List ℕ} → node < 2 ^ 32 → AllBytes left → AllBytes right → step F c node left right ≡ ok vs → no_repeats (decode F (vs ++ rest)).nature ≡ true
  step_distinct {vs} small p q e =
      written_once vs
      (value_is (Written laid c left right node) (step F c node left right)
      (gives_value (Written laid c left right node) (step F c node left right) (step_written laid c left right p q node small)) e)

-- {3,3}
pub leaf_repeats : no_repeats (whole_lists ((pos 3 ∷ pos 3 ∷ []) ∷ [])) ≡ false
unfolding every distinct
leaf_repeats = refl
