-- The nature that a sheet's bytes spell.
--     number_of, count_of    its number and its list count
-- Assumes nothing.
use mathlib.Core.Path.{◌≡◌, refl, ap, subst, ◌∙◌}
use mathlib.Core.Bool.{Bool, true, false}
use mathlib.Core.List.{List}
use Prim.Native.Nat.{ℕ, zero, suc, ◌≤◌}
use native.Mathlib.Omega.{arith}
use lib.Dec.{T, eqb}
use Rattle.base.specs.Form.{Form, byte_at, nature_at, is_range_nature, list_count}
use Rattle.base.specs.Decode.{as_whole, as_bits, text_in, nature_in}
use Rattle.base.specs.Encode.{nature_number, entry_count}
use Rattle.base.proofs.Permitted.{permitted, nature_within}
use Rattle.base.proofs.Natures.{nature_absent, nature_whole_range, nature_float_range, nature_whole_lists, nature_bool_lists, nature_float_lists, nature_text_lists}
use Rattle.category_lists.proofs.Operands.{lists_length}
use Rattle.lending.specs.Code.{Read}
use Rattle.list_codes.specs.Code.{Lists}

pub yes_no : ◌≡◌ {A = Bool} true false → ⊥
yes_no e = subst T e tt

module _ (F : Form) (s : List ℕ) where
  numbered : (k : ℕ) → k ≤ 6 → byte_at F nature_at s ≡ k → nature_number (nature_in F s) ≡ k
  numbered zero h e = ap nature_number (nature_absent F s e)
  numbered (suc zero) h e = ap nature_number (nature_whole_range F s e)
  numbered (suc (suc zero)) h e = ap nature_number (nature_float_range F s e)
  numbered (suc (suc (suc zero))) h e = ap nature_number (nature_whole_lists F s e)
  numbered (suc (suc (suc (suc zero)))) h e = ap nature_number (nature_bool_lists F s e)
  numbered (suc (suc (suc (suc (suc zero))))) h e = ap nature_number (nature_float_lists F s e)
  numbered (suc (suc (suc (suc (suc (suc zero)))))) h e = ap nature_number (nature_text_lists F s e)
  numbered (suc (suc (suc (suc (suc (suc (suc k))))))) h e = absurd (omega arith)

  pub number_of : Read F s → nature_number (nature_in F s) ≡ byte_at F nature_at s
  number_of r = numbered (byte_at F nature_at s) (nature_within F s (permitted F s r.fields)) refl

  entered : (k : ℕ) → k ≤ 6 → eqb k 0 ≡ false → is_range_nature k ≡ false → byte_at F nature_at s ≡ k → entry_count (nature_in F s) ≡ list_count F s
  entered zero h p n e = absurd (yes_no p)
  entered (suc zero) h p n e = absurd (yes_no n)
  entered (suc (suc zero)) h p n e = absurd (yes_no n)
  entered (suc (suc (suc zero))) h p n e = ap entry_count (nature_whole_lists F s e) ∙ lists_length F s as_whole
  entered (suc (suc (suc (suc zero)))) h p n e = ap entry_count (nature_bool_lists F s e) ∙ lists_length F s as_bits
  entered (suc (suc (suc (suc (suc zero))))) h p n e = ap entry_count (nature_float_lists F s e) ∙ lists_length F s as_bits
  entered (suc (suc (suc (suc (suc (suc zero)))))) h p n e = ap entry_count (nature_text_lists F s e) ∙ lists_length F s (text_in F s)
  entered (suc (suc (suc (suc (suc (suc (suc k))))))) h p n e = absurd (omega arith)

  pub count_of : Lists F s → entry_count (nature_in F s) ≡ list_count F s
  count_of l = entered (byte_at F nature_at s) (nature_within F s (permitted F s l.read.fields)) l.present l.no_range refl
