-- A well-formed sheet comes back when its bytes are decoded, whatever bytes follow.
--     called_for_lem          the sizes in the bytes call for the bytes of the sheet, no more and no less
--     sheet_back          decoding undoes encoding
--     sheet_bytes_back    the length called for cuts the sheet's bytes out
-- Assumes nothing.
use mathlib.Core.Path.{◌≡◌, ap, ◌∙◌}
use mathlib.Core.List.{List, ◌++◌}
use Prim.Native.Nat.{ℕ}
use native.Mathlib.Omega.{arith}
use lib.ListN.{length, take}
use lib.Seq.{take-append_seam}
use Rattle.base.specs.Form.{Form, Laid, length_called_for}
use Rattle.base.specs.Sheet.{Sheet}
use Rattle.base.specs.Decode.{decode}
use Rattle.base.specs.Encode.{encode}
use Rattle.round_trip.specs.WellFormed.{WellFormed}
use Rattle.round_trip.proofs.Table.{sheet_length}
use Rattle.round_trip.proofs.Fields.{group_count_back, list_count_back, category_count_back, area_size_back, nature_byte_back, node_back, fields_back, groups_back}
use Rattle.round_trip.proofs.Natures.{arrays_length, nature_back}

module _ {F : Form} (laid : Laid F) {s : Sheet} (fit : WellFormed F s) (rest : List ℕ) where
  pub called_for_lem : length_called_for F (encode F s ++ rest) ≡ length (encode F s)
  called_for_lem =
      rw (nature_byte_back F laid s fit rest, group_count_back F laid s fit rest, list_count_back F laid s fit rest, category_count_back F laid s fit rest, area_size_back F laid s fit rest)
      (omega (arith, sheet_length F s, arrays_length F s.nature))

  pub sheet_back : decode F (encode F s ++ rest) ≡ s
  unfolding decode
  sheet_back =
      let fields = fields_back F laid s fit rest in
      let node = node_back F laid s fit rest in
      let groups = groups_back F laid s fit rest in
      let nature = nature_back F laid s.fields s.node s.groups s.nature fit rest in
      λ i. record { fields = fields i; node = node i; groups = groups i; nature = nature i }

  pub sheet_bytes_back : take (length_called_for F (encode F s ++ rest)) (encode F s ++ rest) ≡ encode F s
  sheet_bytes_back = ap (λ (n : ℕ). take n (encode F s ++ rest)) called_for_lem ∙ take-append_seam (encode F s) rest
