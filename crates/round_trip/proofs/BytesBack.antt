-- Bytes that pass 3 to 5 are the bytes of the sheet that they spell, for any stored form whose places are laid out properly.
--     bytes_back          encoding undoes decoding; `passed_back` is the same of bytes that are `Passed`
--     decode_injective    two such that spell the same sheet are the same bytes
--     there_and_back      bytes whose sheet also fits a second form come back from there
-- Assumes nothing.
use mathlib.Core.Path.{◌≡◌, refl, sym, ap, ◌∙◌}
use mathlib.Core.Bool.{false}
use mathlib.Core.List.{List, ◌++◌}
use Prim.Native.Nat.{ℕ, ◌+◌, ◌*◌, ◌≤◌}
use native.Mathlib.Omega.{arith}
use lib.ListN.{length}
use borrow.Author.Tests.{leb-true}
use Rattle.octets.proofs.Reread.{AllBytes}
use Rattle.base.specs.Form.{Form, Laid, place, nature_at, rows_at, group_count, entries_at}
use Rattle.base.specs.Decode.{nature_in, fields_in, groups_in, decode}
use Rattle.base.specs.Encode.{nature_number, entry_count, value_count, text_size, size_bytes, mark_bytes, encode}
use Rattle.base.specs.Checks.{sizes_fail, fields_fail, bounds_fail}
use Rattle.base.proofs.Passed.{Passed, passed, long_enough, groups_fit}
use Rattle.base.proofs.Permitted.{permitted}
use Rattle.base.proofs.Groups.{groups_length, groups_copied}
use Rattle.round_trip.specs.WellFormed.{WellFormed}
use Rattle.round_trip.proofs.Filling.{Filling, ◌then◌, fill_part, fill_number, fill_all}
use Rattle.round_trip.proofs.Heads.{clean, marks_fill, values_fill, node_fills, gap_fills}
use Rattle.round_trip.proofs.Spelled.{SpelledBy, nature_spelled}
use Rattle.round_trip.proofs.Back.{sheet_back}

module _ {F : Form} (laid : Laid F) (s : List ℕ) (small : AllBytes s) where
  sizes_fill : SpelledBy F s (nature_in F s) → F.arrays_at ≤ length s → Filling s 0 (place F nature_at) (size_bytes F (length (groups_in F s)) (entry_count (nature_in F s)) (value_count (nature_in F s)))
  sizes_fill k long =
      let w = F.size_width in
      fill_number small w 0 {b = w} (groups_length F s) (omega arith) (omega arith)
      then fill_number small w w {b = 2 * w} k.entries (omega arith) (omega arith)
      then fill_number small w (2 * w) k.values (omega arith) (omega (arith, laid.sizes))

  pub bytes_back : sizes_fail F s ≡ false → fields_fail F s ≡ false → bounds_fail (nature_in F s) ≡ false → encode F (decode F s) ≡ s
  unfolding encode decode
  bytes_back sizes fields bounds =
      let z = passed F s sizes in
      let p = permitted F s fields in
      let c = clean F s p in
      let long = long_enough z in
      let k = nature_spelled F s small sizes fields bounds (leb-true _ _ c.nature) in
      let marks : Filling s (place F nature_at) (place F rows_at) (mark_bytes (nature_number (nature_in F s)) (text_size (nature_in F s)) (fields_in F s)) =
      rw (k.number, k.area) (marks_fill laid s small long c) in
      let groups = fill_part (13 * group_count F s) {b = entries_at F (group_count F s)} (groups_copied F s small (groups_fit z).room) refl in
      fill_all ((sizes_fill k long then marks then values_fill laid s small long c then node_fills laid s small long then gap_fills laid s small long c) then groups then k.bytes)

module _ {F : Form} (laid : Laid F) {s : List ℕ} (small : AllBytes s) (p : Passed F s) where
  pub passed_back : encode F (decode F s) ≡ s
  passed_back = bytes_back laid s small p.sizes p.fields p.bounds

  pub decode_injective : {s' : List ℕ} → AllBytes s' → Passed F s' → decode F s ≡ decode F s' → s ≡ s'
  decode_injective {s'} small' p' e = sym passed_back ∙ ap (encode F) e ∙ bytes_back laid s' small' p'.sizes p'.fields p'.bounds

  pub there_and_back : {G : Form} → Laid G → WellFormed G (decode F s) → (rest : List ℕ) → encode F (decode G (encode G (decode F s) ++ rest)) ≡ s
  there_and_back laid' fit rest = ap (encode F) (sheet_back laid' fit rest) ∙ passed_back
