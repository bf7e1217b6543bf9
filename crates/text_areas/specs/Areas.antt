-- Texts as they are laid behind their values.
use Rattle.std.specs.Prelude.{◌≡◌, List, ◌++◌, ℕ, ◌+◌, ◌*◌, ◌≤◌, ◌<◌, length, take}
use Rattle.base.specs.Form.{Form, text_lists_nature}
use Rattle.base.specs.Decode.{as_bits}
use Rattle.base.specs.Encode.{text_of, spots_of, list_bytes}
use Rattle.writer.specs.declared.Parts.{Parts}
use Rattle.base.specs.Refusals.{Answer}
use Rattle.base.specs.declared.refusals.Refusal.TheVariants.{TooMuchText}
use Rattle.std.specs.declared.result.Result.TheVariants as D

module _ (F : Form) where
  -- n lists of t texts whose area has `size` bytes, where the list numbers and the values stand in the two buffers
  abbrev pub laid_parts : ℕ → ℕ → ℕ → Parts
  laid_parts n t size = record { nature = text_lists_nature; entries = n; values = t; text = size; first = F.number_width * t; second = 8 * t + size }

  -- the texts xs were laid end to end behind their values, or are more than an area holds
  pub record AreaLaid (n t : ℕ) (xs : List (List ℕ)) (values : List ℕ) (r : Answer Parts) : Type 0 where
    pub over : F.text_limit < length (text_of xs) → r ≡ D.Err TooMuchText
    pub given : length (text_of xs) ≤ F.text_limit → r ≡ D.Ok (laid_parts n t (length (text_of xs)))
    pub bytes : length (text_of xs) ≤ F.text_limit → take (8 * t + length (text_of xs)) values ≡ list_bytes as_bits (spots_of 0 xs) ++ text_of xs
