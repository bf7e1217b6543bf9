-- What a range's ends are asked by Modulo, Log and Power. base.rs: `lower_int`, `lower_float`, `upper_float`; where the Rust turns a whole bound into a
-- float to compare it with 0 or 1, the bound is compared as it is, which gives the same answer.
use Rattle.std.specs.Prelude.{Bool, true, false, not, ◌&&◌, ◌||◌, ℤ, Float}
use Rattle.std.proofs.Math.Option.{Option, none, some}
use Rattle.numbers.specs.Kind.{Kind, Span, whole, float}
use Rattle.utilities.specs.Lists.{every}
use Rattle.base.specs.Sheet.{Nature, absent, whole_range, float_range, whole_lists, bool_lists, float_lists, text_lists, is_whole_range}

abbrev pub is_present : {E : Type 0} → Option E → Bool
is_present none = false
is_present (some a) = true

module _ {E : Type 0} (K : Kind E) (limit : E) where
  -- an end that is present and above a limit, or below it
  abbrev pub above : Option E → Bool
  above none = false
  above (some a) = K.lt limit a

  abbrev pub under : Option E → Bool
  under none = false
  under (some a) = K.lt a limit

module _ {E : Type 0} (K : Kind E) where
  abbrev pub positive : Option E → Bool
  positive x = above K K.zero x

  -- 0 or above
  abbrev pub non_negative : Option E → Bool
  non_negative x = is_present x && not (under K K.zero x)

  -- 01: "base lower and upper in (0,1), or lower > 1". (The upper end of an entry is not below its lower.)
  abbrev pub suits_as_base : Span E → Bool
  suits_as_base r = (above K K.zero r.lower && under K K.one r.upper) || above K K.one r.lower

-- a range whose every entry passes; anything but a range does not
unfoldable pub every_entry : (Span ℤ → Bool) → (Span Float → Bool) → Nature → Bool
every_entry p q absent = false
every_entry p q (whole_range rs) = every p rs
every_entry p q (float_range rs) = every q rs
every_entry p q (whole_lists ls) = false
every_entry p q (bool_lists ls) = false
every_entry p q (float_lists ls) = false
every_entry p q (text_lists ls) = false

-- `lower_float` gives its list: a range without an absent lower
unfoldable pub lowers_present : Nature → Bool
lowers_present = every_entry (λ r. is_present r.lower) (λ r. is_present r.lower)

-- `upper_float` gives its list
unfoldable pub uppers_present : Nature → Bool
uppers_present = every_entry (λ r. is_present r.upper) (λ r. is_present r.upper)

-- `lower_int` gives its list: a whole range without an absent lower
unfoldable pub whole_lowers_present : Nature → Bool
whole_lowers_present k = is_whole_range k && lowers_present k

-- 01: "right lowers all above 0", "left lowers above 0"
unfoldable pub lowers_positive : Nature → Bool
lowers_positive = every_entry (λ r. positive whole r.lower) (λ r. positive float r.lower)

-- 01: "all right lowers ≥ 0"
unfoldable pub lowers_non_negative : Nature → Bool
lowers_non_negative = every_entry (λ r. non_negative whole r.lower) (λ r. non_negative float r.lower)

-- 01: "base lower and upper in (0,1), or lower > 1, in each entry"
unfoldable pub all_suit_as_base : Nature → Bool
all_suit_as_base = every_entry (suits_as_base whole) (suits_as_base float)
