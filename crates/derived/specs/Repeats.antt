-- What no sheet that is derived has: a category twice in one list.
use Rattle.std.specs.Prelude.{Bool, true, eqb}
use Rattle.numbers.specs.Kind.{eq_z}
use Rattle.utilities.specs.Lists.{every, distinct}
use Rattle.base.specs.Sheet.{Nature, absent, whole_range, float_range, whole_lists, bool_lists, float_lists, text_lists}
use Rattle.category_lists.specs.Categories.{same_text}

-- 02, S-6: "each user of that mapping may rely on lists without repeats". (What pairs and Pool make had none before, so that now no derived list has any. A
-- leaf's lists may.) Bool and float categories are compared by their 64 bits
abbrev pub no_repeats : Nature → Bool
no_repeats absent = true
no_repeats (whole_range rs) = true
no_repeats (float_range rs) = true
no_repeats (whole_lists ls) = every (distinct eq_z) ls
no_repeats (bool_lists ls) = every (distinct eqb) ls
no_repeats (float_lists ls) = every (distinct eqb) ls
no_repeats (text_lists ls) = every (distinct same_text) ls
