-- Every definition that a single call computes with, opened by one name, for theorems by computation.
use Rattle.octets.specs.Deliver as Deliver
use Rattle.octets.specs.Le as Le
use Rattle.numbers.specs.Checked as Checked
use Rattle.numbers.specs.Result as Result
use Rattle.utilities.specs.Columns as Columns
use Rattle.utilities.specs.Lists as Lists
use Rattle.base.specs.Bounds as Bounds
use Rattle.base.specs.Checks as Checks
use Rattle.base.specs.Components as Components
use Rattle.base.specs.Decode as Decode
use Rattle.base.specs.Encode as Encode
use Rattle.ends.specs.Ends as Ends
use Rattle.shape.specs.Fields as Fields
use Rattle.shape.specs.Shape as Shape
use Rattle.ends.specs.Ranges as Ranges
use Rattle.category_lists.specs.Categories as Categories
use Rattle.calls.specs.Derive as Derive
use Rattle.calls.specs.Natures as Natures
use Rattle.calls.specs.Single as Single
use Rattle.std.specs.Float.Ieee as Ieee

unfoldable pub computing : Unit {0}
unfolding Deliver.delivered Le.le_at Le.le_bytes Checked.checked_of Checked.quotient_of Result.checked Result.first_failing Columns.each_pair Columns.each Lists.list_from Lists.every Lists.any Lists.has Lists.noted Lists.firsts_from Lists.firsts Lists.repeated Lists.standardized Bounds.every_entry Bounds.lowers_present Bounds.uppers_present Bounds.whole_lowers_present Bounds.lowers_positive Bounds.lowers_non_negative Bounds.all_suit_as_base Checks.holds_from Checks.sizes_fail Checks.bytes_permitted Checks.values_permitted Checks.groups_permitted Checks.range_permitted Checks.lists_permitted Checks.end_to_end Checks.area_permitted Checks.nature_permitted Checks.fields_fail Checks.crossed Checks.unbounded Checks.bounds_fail Checks.read Components.component_of Decode.option_at Decode.list_at Decode.entries Decode.lists Decode.text_in Decode.nature_in Decode.fields_in Decode.groups_in Decode.decode Encode.joined Encode.end_bytes Encode.total Encode.text_of Encode.area_of Encode.spots_of Encode.spots_from Encode.range_bytes Encode.numbers_from Encode.lists_bytes Encode.nature_bytes Encode.mark_bytes Encode.value_bytes Encode.group_bytes Encode.encode Ends.from_two Ends.from_one Ends.from_both Ends.add_ends Ends.sub_ends Ends.neg_ends Ends.abs_lower Ends.abs_upper Ends.abs_ends Ends.corners Ends.mul_corners Ends.mul_ends Ends.div_corners Ends.div_upper Ends.div_lower Ends.div_present Ends.div_by Ends.div_ends Ends.mod_ends Ends.pool_ends Ends.end_rule Fields.divisor_sets_nullity Fields.adds_nullity Fields.pair_fields Fields.copy_fields Fields.pool_fields Fields.numbered Shape.same_groups Shape.rows_sum Ranges.whole_rule Ranges.range_pair Ranges.range_alone Ranges.range_nature Categories.category_rule Categories.same_text Categories.pairs Categories.product Categories.combined Categories.image Categories.mapped Categories.union Categories.united Categories.kept_to Categories.text_kept Derive.derive_unary Derive.derive_pair Derive.derive_copy Derive.derive_pool Derive.derive Natures.lists_united Natures.lists_pair Natures.lists_alone Natures.whole_range_with Natures.float_range_with Natures.lists_with Natures.two_natures Natures.unary_nature Single.step_sheet Single.step Single.delivery Single.single_of Single.single Ieee.of_bits Ieee.to_bits Ieee.add Ieee.sub Ieee.mul Ieee.div Ieee.neg Ieee.lt Ieee.eq Ieee.is_nan
computing = tt
