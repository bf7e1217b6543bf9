-- The invariant of `texts::has_join`: none of the joins that were read is the one that is sought.
use Rattle.std.proofs.Common.{◌≡◌, false, take}
use Rattle.utilities.specs.Lists.{has}
use Rattle.base.specs.Form.{form_of}
use Rattle.texts.specs.Joins.{same_join}
use Rattle.texts.proofs.has_join.Given as goal

abbrev pub invariant-loop-v : goal.invariant-loop-v
invariant-loop-v l = has (same_join (form_of l.f) l.left l.right) l.z (take l.v-index l.v-items) ≡ false
