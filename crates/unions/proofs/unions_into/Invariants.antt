-- The invariant of `unions::unions_into`: j columns are written, and the others will make the whole of them.
use Rattle.std.proofs.Common.{List, ℕ, ◌-◌, ℤ}
use Rattle.numbers.specs.Result.{Result}
use Rattle.numbers.specs.Kind.{eq_z}
use Rattle.base.specs.Form.{Form, form_of}
use Rattle.base.specs.Decode.{as_whole, lists}
use Rattle.category_lists.proofs.Gathering.{Going}
use Rattle.unions.specs.Code.{union_of}
use Rattle.unions.proofs.unions_into.Given as goal

-- column j of the two sheets
abbrev pub union_in : Form → List ℕ → List ℕ → ℕ → Result (List ℤ)
union_in F left right = union_of eq_z (lists F left as_whole) (lists F right as_whole)

abbrev pub invariant-loop-j : goal.invariant-loop-j
invariant-loop-j l = Going (form_of l.f) (union_in (form_of l.f) l.left l.right) l.n l.initial.numbers l.initial.values l.numbers l.values 0 l.t l.j

abbrev pub decreases-loop-j : goal.decreases-loop-j
decreases-loop-j l = l.n - l.j
