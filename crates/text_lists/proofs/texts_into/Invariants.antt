-- The invariant of `text_lists::texts_into`: j columns are written, and the others will make the whole of them.
use Rattle.std.proofs.Common.{◌-◌}
use Rattle.numbers.specs.Result.{ok}
use Rattle.base.specs.Form.{form_of}
use Rattle.category_lists.proofs.Gathering.{Going}
use Rattle.text_lists.specs.Codes.{column_codes}
use Rattle.text_lists.proofs.texts_into.Given as goal

abbrev pub invariant-loop-j : goal.invariant-loop-j
invariant-loop-j l = Going (form_of l.f) (λ k. ok (column_codes l.joins (form_of l.f) l.left l.right k)) l.n l.initial.numbers l.initial.values l.numbers l.values 0 l.t l.j

abbrev pub decreases-loop-j : goal.decreases-loop-j
decreases-loop-j l = l.n - l.j
