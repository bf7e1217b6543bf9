-- The invariant of `category_lists::list_into`: the list is what stands in out and the categories that are left, without repeats.
use Rattle.std.proofs.Common.{[], ◌-◌, ◌≤◌, take, get_or}
use Rattle.numbers.specs.Kind.{eq_z}
use Rattle.utilities.specs.Lists.{firsts}
use Rattle.utilities.specs.Noted.{Hinting}
use Rattle.base.specs.Form.{form_of}
use Rattle.base.specs.Decode.{as_whole, list_at, lists as listsIn}
use Rattle.base.specs.Sized.{ListsFit}
use Rattle.category_lists.proofs.Operands.{Taking}
use Rattle.category_lists.proofs.list_into.Given as goal

abbrev pub invariant-loop-i : goal.invariant-loop-i
invariant-loop-i l = record {
  fits : ListsFit (form_of l.f) l.s l.g l.lists l.t;
  few : l.n ≤ l.i;
  hinted : Hinting l.hints (take l.n l.out);
  taking : Taking l.n l.initial.out l.out (list_at (form_of l.f) l.s as_whole l.g l.t l.j (l.t - l.i) l.i) (firsts eq_z (get_or (listsIn (form_of l.f) l.s as_whole) l.j []));
}
