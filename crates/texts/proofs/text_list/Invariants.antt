-- The invariant of `texts::text_list`: the list is what stands in out and the texts that are left, without repeats.
use Rattle.std.proofs.Common.{[], ◌-◌, ◌≤◌, get_or}
use Rattle.utilities.specs.Lists.{firsts}
use Rattle.base.specs.Form.{form_of}
use Rattle.base.specs.Decode.{list_at, lists as listsIn}
use Rattle.base.specs.Sized.{ListsFit}
use Rattle.texts.specs.Joins.{as_part, same_join}
use Rattle.texts.specs.Code.{Joins}
use Rattle.texts.proofs.Noting.{Taking}
use Rattle.texts.proofs.text_list.Given as goal

abbrev pub invariant-loop-i : goal.invariant-loop-i
invariant-loop-i l =
    let F = form_of l.f in
    let same = same_join F l.s l.s in record {
      fits : ListsFit F l.s l.g l.lists l.t;
      few : l.n ≤ l.i;
      lies : Joins F l.s l.s l.n l.out;
      taking : Taking same l.n l.out (list_at F l.s as_part l.g l.t l.j (l.t - l.i) l.i) (firsts same (get_or (listsIn F l.s as_part) l.j []));
    }
