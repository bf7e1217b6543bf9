-- The invariants of `text_columns::note_both`: left's parts that were read are noted; behind all of them those of right.
use Rattle.std.proofs.Common.{◌+◌, ◌≤◌, length, take}
use Rattle.utilities.specs.Lists.{firsts}
use Rattle.base.specs.Form.{form_of}
use Rattle.category_lists.specs.Answers.{Stored}
use Rattle.texts.specs.Joins.{same_join}
use Rattle.texts.specs.Code.{Joins}
use Rattle.text_columns.specs.Codes.{both_codes}
use Rattle.text_columns.proofs.note_both.Given as goal

abbrev pub invariant-loop-z : goal.invariant-loop-z
invariant-loop-z l = record {
  bound : l.k ≤ length l.store + 1;
  lies : Joins (form_of l.f) l.left l.right l.k l.store;
  stored : Stored l.k l.store (firsts (same_join (form_of l.f) l.left l.right) (take l.z-index l.z-items));
}

abbrev pub invariant-loop-b : goal.invariant-loop-b
invariant-loop-b l = record {
  bound : l.k ≤ length l.store + 1;
  lies : Joins (form_of l.f) l.left l.right l.k l.store;
  stored : Stored l.k l.store (firsts (same_join (form_of l.f) l.left l.right) (both_codes (take l.l l.us) (take l.b-index l.b-items)));
}
