-- The invariants of `text_columns::note_pairs`: the pairs of the parts of left that were read are noted; within a row, behind them, those of the parts of
-- right that were read.
use Rattle.std.proofs.Common.{◌++◌, ◌+◌, ◌≤◌, map, pos, length, take, get_or}
use Rattle.utilities.specs.Lists.{firsts}
use Rattle.base.specs.Form.{form_of}
use Rattle.category_lists.specs.Answers.{Stored}
use Rattle.texts.specs.Joins.{join_code, same_join}
use Rattle.texts.specs.Code.{Joins}
use Rattle.text_columns.specs.Codes.{pair_codes}
use Rattle.text_columns.proofs.note_pairs.Given as goal

abbrev pub invariant-loop-a : goal.invariant-loop-a
invariant-loop-a l = record {
  bound : l.k ≤ length l.store + 1;
  lies : Joins (form_of l.f) l.left l.right l.k l.store;
  stored : Stored l.k l.store (firsts (same_join (form_of l.f) l.left l.right) (pair_codes (take l.a-index l.a-items) l.rights));
}

abbrev pub invariant-loop-b : goal.invariant-loop-b
invariant-loop-b l = record {
  bound : l.k ≤ length l.store + 1;
  lies : Joins (form_of l.f) l.left l.right l.k l.store;
  stored : Stored l.k l.store (firsts (same_join (form_of l.f) l.left l.right) (pair_codes (take l.a-index l.a-items) l.rights ++ map (join_code (get_or l.a-items l.a-index (pos 0))) (take l.b-index l.rights)));
}
