-- The invariant of `unions::note_values`: the values that were read are noted.
use Rattle.std.proofs.Common.{List, ◌+◌, ◌≤◌, ℤ, length, take}
use Rattle.numbers.specs.Kind.{eq_z}
use Rattle.utilities.specs.Lists.{firsts_from}
use Rattle.utilities.specs.Noted.{Hinting}
use Rattle.category_lists.specs.Answers.{Stored}
use Rattle.unions.proofs.note_values.Given as goal

abbrev pub invariant-loop-v : goal.invariant-loop-v
invariant-loop-v l = record {
  bound : l.count ≤ length l.store + 1;
  hinted : Hinting l.hints (take l.count l.store);
  stored : (seen : List ℤ) → Stored l.k l.initial.store seen → Stored l.count l.store (firsts_from eq_z seen (take l.v-index l.v-items));
}
