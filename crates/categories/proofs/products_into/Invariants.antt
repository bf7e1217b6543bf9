-- The invariants of `categories::products_into`: j columns are written, and the others will make the whole of them; column j is what the pairs that are
-- left make of what was seen, and the store keeps that as far as it has room. Assumes nothing.
use mathlib.Core.Path.{◌≡◌}
use mathlib.Core.Bool.{false}
use Prim.Native.Nat.{◌+◌, ◌-◌, ◌≤◌}
use lib.ListN.{length, take}
use Rattle.numbers.specs.Kind.{eq_z}
use Rattle.utilities.specs.Noted.{Hinting}
use Rattle.base.specs.Form.{form_of}
use Rattle.category_lists.specs.Categories.{rule_of}
use Rattle.category_lists.proofs.Columnwise.{column_in}
use Rattle.category_lists.proofs.Gathering.{Going, said}
use Rattle.category_lists.proofs.Noting.{Making}
use Rattle.categories.proofs.Pairs.{in_row, in_pairs}
use Rattle.categories.proofs.products_into.Given as goal

-- within a row: the pairs of one left value, a, with the right values that are left, and then the rows behind it
abbrev pub invariant-loop-b : goal.invariant-loop-b
invariant-loop-b l = record {
  fine : said l.refused ≡ 0;
  bound : l.k ≤ length l.store + 1;
  hinted : Hinting l.hints (take l.k l.store);
  making : Making l.k l.store (in_row eq_z (rule_of l.c) l.a l.a-items l.rights (l.a-index + 1) l.b-index) (column_in false l.c (form_of l.f) l.left l.right l.j);
}

-- between rows: the rows that are left
abbrev pub invariant-loop-a : goal.invariant-loop-a
invariant-loop-a l = record {
  fine : said l.refused ≡ 0;
  bound : l.k ≤ length l.store + 1;
  hinted : Hinting l.hints (take l.k l.store);
  making : Making l.k l.store (in_pairs eq_z (rule_of l.c) l.a-items l.rights l.a-index) (column_in false l.c (form_of l.f) l.left l.right l.j);
}

abbrev pub invariant-product : goal.invariant-product
invariant-product l = Going (form_of l.f) (column_in false l.c (form_of l.f) l.left l.right) l.n l.fn.numbers l.fn.values l.numbers l.values (said l.refused) l.t l.j

abbrev pub decreases-product : goal.decreases-product
decreases-product l = l.n - l.j
