-- The invariants of `category_maps::maps_into`: j columns are written, and the others will make the whole of them; column j is what the values that are
-- left make of what was seen, and the store keeps that as far as it has room. Assumes nothing.
use mathlib.Core.Path.{◌≡◌}
use mathlib.Core.Bool.{true}
use mathlib.Core.List.{List}
use Prim.Native.Nat.{ℕ, ◌+◌, ◌-◌, ◌≤◌}
use lib.IntN.{ℤ}
use lib.ListN.{length, take, drop}
use Rattle.numbers.specs.Result.{Result}
use Rattle.numbers.specs.Kind.{eq_z}
use Rattle.utilities.specs.Noted.{Hinting}
use Rattle.base.specs.Form.{form_of}
use Rattle.base.specs.declared.Component.{Component}
use Rattle.category_lists.specs.Categories.{rule_of}
use Rattle.category_lists.proofs.Columnwise.{column_in}
use Rattle.category_lists.proofs.Gathering.{Going, said}
use Rattle.category_lists.proofs.Noting.{noted_from, Making}
use Rattle.category_maps.proofs.maps_into.Given as goal

-- what the values from i on make of those that were seen
abbrev pub rest_of : Component → List ℤ → ℕ → List ℤ → Result (List ℤ)
rest_of c us i seen = noted_from eq_z (λ a. rule_of c a a) seen (drop i us)

abbrev pub invariant-loop-a : goal.invariant-loop-a
invariant-loop-a l = record {
  fine : said l.refused ≡ 0;
  bound : l.k ≤ length l.store + 1;
  hinted : Hinting l.hints (take l.k l.store);
  making : Making l.k l.store (rest_of l.c l.a-items l.a-index) (column_in true l.c (form_of l.f) l.left l.left l.j);
}

abbrev pub invariant-product : goal.invariant-product
invariant-product l = Going (form_of l.f) (column_in true l.c (form_of l.f) l.left l.left) l.n l.fn.numbers l.fn.values l.numbers l.values (said l.refused) l.t l.j

abbrev pub decreases-product : goal.decreases-product
decreases-product l = l.n - l.j
