-- `checks::sizes_fail` meets its contract: the tests in the order of the definition. Assumes nothing.
use mathlib.Core.Path.{◌≡◌, ap}
use mathlib.Core.Bool.{not, ◌||◌}
use Prim.Native.Nat.{ℕ, ◌*◌, ◌≤◌, ◌<◌}
use native.Mathlib.Omega.{arith}
use lib.Dec.{eqb, ltb}
use lib.ListN.{length}
use borrow.Author.Tests.{lt-ltb, le-ltb}
use borrow.Author.Rules.{rules}
use Rattle.octets.proofs.Reread.{le_at_below}
use Rattle.base.specs.Form.{form_of, place, area_size_at, byte_at, nature_at, group_count, list_count, category_count, area_size, called_for, length_called_for}
use Rattle.base.specs.Checks.{sizes_fail}
use Rattle.base.proofs.Forms.{small}
use Rattle.checks.proofs.sizes_fail.Statement.{statement}
use Rattle.checks.proofs.sizes_fail.Tie as tie

returns : tie.Need-returns-then-s-arrays_at
unfolding sizes_fail
returns c =
    let a = c.args in
    let short : length a.s.now < (form_of a.f).arrays_at = omega arith in
    rw (lt-ltb (length a.s.now) (form_of a.f).arrays_at short)

returns-2 : tie.Need-returns-then-group_limit-g
unfolding sizes_fail
returns-2 c =
    let a = c.args in
    let F = form_of a.f in
    let s = a.s.now in
    let z = c.sizes_at-sizes.ensures in
    let l : F.arrays_at ≤ length s = omega arith in
    let g : F.group_limit < group_count F s = omega arith in
    rw (le-ltb (length s) F.arrays_at l, lt-ltb F.group_limit (group_count F s) g)

returns-3 : tie.Need-returns-then-list_limit-n
unfolding sizes_fail
returns-3 c =
    let a = c.args in
    let F = form_of a.f in
    let s = a.s.now in
    let z = c.sizes_at-sizes.ensures in
    let l : F.arrays_at ≤ length s = omega arith in
    let g : group_count F s ≤ F.group_limit = omega arith in
    let n : F.list_limit < list_count F s = omega arith in
    rw (le-ltb (length s) F.arrays_at l, le-ltb F.group_limit (group_count F s) g, lt-ltb F.list_limit (list_count F s) n)

returns-4 : tie.Need-returns-then-category_limit-t
unfolding sizes_fail
returns-4 c =
    let a = c.args in
    let F = form_of a.f in
    let s = a.s.now in
    let z = c.sizes_at-sizes.ensures in
    let l : F.arrays_at ≤ length s = omega arith in
    let g : group_count F s ≤ F.group_limit = omega arith in
    let n : list_count F s ≤ F.list_limit = omega arith in
    let t : F.category_limit < category_count F s = omega arith in
    rw (le-ltb (length s) F.arrays_at l, le-ltb F.group_limit (group_count F s) g, le-ltb F.list_limit (list_count F s) n, lt-ltb F.category_limit (category_count F s) t)

called-for-requires : tie.Need-called_for-requires
called-for-requires c κs =
    let a = c.args in
    let F = form_of a.f in
    let z = c.sizes_at-sizes.ensures in
    let below = le_at_below a.s.now (λ i. (c.shared_slice_known-1.given i).fits) in
    let w = F.size_width in
    omega (arith, (small a.f).sizes_read, z, c.area_size-a.ensures, below w 0, below w w, below w (2 * w), below 2 (place F area_size_at))

returns-5 : tie.Need-returns
unfolding sizes_fail
returns-5 c =
    let a = c.args in
    let F = form_of a.f in
    let s = a.s.now in
    let z = c.sizes_at-sizes.ensures in
    let l : F.arrays_at ≤ length s = omega (arith, c.if-s-arrays_at.false, c.arrays_at.ensures) in
    let g : group_count F s ≤ F.group_limit = omega (arith, c.if-group_limit-g.false, c.group_limit.ensures, z.groups) in
    let n : list_count F s ≤ F.list_limit = omega (arith, c.if-list_limit-n.false, c.list_limit.ensures, z.lists) in
    let t : category_count F s ≤ F.category_limit = omega (arith, c.if-category_limit-t.false, c.category_limit.ensures, z.categories) in
    let called : c.called_for.result ≡ length_called_for F s =
    rw (c.called_for.ensures, c.nature_of.ensures, z.groups, z.lists, z.categories)
    (ap (called_for F (byte_at F nature_at s) (group_count F s) (list_count F s) (category_count F s)) c.area_size-a.ensures) in
    rw (le-ltb (length s) F.arrays_at l, le-ltb F.group_limit (group_count F s) g, le-ltb F.list_limit (list_count F s) n, le-ltb F.category_limit (category_count F s) t)
    (λ i. ltb (c.text_limit.ensures.0 i) (c.area_size-a.ensures i) || not (eqb (length s) (called i)))

pub sizes_fail_spec : {M : Type 1} → statement M
sizes_fail_spec =
    tie.close
    (tie.spec
    (λ c κs. search rules)
    returns
    (λ c κs. search rules)
    (λ c κs. search rules)
    returns-2
    (λ c κs. search rules)
    returns-3
    (λ c κs. search rules)
    returns-4
    (λ c κs. search rules)
    (λ c κs. search rules)
    (λ c κs. search rules)
    called-for-requires
    returns-5)
