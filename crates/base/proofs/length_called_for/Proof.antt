-- `base::length_called_for` meets its contract. Assumes nothing.
use Prim.Native.Nat.{◌*◌}
use native.Mathlib.Omega.{arith}
use borrow.Author.Rules.{rules}
use Rattle.octets.proofs.Reread.{le_at_below}
use Rattle.base.specs.Form.{form_of, place, area_size_at}
use Rattle.base.proofs.Forms.{small}
use Rattle.base.proofs.length_called_for.Statement.{statement}
use Rattle.base.proofs.length_called_for.Tie as tie

called-for-requires : tie.Need-called_for-requires
called-for-requires c κs =
    let sizes = c.sizes_at-sizes.ensures in
    let a = c.args in
    let w = (form_of a.f).size_width in
    let below = le_at_below a.s.now (λ i. (c.shared_slice_known-1.given i).fits) in
    omega (arith, (small a.f).sizes_read, sizes, c.area_size.ensures, below w 0, below w w, below w (2 * w), below 2 (place (form_of a.f) area_size_at))

returns : tie.Need-returns
returns c =
    let sizes = c.sizes_at-sizes.ensures in
    rw (c.called_for.ensures, c.nature_of.ensures, sizes.groups, sizes.lists, sizes.categories, c.area_size.ensures)

pub length_called_for_spec : {M : Type 1} → statement M
length_called_for_spec = tie.close (tie.spec (λ c κs. search rules) (λ c κs. search rules) (λ c κs. search rules) called-for-requires returns)
