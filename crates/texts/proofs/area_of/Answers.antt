-- `texts::area_of` meets its contract. Assumes nothing.
use Rattle.std.proofs.Common.{◌*◌, arith}
use Rattle.octets.proofs.Reread.{le_at_below}
use Rattle.base.specs.Form.{form_of}
use Rattle.base.proofs.Forms.{small}
use Rattle.texts.proofs.area_of.Goals as goal

pub area_at-requires : goal.area_at-requires
area_at-requires c =
    let a = c.args in
    let w = (form_of a.f).size_width in
    let below = le_at_below a.s.now (λ i. (c.type_inv.s i).fits) in
    omega (arith, (small a.f).sizes_read, c.sizes_at-sizes.ensures, below w 0, below w (2 * w))
