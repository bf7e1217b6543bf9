-- `texts::part_byte` meets its contract. Assumes nothing.
use Rattle.std.proofs.Common.{ℕ, ◌+◌, get_or, sym, ap₂, ◌∙◌}
use Rattle.base.specs.Form.{form_of}
use Rattle.texts.proofs.Bytes.{part_at}
use Rattle.texts.proofs.part_byte.Goals as goal

pub returns : goal.returns
returns c =
    let a = c.args in
    let s = a.s.now in
    c.byte_at.ensures
    ∙ ap₂ (λ (x y : ℕ). get_or s (x + y + a.i) 0) c.area_of.ensures c.part_start.ensures.0
    ∙ sym (part_at (form_of a.f) s a.p a.i c.requires.1)
