-- `transforms::right_code` meets its contract. Assumes nothing.
use mathlib.Core.Path.{sym, ap, ◌∙◌}
use mathlib.Core.Bool.{Bool, cond}
use Rattle.base.specs.Form.{form_of}
use Rattle.base.specs.Checks.{read}
use Rattle.base.specs.Code.{code_of}
use Rattle.transforms.specs.Code.{right_code_of}
use Rattle.transforms.proofs.right_code.Goals as goal

pub returns : goal.returns
unfolding right_code_of
returns c =
    let a = c.args in
    c.check_sheet.ensures ∙ sym (ap (λ (t : Bool). cond t 0 (code_of (read (form_of a.f) a.right.now))) (sym c.is_unary.ensures ∙ c.if-is_unary.false))
