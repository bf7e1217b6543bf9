-- What holds of every form that the code names. Assumes nothing.
use native.Mathlib.Omega.{arith}
use Rattle.base.specs.Form.{Laid, Small, form_of}
use Rattle.base.specs.declared.form.Form.{Form}
use Rattle.base.specs.declared.form.Form.TheVariants as N

pub laid : (f : Form) → Laid (form_of f)
laid N.Narrow = omega arith
laid N.Wide = omega arith

pub small : (f : Form) → Small (form_of f)
small N.Narrow = omega arith
small N.Wide = omega arith
