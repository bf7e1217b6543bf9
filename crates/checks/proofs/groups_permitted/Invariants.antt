-- Each turn of `checks::groups_permitted` tests one number.
use Rattle.base.specs.Form.{form_of}
use Rattle.base.specs.Checks.{key_permitted, groups_permitted}
use Rattle.base.proofs.Holding.{Holding}
use Rattle.checks.proofs.groups_permitted.Given as goal

abbrev pub invariant-loop-i : goal.invariant-loop-i
invariant-loop-i l = Holding (key_permitted (form_of l.f) l.s) l.g l.i (groups_permitted (form_of l.f) l.s)
