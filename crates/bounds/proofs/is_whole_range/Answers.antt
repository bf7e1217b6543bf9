-- `bounds::is_whole_range` meets its contract. Assumes nothing.
use mathlib.Core.Path.{sym}
use Rattle.base.specs.Form.{form_of}
use Rattle.base.proofs.Passed.{passing}
use Rattle.bounds.proofs.Asks.{whole_range_is}
use Rattle.bounds.proofs.is_whole_range.Goals as goal

pub nature_of-requires : goal.nature_of-requires
nature_of-requires c = search passing

pub returns : goal.returns
returns c = rw c.nature_of.ensures (sym (whole_range_is (form_of c.args.f) c.args.s.now))
