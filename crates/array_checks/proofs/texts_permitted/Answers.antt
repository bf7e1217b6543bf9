-- `array_checks::texts_permitted` meets its contract. Assumes nothing.
use Rattle.base.specs.Form.{form_of}
use Rattle.array_checks.proofs.Running.{running_more, running_done}
use Rattle.array_checks.proofs.texts_permitted.Goals as goal

pub loop-i-preserved : goal.loop-i-preserved
loop-i-preserved c =
    let z = c.requires in
    let v = c.u64_at-v in
    running_more (form_of c.args.f) c.args.s.now c.loop-i.invariant c.loop-i-test.true v.result (rw (v.ensures, c.value_at.ensures, z.groups, z.categories)) v.type_inv

pub returns : goal.returns
returns c = rw c.area_size.ensures (running_done (form_of c.args.f) c.args.s.now c.loop-i.invariant c.loop-i-test.false)
