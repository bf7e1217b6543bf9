-- What `bytes_of` put at the start of the rest stands at the start of the slot. Assumes nothing.
use Rattle.slots.proofs.Laid.{slot_told}
use Rattle.slots.proofs.put_sheet.Goals as goal

pub returns : goal.returns
returns c = λ e.
    let puts = c.in-Some.ensures.puts in
    slot_told c.args.s.now c.args.k c.args.buf.now puts.0 puts.1 puts.2 e puts.3
