-- `slots::write_slot` meets its contract. Assumes nothing.
use Rattle.std.proofs.Common.{arith}
use Rattle.names.specs.Names.{row_of}
use Rattle.slots.proofs.WrittenSlots.{slot_written}
use Rattle.slots.proofs.write_slot.Goals as goal

pub returns : goal.returns
returns c =
    let o = c.args.out.now in
    let a = row_of c.args.a in
    let d = c.tuples_in-d.result in
    slot_written o c.args.p (omega arith) c.args.line d a c.tuples_in-d.ensures.0
    c.write_head.ensures
    c.write_row.ensures
    c.write_rest.ensures
