-- `read_messages::write_slot` meets its contract. Assumes nothing.
use mathlib.Core.Path.{ap}
use native.Mathlib.Omega.{arith}
use lib.ListN.{length}
use Rattle.slots.proofs.TuplesInBytes.{length_tuples_at}
use Rattle.read_messages.proofs.write_slot.Goals as goal

pub copy_slot-requires : goal.copy_slot-requires
copy_slot-requires c =
    let name = c.span_in in
    let x = name.result in
    (c.requires.2, (name.ensures.0, omega (arith, c.requires.1, ap length name.ensures.1, length_tuples_at c.args.message.now x.at x.count)))
