-- `one_name::between` meets its contract. Assumes nothing.
use Prim.Native.Nat.{◌/◌}
use native.Mathlib.Omega.{arith}
use lib.ListN.{length}
use Rattle.slots.specs.Slots.{slot_size}
use Rattle.pages.proofs.SlotBySlot.{length_names}
use Rattle.one_name.proofs.between.Goals as goal

pub overflow_add-k : goal.overflow_add-k
overflow_add-k c =
    let log = c.args.log.now in
    omega (arith, length_names log (length log / slot_size))
