-- `slots::zero_after` meets its contract. Assumes nothing.
use Rattle.std.proofs.Common.{◌+◌, ◌*◌, sym, arith}
use Rattle.numbers.specs.Bytes.{is_zero}
use Rattle.numbers.proofs.Every.{every_end}
use Rattle.slots.specs.Tuples.{tuple_size}
use Rattle.slots.specs.Slots.{head_size}
use Rattle.slots.proofs.zero_after.Goals as goal

pub zero_up_to-requires : goal.zero_up_to-requires
zero_up_to-requires c = (omega arith, omega arith, sym (every_end is_zero c.args.s.now (head_size + tuple_size * c.args.room) (omega arith)))
