-- `slots::copy_short` meets its contract. Assumes nothing.
use Rattle.std.proofs.Common.{arith}
use Rattle.slots.proofs.CopiedTuples.{copied_last}
use Rattle.slots.proofs.copy_short.Goals as goal

pub returns-then-n : goal.returns-then-n
returns-then-n c = copied_last c.args.out.now c.args.src.now c.args.p 12 12 (omega arith) (omega arith) (omega arith) (omega arith) c.copy_one.ensures c.copy_one-then-n.ensures

pub returns : goal.returns
returns c = copied_last c.args.out.now c.args.src.now c.args.p 24 24 (omega arith) (omega arith) (omega arith) (omega arith) c.copy_two.ensures c.copy_two-2.ensures
