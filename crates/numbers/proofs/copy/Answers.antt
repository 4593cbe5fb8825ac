-- `numbers::copy` meets its contract. Assumes nothing.
use native.Mathlib.Omega.{arith}
use Rattle.numbers.proofs.Put.{copied_more}
use Rattle.numbers.proofs.copy.Goals as goal

pub loop-i-preserved : goal.loop-i-preserved
loop-i-preserved c = copied_more c.args.out.now c.args.src.now c.loop-i.out c.args.p c.loop-i.i c.requires c.loop-i-test.true c.loop-i.invariant (omega arith)
