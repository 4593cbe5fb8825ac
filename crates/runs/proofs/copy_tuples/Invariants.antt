-- `runs::copy_tuples` meets its contract. Assumes nothing.
use Rattle.std.proofs.Common.{◌≡◌, ◌*◌, take, drop}
use Rattle.numbers.specs.Bytes.{put}
use Rattle.slots.specs.Tuples.{tuple_size}
use Rattle.runs.proofs.copy_tuples.Given as goal

abbrev pub invariant-loop-k : goal.invariant-loop-k
invariant-loop-k l = l.out ≡ put l.initial.out l.p (take (tuple_size * l.k) (drop l.at l.s))
