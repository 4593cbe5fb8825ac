-- `slots::write_row` meets its contract. Assumes nothing.
use Rattle.std.proofs.Common.{◌≡◌, take}
use Rattle.names.specs.Names.{row_of}
use Rattle.numbers.specs.Bytes.{put}
use Rattle.slots.specs.Tuples.{row_bytes}
use Rattle.slots.proofs.write_row.Given as goal

abbrev pub invariant-loop-k : goal.invariant-loop-k
invariant-loop-k l = l.out ≡ put l.initial.out l.p (row_bytes (take l.k (row_of l.fn.a)))
