-- `slots::copy_long` meets its contract. Assumes nothing.
use Rattle.std.proofs.Common.{◌≡◌, ◌≤◌, length, take}
use Rattle.numbers.specs.Bytes.{put}
use Rattle.slots.proofs.copy_long.Given as goal

abbrev pub invariant-loop-i : goal.invariant-loop-i
invariant-loop-i l = (l.i ≤ length l.src) × (l.out ≡ put l.initial.out l.p (take l.i l.src))
