-- `slots::zero_up_to` meets its contract. Assumes nothing.
use Rattle.std.proofs.Common.{◌≡◌, ◌+◌, ◌*◌, ◌≤◌, true, drop}
use Rattle.numbers.specs.Bytes.{all_zero}
use Rattle.slots.specs.Tuples.{tuple_size}
use Rattle.slots.specs.Slots.{head_size}
use Rattle.slots.proofs.zero_up_to.Given as goal

abbrev pub invariant-loop-i : goal.invariant-loop-i
invariant-loop-i l = (l.d ≤ l.i) × (all_zero (drop (head_size + tuple_size * l.i) l.s) ≡ true)
