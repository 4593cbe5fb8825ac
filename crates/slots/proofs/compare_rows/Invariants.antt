-- `slots::compare_rows` meets its contract. Assumes nothing.
use Rattle.std.proofs.Common.{◌≡◌, ◌-◌, ◌≤◌}
use Rattle.names.specs.Ordering.{compare_rows}
use Rattle.slots.specs.Tuples.{tuples_at}
use Rattle.slots.proofs.PackedTuples.{left_from}
use Rattle.slots.proofs.compare_rows.Given as goal

abbrev pub invariant-loop-i : goal.invariant-loop-i
invariant-loop-i l = (l.i ≤ l.most) × (left_from l.a l.p l.n l.b l.q l.m l.i ≡ compare_rows (tuples_at l.a l.p l.n) (tuples_at l.b l.q l.m))

abbrev pub decreases-loop-i : goal.decreases-loop-i
decreases-loop-i l = l.most - l.i
