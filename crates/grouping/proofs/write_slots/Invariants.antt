-- `grouping::write_slots` meets its contract. Assumes nothing.
use Prim.Native.Nat.{◌-◌}
use lib.ListN.{length}
use Rattle.grouping.proofs.SlotsWritten.{Ungrouping}
use Rattle.grouping.proofs.write_slots.Given as goal

abbrev pub invariant-loop-at : goal.invariant-loop-at
invariant-loop-at l = Ungrouping l.form l.initial.out l.out l.i l.at

abbrev pub decreases-loop-at : goal.decreases-loop-at
decreases-loop-at l = length l.form - l.at
