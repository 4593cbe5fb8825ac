-- `read_messages::write_each` meets its contract. Assumes nothing.
use Rattle.read_messages.proofs.SecondPassSlots.{Placing}
use Rattle.read_messages.proofs.write_each.Given as goal

abbrev pub invariant-loop-i : goal.invariant-loop-i
invariant-loop-i l = Placing l.message l.initial.here.at l.n l.initial.out l.out l.here.at l.i
