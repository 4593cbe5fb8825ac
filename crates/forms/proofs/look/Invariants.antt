-- `forms::look` meets its contract. Assumes nothing.
use Prim.Native.Nat.{◌-◌}
use lib.ListN.{length}
use Rattle.slots.specs.Tuples.{row_at}
use Rattle.forms.proofs.Looking.{Looking}
use Rattle.forms.proofs.look.Given as goal

abbrev pub invariant-loop-at : goal.invariant-loop-at
invariant-loop-at l = Looking l.form (row_at l.slot l.name) l.place l.last l.rises l.slots l.at

abbrev pub decreases-loop-at : goal.decreases-loop-at
decreases-loop-at l = length l.form - l.at
