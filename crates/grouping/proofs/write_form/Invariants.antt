-- `grouping::write_form` meets its contract. Assumes nothing.
use mathlib.Core.Path.{◌≡◌}
use Prim.Native.Nat.{◌-◌, ◌≤◌}
use lib.ListN.{length}
use Rattle.pages.specs.Pages.{max_slots, slots_of}
use Rattle.grouping.proofs.GroupsWritten.{Grouping}
use Rattle.grouping.proofs.write_form.Given as goal

abbrev pub invariant-loop-k : goal.invariant-loop-k
invariant-loop-k l = (l.n ≡ length (slots_of l.page)) × (l.n ≤ max_slots) × Grouping (slots_of l.page) l.initial.out l.out l.p l.k

abbrev pub decreases-loop-k : goal.decreases-loop-k
decreases-loop-k l = l.n - l.k
