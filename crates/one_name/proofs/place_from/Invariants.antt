-- `one_name::place_from` meets its contract. Assumes nothing.
use mathlib.Core.List.{[]}
use Prim.Native.Nat.{ℕ, ◌<◌}
use lib.ListN.{get_or}
use Rattle.names.specs.Ordering.{◌<ⁿ◌}
use Rattle.slots.specs.Tuples.{row_at}
use Rattle.pages.specs.Pages.{names_of}
use Rattle.one_name.proofs.place_from.Given as goal

abbrev pub invariant-loop-k : goal.invariant-loop-k
invariant-loop-k l = (i : ℕ) → i < l.k → get_or (names_of l.log) i [] <ⁿ row_at l.s l.x
