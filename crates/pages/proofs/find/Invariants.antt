-- `pages::find` meets its contract. Assumes nothing.
use mathlib.Core.List.{[]}
use Prim.Native.Nat.{ℕ, ◌-◌, ◌/◌, ◌<◌, ◌≤◌}
use lib.ListN.{length, get_or}
use Rattle.names.specs.Ordering.{◌<ⁿ◌}
use Rattle.slots.specs.Slots.{slot_size, name_of}
use Rattle.pages.specs.Pages.{names_of}
use Rattle.pages.proofs.find.Given as goal

abbrev pub invariant-loop-low : goal.invariant-loop-low
invariant-loop-low l =
    (l.low ≤ l.high) × (l.high ≤ length l.page / slot_size) × ((i : ℕ) → i < l.low → get_or (names_of l.page) i [] <ⁿ name_of l.slot)
    × ((i : ℕ) → l.high ≤ i → i < length (names_of l.page) → name_of l.slot <ⁿ get_or (names_of l.page) i [])

abbrev pub decreases-loop-low : goal.decreases-loop-low
decreases-loop-low l = l.high - l.low
