-- `page_renames::write_renamed` meets its contract. Assumes nothing.
use mathlib.Core.Path.{◌≡◌}
use mathlib.Core.List.{[]}
use Prim.Native.Nat.{◌/◌, ◌<◌, ◌≤◌}
use lib.ListN.{length, get_or}
use Rattle.slots.specs.Slots.{slot_size}
use Rattle.pages.specs.Pages.{names_of}
use Rattle.pages.specs.Places.{below}
use Rattle.name_renames.specs.Renaming.{rename}
use Rattle.page_renames.proofs.SlotBySlot.{standing}
use Rattle.page_renames.proofs.write_renamed.Given as goal

abbrev pub invariant-loop-i : goal.invariant-loop-i
invariant-loop-i l =
    (standing (rename l.author (names_of l.log)) l.page l.out l.i ≡ standing (rename l.author (names_of l.log)) l.page l.initial.out 0)
    × (l.i < length l.page / slot_size → l.below ≤ below (get_or (names_of l.page) l.i []) (names_of l.log))
