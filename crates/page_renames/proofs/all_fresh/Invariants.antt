-- `page_renames::all_fresh` meets its contract. Assumes nothing.
use mathlib.Core.Path.{◌≡◌}
use lib.ListN.{drop}
use Rattle.std.specs.List.{list_all}
use Rattle.slots.specs.Slots.{name_of}
use Rattle.pages.specs.Pages.{names_of}
use Rattle.name_renames.specs.Renaming.{fresh}
use Rattle.page_renames.proofs.all_fresh.Given as goal

abbrev pub invariant-loop-slot : goal.invariant-loop-slot
invariant-loop-slot l = list_all (λ s. fresh l.author (name_of s)) (drop l.slot-index l.slots) ≡ list_all (fresh l.author) (names_of l.page)
