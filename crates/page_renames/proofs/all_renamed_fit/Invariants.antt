-- `page_renames::all_renamed_fit` meets its contract. Assumes nothing.
use mathlib.Core.Path.{◌≡◌}
use lib.ListN.{drop}
use Rattle.names.specs.Names.{fits}
use Rattle.std.specs.List.{list_all}
use Rattle.slots.specs.Slots.{name_of}
use Rattle.pages.specs.Pages.{names_of}
use Rattle.name_renames.specs.Renaming.{rename}
use Rattle.page_renames.specs.Renames.{all_fit}
use Rattle.page_renames.proofs.all_renamed_fit.Given as goal

abbrev pub invariant-loop-slot : goal.invariant-loop-slot
invariant-loop-slot l =
    list_all (λ s. fits (rename l.author (names_of l.log) (name_of s))) (drop l.slot-index l.slots) ≡ all_fit (rename l.author (names_of l.log)) l.page
