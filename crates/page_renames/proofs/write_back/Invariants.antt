-- `page_renames::write_back` meets its contract. Assumes nothing.
use mathlib.Core.Path.{◌≡◌}
use Rattle.pages.specs.Pages.{names_of}
use Rattle.name_renames.specs.Renaming.{take_back}
use Rattle.page_renames.proofs.SlotBySlot.{standing}
use Rattle.page_renames.proofs.write_back.Given as goal

abbrev pub invariant-loop-i : goal.invariant-loop-i
invariant-loop-i l = standing (take_back l.author (names_of l.log)) l.page l.out l.i ≡ standing (take_back l.author (names_of l.log)) l.page l.initial.out 0
