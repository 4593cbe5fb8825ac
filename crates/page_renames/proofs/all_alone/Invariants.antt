-- `page_renames::all_alone` meets its contract. Assumes nothing.
use mathlib.Core.Path.{◌≡◌}
use lib.ListN.{drop}
use Rattle.std.specs.List.{list_all}
use Rattle.pages.specs.Pages.{names_of}
use Rattle.name_renames.specs.Alone.{alone}
use Rattle.page_renames.proofs.all_alone.Given as goal

abbrev pub invariant-loop-i : goal.invariant-loop-i
invariant-loop-i l = list_all (alone l.author (names_of l.log)) (drop l.i (names_of l.page)) ≡ list_all (alone l.author (names_of l.log)) (names_of l.page)
