-- `page_renames::check_back` meets its contract. Assumes nothing.
use mathlib.Core.Path.{◌≡◌}
use mathlib.Core.List.{[]}
use mathlib.Core.Bool.{◌&&◌}
use Prim.Native.Nat.{◌-◌, ◌≤◌}
use lib.ListN.{get_or, drop}
use Rattle.names.specs.Ordering.{rising}
use Rattle.names.specs.Names.{fits}
use Rattle.std.specs.List.{list_all}
use Rattle.pages.specs.Pages.{names_of}
use Rattle.name_renames.specs.Renaming.{take_back}
use Rattle.one_name.specs.Backs.{shape_of}
use Rattle.one_name.proofs.StemsInBytes.{Tells}
use Rattle.page_renames.proofs.PageWalk.{results}
use Rattle.page_renames.proofs.check_back.Given as goal

-- the names before i fit, whether they rise, and what the stem of the last of them tells
abbrev pub invariant-loop-i : goal.invariant-loop-i
invariant-loop-i l =
    (list_all fits (drop l.i (results l.page (take_back l.author (names_of l.log)))) ≡ list_all fits (results l.page (take_back l.author (names_of l.log))))
    × (l.rises && rising (drop (l.i - 1) (results l.page (take_back l.author (names_of l.log)))) ≡ rising (results l.page (take_back l.author (names_of l.log))))
    × (1 ≤ l.i → Tells l.page l.log (get_or (names_of l.page) (l.i - 1) []) l.last (shape_of l.author (names_of l.log) (get_or (names_of l.page) (l.i - 1) [])))
